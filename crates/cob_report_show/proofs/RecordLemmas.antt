-- A record that came, and its places.
use Rattle.std.proofs.Common.{◌≡◌, ℕ, ◌≤◌, List, refl, sym, subst, arith}
use Rattle.cob_copybook_tree.specs.Forests.{Forest}
use Rattle.cob_copybook_tree.specs.Lengths.{greatest_number, sum_of}
use Rattle.cob_copybook_tree.specs.Nodes.{Resolved}
use Rattle.cob_layout_places.specs.Lengths.{times}
use Rattle.cob_layout_places.specs.Spots.{spots_of}
use Rattle.cob_layout_places.proofs.ForestLemmas.{sum_le, within_always}
use Rattle.cob_layout.specs.Standing.{Standing, ArePlaces, StandsIn}
use Rattle.cob_layout.specs.Storage.{current_length}
use Rattle.cob_records.specs.declared.records.Form.{Form}
use Rattle.cob_records.specs.declared.records.Form.TheVariants.{Fixed, Variable, Blocked}
use Rattle.cob_records.specs.Frame.{IsLength}
use Rattle.cob_convert_stream.specs.Sizes.{IsFitting}
use Rattle.cob_report_show.specs.Records.{HoldsRecord}

-- places under some counts are places under their own
pub own_places : (tree : Forest Resolved) (counts : List ℕ) (s : Standing) → ArePlaces tree counts s → ArePlaces tree s.counts s
own_places tree counts s are = (refl, subst (λ (c : List ℕ). s.spots ≡ spots_of (times c) tree 0 0) (sym are.0) are.1)

pub holds_record : (form : Form) (tree : Forest Resolved) (s : Standing) (bytes : List ℕ) (count : ℕ) → StandsIn tree bytes s → IsLength form (sum_of greatest_number tree) count
    → IsFitting form (current_length s.counts tree) count → HoldsRecord tree s count
holds_record Fixed tree s bytes count stands long fits =
    (own_places tree stands.0 s stands.2, omega (arith, long, sum_le (times s.counts) tree (within_always s.counts tree)))
holds_record Variable tree s bytes count stands long fits = (own_places tree stands.0 s stands.2, omega (arith, fits))
holds_record (Blocked most) tree s bytes count stands long fits = (own_places tree stands.0 s stands.2, omega (arith, fits))

pub length_fits : (form : Form) (greatest count long : ℕ) → IsLength form greatest count → long ≡ greatest → count ≤ long
length_fits Fixed greatest count long is room = omega (arith, is, room)
length_fits Variable greatest count long is room = omega (arith, is.1, room)
length_fits (Blocked most) greatest count long is room = omega (arith, is.1, room)
