-- Places of senders lie within a record's bytes.
use Rattle.std.proofs.Common.{◌≡◌, ℕ, ◌+◌, ◌≤◌, Bool, true, false, List, [], ◌∷◌, Option, Some, None, refl, sym, ap, ◌∙◌, arith, inl, inr, Ok, Err, Result}
use Rattle.std.specs.Prelude.{option_map, if◌then◌else◌}
use Rattle.cob_copybook_tree.specs.Forests.{Forest}
use Rattle.cob_copybook_tree.specs.Nodes.{Resolved}
use Rattle.cob_copybook_tree.specs.Lengths.{sum_of}
use Rattle.cob_copybook.specs.Books.{IsRecordDescription}
use Rattle.cob_layout.specs.declared.fields.Place.{Place}
use Rattle.cob_layout_places.specs.declared.places.Found.{Found}
use Rattle.cob_layout_places.specs.declared.varying.Table.{Table}
use Rattle.cob_layout_places.specs.Lengths.{times}
use Rattle.cob_layout_places.specs.Places.{place_of}
use Rattle.cob_layout_places.specs.Counts.{tables_of}
use Rattle.cob_layout_places.specs.References.{Refers}
use Rattle.cob_layout_places.proofs.ForestLemmas.{sum_le, within_always}
use Rattle.cob_layout.specs.declared.layout.PlaceFault.{PlaceFault}
use Rattle.cob_layout.specs.Placed.{placed}
use Rattle.cob_layout.specs.Counting.{AreThose, IsSparedOf}
use Rattle.cob_layout.specs.Laws.{AllGiveNeeded, EndInLength, LieInStorage, OneOfNeeded}

-- an answer that is a place
abbrev place_in : Place → Result Place PlaceFault → Place
place_in d (Ok a) = a
place_in d (Err e) = d

abbrev is_ok : Result Place PlaceFault → Bool
is_ok (Ok a) = true
is_ok (Err e) = false

answered : (o l : ℕ) (w : Bool) (p : Place)
    → if◌then◌else◌ {A = Result Place PlaceFault} w (Ok record { offset = o; length = l }) (Err record { offset = o }) ≡ Ok p
    → (w ≡ true) × (p.offset ≡ o) × (p.length ≡ l)
answered o l true p e = (refl, sym (ap (λ (r : Result Place PlaceFault). (place_in p r).offset) e), sym (ap (λ (r : Result Place PlaceFault). (place_in p r).length) e))
answered o l false p e = let never : false ≡ true = ap is_ok e in cc

some_is : {A : Type 0} (a b : A) → Some a ≡ Some b → a ≡ b
some_is a b e = cc

-- a place that is answered is one that is found and there
pub found_by : (o : Option Found) (p : Place) → option_map placed o ≡ Some (Ok p)
    → (f : Found) × (o ≡ Some f) × (f.within ≡ true) × (p.offset ≡ f.offset) × (p.length ≡ f.length)
found_by None p e = cc
found_by (Some f) p e =
    let (there, offset, size) = answered f.offset f.length f.within p (some_is (placed f) (Ok p) e) in
    (f, refl, there, offset, size)

-- under any counts it lies within as many bytes as these give
lies : EndInLength → (t : Forest Resolved) (counts : List ℕ) (r : ℕ) (subscripts : List ℕ) (p : Place) → IsRecordDescription t → Refers r subscripts t
    → option_map placed (place_of (times counts) r t 0 0 subscripts) ≡ Some (Ok p) → p.offset + p.length ≤ sum_of (times counts) t
lies law t counts r subscripts p is refers at =
    let (f, found, there, offset, size) = found_by (place_of (times counts) r t 0 0 subscripts) p at in
    omega (arith, law t counts r subscripts f is refers found there, offset, size)

-- a sender is spared no count
none_spared : (t : Forest Resolved) (r : ℕ) (xs : List Table) → AreThose (IsSparedOf t r false) xs []
none_spared t r [] = refl
none_spared t r (x ∷ xs) = inr ((λ (s : IsSparedOf t r false x). let never : false ≡ true = s.0 in cc), none_spared t r xs)

ok_is : {A : Type 0} {E : Type 0} (a b : A) → ◌≡◌ {A = Result A E} (Ok a) (Ok b) → a ≡ b
ok_is a b e = cc

pub lie_in_storage : EndInLength → AllGiveNeeded → OneOfNeeded → LieInStorage
lie_in_storage law all one t bytes counts r subscripts p is (inl long) refers needs at =
    omega (arith, long, lies law t counts r subscripts p is refers at, sum_le (times counts) t (within_always counts t))
lie_in_storage law all one t bytes counts r subscripts p is (inr (c, own, long)) refers needs at =
    let (d, given, same) = all t bytes c r false subscripts [] is refers own (none_spared t r (tables_of t)) in
    let equal : counts ≡ d = ok_is counts d (one t r false bytes (Ok counts) (Ok d) needs given) in
    let there : option_map placed (place_of (times c) r t 0 0 subscripts) ≡ Some (Ok p) =
    ap (λ (o : Option Found). option_map placed o) (sym same)
    ∙ ap (λ (k : List ℕ). option_map placed (place_of (times k) r t 0 0 subscripts)) (sym equal) ∙ at in
    omega (arith, long, lies law t c r subscripts p is refers there)
