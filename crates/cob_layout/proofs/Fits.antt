-- The lengths and areas of a record are as its places need them.
use Rattle.std.proofs.Common.{◌≡◌, subst, ℕ, ◌≤◌, List, [], ◌∷◌, refl, arith}
use Rattle.std.specs.Prelude.{Option, Some, None}
use Rattle.cob_copybook_tree.specs.Forests.{Forest, NoEntries, AnEntry, Tree}
use Rattle.cob_copybook_tree.specs.Nodes.{Resolved}
use Rattle.cob_copybook_tree.specs.Lengths.{greatest_number, whole_length}
use Rattle.cob_copybook_rules.specs.Areas as areas
use Rattle.cob_copybook_rules.specs.Areas.{AreAreas, MayFollow, area_with}
use Rattle.cob_layout_places.specs.Lengths.{area_by, MayOccur, AreInAreas, AreLeaves}
use Rattle.cob_layout.specs.Sound.{RedefinesNothing}
use Rattle.cob_copybook.proofs.Ones.{IsOne}

-- each entry occurs once at least under greatest counts
pub may_occur : (f : Forest Resolved) → areas.ArePossible f → MayOccur f
may_occur NoEntries h = tt
may_occur (AnEntry e children more) h = (h.0, may_occur children h.2, may_occur more h.3)

-- nothing stands beneath items
pub leaves : (f : Forest Resolved) → areas.ArePossible f → AreLeaves f
leaves NoEntries h = tt
leaves (AnEntry e children more) h = (h.1, leaves children h.2, leaves more h.3)

-- the length of an area is that of the first of the entries that share it
abbrev area_length : List (Tree Resolved) → ℕ
area_length [] = 0
area_length (first ∷ ts) = whole_length greatest_number first.top first.beneath

-- an entry stays in the area that it begins, or redefines
stays : (r : Option (List ℕ)) (area : List (Tree Resolved)) (t : Tree Resolved) → MayFollow r area t → whole_length greatest_number t.top t.beneath ≤ area_by r (area_length area) (whole_length greatest_number t.top t.beneath)
stays None area t h = omega arith
stays (Some name) [] t h = absurd h.1
stays (Some name) (first ∷ ts) t h = h.1.fits

-- which is the area of the entries behind it
same_area : (r : Option (List ℕ)) (area : List (Tree Resolved)) (t : Tree Resolved) → MayFollow r area t → area_length (area_with r area t) ≡ area_by r (area_length area) (whole_length greatest_number t.top t.beneath)
same_area None area t h = refl
same_area (Some name) [] t h = absurd h.1
same_area (Some name) (first ∷ ts) t h = refl

-- where redefinitions stand where they may, each stays in its area
pub in_areas : (area : List (Tree Resolved)) (f : Forest Resolved) → AreAreas area f → AreInAreas (area_length area) f
in_areas area NoEntries h = tt
in_areas area (AnEntry e children more) h =
    let t : Tree Resolved = record { top = e; beneath = children } in
    let here = stays e.redefines area t h.0 in
    let below = in_areas [] children h.1 in
    let beside = in_areas (area_with e.redefines area t) more h.2 in
    (here, below, subst (λ (n : ℕ). AreInAreas n more) (same_area e.redefines area t h.0) beside)

-- nothing stands before a record that it could redefine
redefines_none : (r : Option (List ℕ)) (t : Tree Resolved) → MayFollow r [] t → r ≡ None
redefines_none None t h = refl
redefines_none (Some name) t h = absurd h.0

-- so the one entry that there is redefines nothing
pub redefines_nothing : (f : Forest Resolved) → IsOne f → AreAreas [] f → RedefinesNothing f
redefines_nothing NoEntries one h = absurd one
redefines_nothing (AnEntry e children NoEntries) one h = redefines_none e.redefines (record { top = e; beneath = children }) h.0
redefines_nothing (AnEntry e children (AnEntry d kids more)) one h = absurd one
