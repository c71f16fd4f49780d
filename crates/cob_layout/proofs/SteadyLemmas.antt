-- No redefinition is longer than its area, under whatever counts: neither varies.
use Rattle.std.proofs.Common.{◌≡◌, ℕ, ◌+◌, ◌*◌, ◌≤◌, Bool, true, false, ◌||◌, List, [], ◌∷◌, ◌++◌, Option, Some, None, refl, ap, ◌∙◌, arith}
use Rattle.cob_copybook_tree.specs.declared.node.ResolvedOccurs.{ResolvedOccurs}
use Rattle.cob_copybook_tree.specs.declared.node.ResolvedOccurs.TheVariants.{Once, Fixed, Varying}
use Rattle.cob_copybook_tree.specs.Forests.{Forest, NoEntries, AnEntry, Tree}
use Rattle.cob_copybook_tree.specs.Nodes.{Resolved, is_varying}
use Rattle.cob_copybook_tree.specs.Lengths.{greatest_number, greatest_number_by, length_by_kind, own_length, whole_length, sum_of}
use Rattle.cob_copybook_rules.specs.Areas.{hold_varying, HasFixedLength, MayFollow, AreAreas, area_with}
use Rattle.cob_layout_places.specs.Lengths.{area_by, times, times_by}

-- under these counts no redefinition is longer than its area, where the area before these entries has this length
abbrev pub AreInAreasBy : (Resolved → ℕ) → ℕ → Forest Resolved → Type 0
AreInAreasBy c area NoEntries = Unit {0}
AreInAreasBy c area (AnEntry e children more) =
    let after = area_by e.redefines area (whole_length c e children) in
    (whole_length c e children ≤ after) × AreInAreasBy c 0 children × AreInAreasBy c after more

neither : (a b : Bool) → (a || b) ≡ false → (a ≡ false) × (b ≡ false)
neither false false e = (refl, refl)
neither false true e = cc
neither true b e = cc

pub steady_times : (n : ℕ) (o : ResolvedOccurs) → is_varying o ≡ false → times_by n o ≡ greatest_number_by o
steady_times n Once e = refl
steady_times n (Fixed k) e = refl
steady_times n (Varying least most count) e = cc

steady_sum : (counts : List ℕ) (f : Forest Resolved) → hold_varying f ≡ false → sum_of (times counts) f ≡ sum_of greatest_number f
steady_sum counts NoEntries e = refl
steady_sum counts (AnEntry e children more) h =
    let (own, rest) = neither (is_varying e.occurs) (hold_varying children || hold_varying more) h in
    let (in_kids, in_more) = neither (hold_varying children) (hold_varying more) rest in
    let t : times counts e ≡ greatest_number e = steady_times _ e.occurs own in
    let s : sum_of (times counts) children ≡ sum_of greatest_number children = steady_sum counts children in_kids in
    let r : sum_of (times counts) more ≡ sum_of greatest_number more = steady_sum counts more in_more in
    ap (λ (n : ℕ). own_length e.redefines (n * length_by_kind e.kind (sum_of (times counts) children)) + sum_of (times counts) more) t
    ∙ ap (λ (n : ℕ). own_length e.redefines (greatest_number e * length_by_kind e.kind n) + sum_of (times counts) more) s
    ∙ ap (λ (n : ℕ). own_length e.redefines (greatest_number e * length_by_kind e.kind (sum_of greatest_number children)) + n) r

steady_whole : (counts : List ℕ) (t : Tree Resolved) → HasFixedLength t → whole_length (times counts) t.top t.beneath ≡ whole_length greatest_number t.top t.beneath
steady_whole counts t h =
    let (own, rest) = neither (is_varying t.top.occurs) (hold_varying t.beneath || false) h in
    let (in_kids, nothing) = neither (hold_varying t.beneath) false rest in
    let n : times counts t.top ≡ greatest_number t.top = steady_times _ t.top.occurs own in
    let s : sum_of (times counts) t.beneath ≡ sum_of greatest_number t.beneath = steady_sum counts t.beneath in_kids in
    ap (λ (k : ℕ). k * length_by_kind t.top.kind (sum_of (times counts) t.beneath)) n ∙ ap (λ (k : ℕ). greatest_number t.top * length_by_kind t.top.kind k) s

-- the area that these share is so long
abbrev IsSpace : List ℕ → List (Tree Resolved) → ℕ → Type 0
IsSpace counts [] space = Unit {0}
IsSpace counts (t ∷ ts) space = space ≡ whole_length (times counts) t.top t.beneath

still : (counts : List ℕ) (area : List (Tree Resolved)) (t : Tree Resolved) (space : ℕ) (name : List ℕ) → MayFollow (Some name) area t → IsSpace counts area space → IsSpace counts (area ++ t ∷ []) space
still counts [] t space name h s = absurd h.1
still counts (first ∷ ts) t space name h s = s

within : (counts : List ℕ) (area : List (Tree Resolved)) (t : Tree Resolved) (space : ℕ) (name : List ℕ) → MayFollow (Some name) area t → IsSpace counts area space → whole_length (times counts) t.top t.beneath ≤ space
within counts [] t space name h s = absurd h.1
within counts (first ∷ ts) t space name h s = omega (arith, s, steady_whole counts first h.1.steady, steady_whole counts t h.1.also_steady, h.1.fits)

pub areas_by : (counts : List ℕ) (f : Forest Resolved) (area : List (Tree Resolved)) (space : ℕ) → AreAreas area f → IsSpace counts area space → AreInAreasBy (times counts) space f
areas_by counts NoEntries area space h s = tt
areas_by counts (AnEntry e children more) area space h s = by e.redefines h.0 (areas_by counts children [] 0 h.1 tt) (λ a sp. areas_by counts more a sp) h.2
  where
    by : (o : Option (List ℕ)) → MayFollow o area (record { top = e; beneath = children }) → AreInAreasBy (times counts) 0 children
        → ((a : List (Tree Resolved)) (sp : ℕ) → AreAreas a more → IsSpace counts a sp → AreInAreasBy (times counts) sp more)
        → AreAreas (area_with o area (record { top = e; beneath = children })) more
        → (whole_length (times counts) e children ≤ area_by o space (whole_length (times counts) e children)) × AreInAreasBy (times counts) 0 children × AreInAreasBy (times counts) (area_by o space (whole_length (times counts) e children)) more
    by None follow inside go rest = (omega arith, inside, go (record { top = e; beneath = children } ∷ []) (whole_length (times counts) e children) rest refl)
    by (Some name) follow inside go rest = (
      within counts area (record { top = e; beneath = children }) space name follow s,
      inside,
      go (area ++ (record { top = e; beneath = children }) ∷ []) space rest (still counts area (record { top = e; beneath = children }) space name follow s),
    )
