-- Entries in areas: lengths that stay within that of the longest record, and the entries that share an area.
use Rattle.std.proofs.Common.{◌≡◌, ℕ, ◌+◌, ◌*◌, ◌<◌, ◌≤◌, List, [], ◌∷◌, ◌++◌, Option, None, Some, true, false, refl, arith}
use Rattle.std.proofs.Math.Nat.{mul-le-mul_right}
use Rattle.std.specs.Option.{is_some}
use Rattle.cob_copybook_tree.specs.declared.node.Kind.{Kind}
use Rattle.cob_copybook_tree.specs.declared.node.Kind.TheVariants.{Group, Item as ItemKind}
use Rattle.cob_copybook_tree.specs.Forests.{Forest, NoEntries, AnEntry, Tree}
use Rattle.cob_copybook_tree.specs.Nodes.{Resolved, MayHold}
use Rattle.cob_copybook_tree.specs.Lengths.{greatest_number, own_length, length_by_kind, sum_of, whole_length}
use Rattle.cob_limits.specs.Limits.{longest_record}
use Rattle.cob_copybook_rules.specs.Areas.{MayFollow, area_with}
use Rattle.cob_copybook_rules.specs.Short.{IsShortArea}

-- an entry that may stand there isn't longer than a record: it is a part of a row that isn't, or redefines an area that isn't
pub whole_short : (o : Option (List ℕ)) (area : List (Tree Resolved)) (t : Tree Resolved) (rest : ℕ) → IsShortArea area → MayFollow o area t → own_length o (whole_length greatest_number t.top t.beneath) + rest ≤ longest_record
    → whole_length greatest_number t.top t.beneath ≤ longest_record
whole_short None area t rest a m s = omega arith
whole_short (Some name) [] t rest a m s = absurd m.1
whole_short (Some name) (first ∷ ts) t rest a m s = omega (arith, m.1.fits, a)

beneath_by : (k : Kind) (children : Forest Resolved) (n : ℕ) → 0 < n → MayHold k children → n * length_by_kind k (sum_of greatest_number children) ≤ longest_record → sum_of greatest_number children ≤ longest_record
beneath_by Group children n some may short = let least : 1 ≤ n = omega arith in omega (arith, short, mul-le-mul_right (sum_of greatest_number children) least)
beneath_by (ItemKind i) NoEntries n some may short = omega arith
beneath_by (ItemKind i) (AnEntry e children more) n some may short = absurd may

-- those beneath an entry together aren't longer than it
pub beneath_short : (t : Tree Resolved) → 0 < greatest_number t.top → MayHold t.top.kind t.beneath → whole_length greatest_number t.top t.beneath ≤ longest_record → sum_of greatest_number t.beneath ≤ longest_record
beneath_short t some may short = beneath_by t.top.kind t.beneath (greatest_number t.top) some may short

-- the area goes on, or another one begins
pub joined_short : (o : Option (List ℕ)) (area : List (Tree Resolved)) (t : Tree Resolved) → IsShortArea area → MayFollow o area t → whole_length greatest_number t.top t.beneath ≤ longest_record → IsShortArea (area_with o area t)
joined_short None area t a m s = s
joined_short (Some name) [] t a m s = s
joined_short (Some name) (first ∷ ts) t a m s = a

pub joined_fresh : (o : Option (List ℕ)) (area : List (Tree Resolved)) (t : Tree Resolved) → is_some o ≡ false → area_with o area t ≡ t ∷ []
joined_fresh None area t h = refl
joined_fresh (Some x) area t h = absurd cc

pub joined_more : (o : Option (List ℕ)) (area : List (Tree Resolved)) (t : Tree Resolved) → is_some o ≡ true → area_with o area t ≡ area ++ t ∷ []
joined_more None area t h = absurd cc
joined_more (Some x) area t h = refl
