-- The pairs of two groups as numbers, and why there are none.
use Rattle.std.specs.Prelude.{◌≡◌, ℕ, Bool, true, false, ◌||◌, List, map}
use Rattle.cob_copybook_tree.specs.Forests.{Forest, NoEntries, AnEntry}
use Rattle.cob_copybook_tree.specs.Nodes.{Resolved}
use Rattle.cob_move_statements.specs.declared.fault.MoveRule.{MoveRule}
use Rattle.cob_move_statements.specs.declared.fault.MoveRule.TheVariants as rule
use Rattle.cob_move_names.specs.Pairs.{AreOnce, Pair, Subordinate, corresponding_pairs, is_elementary, receives, sends}

-- two entries as a pair
abbrev pub paired : Subordinate → Subordinate → Pair
paired from to = record { from = from; to = to }

-- the numbers of the two entries
abbrev pub pair_numbers : Pair → ℕ × ℕ
pair_numbers p = (p.from.number, p.to.number)

-- An entry is in two of the pairs (M9), or memory was refused (M19).
abbrev pub IsTwice : MoveRule → List Pair → Type 0
IsTwice rule.Twice ps = AreOnce ps → ⊥
IsTwice rule.Memory ps = Unit {0}
IsTwice r ps = ⊥

-- neither entry of the pair is in one of these pairs on its side
abbrev pub IsUnpaired : Pair → List Pair → Type 0
IsUnpaired p ps = (sends p.from.number ps ≡ 0) × (receives p.to.number ps ≡ 0)

-- an entry with those beneath it is no group
abbrev pub is_elementary_entry : Forest Resolved → Bool
is_elementary_entry NoEntries = true
is_elementary_entry (AnEntry e children more) = is_elementary e.kind

-- the entries beneath it
abbrev pub those_beneath : Forest Resolved → Forest Resolved
those_beneath NoEntries = NoEntries
those_beneath (AnEntry e children more) = children

-- Both are groups, no entry is in two of their pairs, and these are the numbers of the pairs.
pub record IsPairing (from to : Forest Resolved) (numbers : List (ℕ × ℕ)) : Type 0 where
  pub groups : (is_elementary_entry from || is_elementary_entry to) ≡ false
  pub once : AreOnce (corresponding_pairs (those_beneath from) (those_beneath to))
  pub pairs : numbers ≡ map pair_numbers (corresponding_pairs (those_beneath from) (those_beneath to))

-- One of the two is no group (M8), an entry is in two of their pairs (M9), or memory was refused (M19).
abbrev pub IsPairingFault : MoveRule → Forest Resolved → Forest Resolved → Type 0
IsPairingFault rule.Groups from to = (is_elementary_entry from || is_elementary_entry to) ≡ true
IsPairingFault r from to = IsTwice r (corresponding_pairs (those_beneath from) (those_beneath to))
