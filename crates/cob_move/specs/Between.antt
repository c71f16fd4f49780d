-- The pairs of two groups, as they are found.
use Rattle.std.specs.Prelude.{◌≡◌}
use Rattle.cob_move_data.specs.declared.operands.NumberedPair.{NumberedPair}
use Rattle.cob_move_data.specs.Moves.{Records}
use Rattle.cob_copybook_tree.specs.Nodes.{tree_of}
use Rattle.cob_move_receive.specs.Table.{Entry as EntryOf}
use Rattle.cob_move_receive.specs.Refusals.{IsAllowed}
use Rattle.cob_move_names.specs.declared.correspondences.Correspondences.{Correspondences}
use Rattle.cob_move_names.specs.Between.{PairEnds, ends_of}
use Rattle.cob_move_names.specs.Pairs.{Pair}

-- the pairs are those of groups of these records
pub record ArePairsOf (r : Records) (pairs : Correspondences) : Type 0 where
  pub input : tree_of pairs.input.now ≡ r.input
  pub output : tree_of pairs.output.now ≡ r.output

-- the numbers of the two entries of a pair
abbrev pub numbers_of : PairEnds → NumberedPair
numbers_of e = record { from = e.from.number; to = e.to.number }

-- a pair of the definition by the numbers of its entries
abbrev pub numbered : Pair → NumberedPair
numbered p = numbers_of (ends_of p)

-- the move of a pair is one that the table of categories has
abbrev pub MayMoveBetween : PairEnds → Type 0
MayMoveBetween e = IsAllowed (EntryOf e.from.kind) e.to.kind
