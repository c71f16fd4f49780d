-- Which pairs were found.
use Rattle.std.specs.Prelude.{ℕ, List, IsSome}
use Rattle.cob_copybook_tree.specs.Nodes.{tree_of}
use Rattle.indexmap.specs.IndexMap.{get_by}
use Rattle.cob_move_data.specs.declared.operands.Side.{Side}
use Rattle.cob_move_data.specs.declared.operands.Side.TheVariants.{In, Out}
use Rattle.cob_move_names.specs.declared.correspondences.Correspondences.{Correspondences}
use Rattle.cob_move_names.specs.declared.sending.SendingRecord.{SendingRecord}
use Rattle.cob_move_names.specs.Between.{entries_of, pairs_below}
use Rattle.cob_move_names.specs.Keys.{same_groups}
use Rattle.cob_move_names.specs.Pairs.{Pair}

-- what was found of the groups of a side's record
abbrev pub sending_record : Correspondences → Side → SendingRecord
sending_record c In = c.from_input
sending_record c Out = c.from_output

-- The pairs of the sending group with this number in this side's record and the receiving one with that number were found.
abbrev pub ArePairsFound : Correspondences → Side → ℕ → ℕ → Type 0
ArePairsFound c side from to = IsSome (get_by (same_groups from to) (sending_record c side).lists)

-- The pairs of the sending group with this number in this side's record and the receiving one with that number.
abbrev pub pairs_between : Correspondences → Side → ℕ → ℕ → List Pair
pairs_between c side from to = pairs_below (entries_of (tree_of c.input.now) (tree_of c.output.now) side) (tree_of c.output.now) from to
