-- The pairs below the groups of two records.
use Rattle.std.specs.Prelude.{◌≡◌, ℕ, List, map}
use Rattle.cob_copybook_tree.specs.declared.node.Kind.{Kind}
use Rattle.cob_copybook_tree.specs.Forests.{Forest}
use Rattle.cob_copybook_tree.specs.Nodes.{Resolved}
use Rattle.cob_copybook_tree.specs.declared.node.Node.TheViews.{out-Node}
use Rattle.cob_move_data.specs.declared.operands.Side.{Side}
use Rattle.cob_move_data.specs.declared.operands.Side.TheVariants.{In, Out}
use Rattle.cob_move_names.specs.declared.pair.EntryPair.{EntryPair}
use Rattle.cob_move_names.specs.Groups.{entries_below}
use Rattle.cob_move_names.specs.Pairs.{AreOnce, Pair, corresponding_pairs}

-- the entries of a side's record
abbrev pub entries_of : Forest Resolved → Forest Resolved → Side → Forest Resolved
entries_of input output In = input
entries_of input output Out = output

-- The pairs of what is below a group of the sending record and a group of the receiving one, each named by its number, in the order of the
-- sending group.
abbrev pub pairs_below : Forest Resolved → Forest Resolved → ℕ → ℕ → List Pair
pairs_below sending receiving from to = corresponding_pairs (entries_below from sending) (entries_below to receiving)

-- An entry in a pair: its number, and what it describes.
pub record End : Type 0 where
  pub number : ℕ
  pub kind : Kind

-- The two entries of a pair, without the names by which they correspond.
pub record PairEnds : Type 0 where
  pub from : End
  pub to : End

-- the two entries of a pair of the definition
abbrev pub ends_of : Pair → PairEnds
ends_of p = record { from = record { number = p.from.number; kind = p.from.kind }; to = record { number = p.to.number; kind = p.to.kind } }

-- the two entries that a listed pair refers to
abbrev pub ends : EntryPair → PairEnds
ends p = record {
  from = record { number = (out-Node p.from.now).number; kind = (out-Node p.from.now).kind };
  to = record { number = (out-Node p.to.now).number; kind = (out-Node p.to.now).kind };
}

-- These are the entries of just these pairs, in their order, and no entry is in two of them.
pub record AreFoundPairs (ps : List Pair) (list : List EntryPair) : Type 0 where
  pub pairs : map ends list ≡ map ends_of ps
  pub once : AreOnce ps
