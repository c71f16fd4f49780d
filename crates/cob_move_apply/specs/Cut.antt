-- Which moves of an entry of the output record may be carried out as their single moves.
use Rattle.std.specs.Prelude.{◌≡◌, ◌⊎◌, ◌+◌, ◌≤◌, true, false, List, [], length}
use Rattle.std.specs.List.{AllByRecursion}
use Rattle.cob_copybook_tree.specs.Forests.{Forest}
use Rattle.cob_copybook_tree.specs.Nodes.{Resolved}
use Rattle.cob_layout.specs.declared.fields.Place.{Place}
use Rattle.cob_layout_places.specs.Counts.{tables_of}
use Rattle.cob_move_data.specs.declared.operands.Operand.{Operand}
use Rattle.cob_move_data.specs.declared.operands.Side.TheVariants.{In, Out}
use Rattle.cob_move_data.specs.Moves.{Entry, Literal, Records, Sender}
use Rattle.cob_move_apply.specs.Placed.{IsFixed}

-- two places share no byte
abbrev pub ArePlacesApart : Place → Place → Type 0
ArePlacesApart p q = (p.offset + p.length ≤ q.offset) ⊎ (q.offset + q.length ≤ p.offset)

-- a receiver stands at one place in every storage, apart from this one
abbrev pub LeavesPlace : Forest Resolved → Place → Operand → Type 0
LeavesPlace tree from o = (to : Place) × IsFixed tree true o to × ArePlacesApart from to

-- Receivers leave what an entry of their record sends: it stands at one place in every storage, each of them at another one apart from it, and no table of the
-- record varies.
pub record LeaveEntry (tree : Forest Resolved) (o : Operand) (os : List Operand) : Type 0 where
  pub from : Place
  pub sends : IsFixed tree false o from
  pub leave : AllByRecursion (LeavesPlace tree from) os
  pub none : tables_of tree ≡ []

-- a move of an entry of their record may be carried out as its single moves: there is one receiver, or they leave what it sends
abbrev pub MayCutEntry : Forest Resolved → Operand → List Operand → Type 0
MayCutEntry tree o os = (length os ≡ 1) ⊎ LeaveEntry tree o os

-- receivers leave what a sender of their record gives
abbrev pub LeaveSender : Records → Sender → List Operand → Type 0
LeaveSender r (Entry Out reading o) os = LeaveEntry r.output o os
LeaveSender r (Entry In reading o) os = ⊥
LeaveSender r (Literal c) os = ⊥
