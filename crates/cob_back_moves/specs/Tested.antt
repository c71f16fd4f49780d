-- What is asked of single moves, as the code knows them.
use Rattle.std.specs.Prelude.{List}
use Rattle.std.specs.List.{AllByRecursion}
use Rattle.cob_copybook_tree.specs.Nodes.{tree_of}
use Rattle.cob_layout.specs.Sound.{IsSound}
use Rattle.cob_move_data.specs.Moves.{AreMoves, IsOperand, IsSender, Move, Records, Sender}
use Rattle.cob_back_moves.specs.Returns.{BearsName}
use Rattle.cob_move_data.specs.Singles.{PlainSent, PlainSingle, SingleMove, all_singles, sender_between, single_between}
use Rattle.cob_back_moves.specs.Singles.{IsElementary, SendsPictured}
use Rattle.cob_back_moves.specs.declared.single.BothLayouts.{BothLayouts}
use Rattle.cob_back_moves.specs.declared.single.Test.{Test}
use Rattle.cob_back_moves.specs.declared.single.Test.TheVariants.{Elementary, Pictured, Named}

-- the records of these layouts
abbrev pub layout_records : BothLayouts → Records
layout_records l = record { input = l.input.now; output = l.output.now }

-- the entries of both records are numbered and stand as those of a record do
pub record AreSound (l : BothLayouts) : Type 0 where
  pub input : IsSound l.input.now
  pub output : IsSound l.output.now

-- these are moves between the records of the layouts
abbrev pub AreMovesBetween : BothLayouts → List Move → Type 0
AreMovesBetween l ms = AreMoves (layout_records l) ms

-- what is sent between these records
abbrev pub sender_of : BothLayouts → PlainSent → Sender
sender_of l = sender_between l.reading (layout_records l)

-- the single move between these records
abbrev pub single_of : BothLayouts → PlainSingle → SingleMove
single_of l = single_between l.reading (layout_records l)

-- what is sent and what receives are operands of these records
pub record IsSingle (l : BothLayouts) (s : SingleMove) : Type 0 where
  pub sender : IsSender (layout_records l) s.sender
  pub receiver : IsOperand l.output.now s.receiver

-- the single move is as is asked
abbrev pub PassesTest : Test → SingleMove → Type 0
PassesTest Elementary s = IsElementary s
PassesTest Pictured s = SendsPictured s
PassesTest (Named root) s = BearsName s.receiver.entry.node (tree_of root.now)

-- each single move of these is as is asked
abbrev pub PassAll : Test → List Move → Type 0
PassAll test ms = AllByRecursion (PassesTest test) (all_singles ms)
