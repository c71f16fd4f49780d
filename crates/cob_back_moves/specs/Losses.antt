-- Points in which moves there and back may lose something.
use Rattle.std.specs.Prelude.{◌≡◌, ℕ, List}
use Rattle.std.specs.List.{AllByRecursion}
use Rattle.cob_copybook_tree.specs.Forests.{Forest}
use Rattle.cob_copybook_tree.specs.Nodes.{Resolved}
use Rattle.cob_back_moves.specs.Apart.{StandsOneWay}
use Rattle.cob_back_moves.specs.Lossless.{IsLossless}
use Rattle.cob_back_moves.specs.Returns.{AreTurned, BearsName, Returns}
use Rattle.cob_move_data.specs.Singles.{SingleMove}
use Rattle.cob_back_moves.specs.Singles.{IsElementary, ReceiveOnce, SendsPictured}
use Rattle.cob_back_moves.specs.Brought.{AllReturned, IsLostItem, moves_between, singles_in}
use Rattle.cob_back_moves.specs.Tested.{layout_records}
use Rattle.cob_back_moves.specs.declared.lossless.Loss.{Loss}
use Rattle.cob_back_moves.specs.declared.lossless.Loss.TheVariants as loss
use Rattle.cob_back_moves.specs.declared.lossless.Direction.{Direction}
use Rattle.cob_back_moves.specs.declared.lossless.Direction.TheVariants.{There, Back}
use Rattle.cob_back_moves.specs.declared.single.BothLayouts.{BothLayouts}
use Rattle.cob_back_moves.specs.declared.some.MovesBetween.{MovesBetween}

-- both records stand in one way
abbrev pub StandOneWay : BothLayouts → Type 0
StandOneWay l = StandsOneWay l.input.now × StandsOneWay l.output.now

-- All are elementary and read their senders as their pictures say, and no occurrence receives twice.
pub record AreSimple (ss : List SingleMove) : Type 0 where
  pub elementary : AllByRecursion IsElementary ss
  pub pictured : AllByRecursion SendsPictured ss
  pub once : ReceiveOnce ss

-- the entries of the receivers have names in the record
abbrev pub AreAllNamed : Forest Resolved → List SingleMove → Type 0
AreAllNamed from ss = AllByRecursion (λ (s : SingleMove). BearsName s.receiver.entry.node from) ss

-- the moves there and back lose nothing
abbrev pub LoseNothing : MovesBetween → MovesBetween → Type 0
LoseNothing there back =
    IsLossless (layout_records there.layouts) (layout_records back.layouts) (moves_between there.layouts there.statements.now) (moves_between back.layouts back.statements.now)

-- the moves back bring back what those there take
abbrev pub BringBack : MovesBetween → MovesBetween → Type 0
BringBack there back = Returns there.layouts.input.now (moves_between there.layouts there.statements.now) (moves_between back.layouts back.statements.now)

-- The moves back bring back what those there take, and all records stand in one way, whether or not they are the same crosswise.
pub record BringAllBack (there back : MovesBetween) : Type 0 where
  pub storage : StandOneWay there.layouts
  pub storage_back : StandOneWay back.layouts
  pub returns : BringBack there back

-- each occurrence of a named item of the record from which the moves there go is returned
abbrev pub ReturnAll : MovesBetween → MovesBetween → Type 0
ReturnAll there back = AllReturned there.layouts.input.now (singles_in there) (singles_in back)

-- an occurrence of this entry, a named item of that record, isn't
abbrev pub LoseItem : MovesBetween → MovesBetween → ℕ → Type 0
LoseItem there back entry = IsLostItem there.layouts.input.now (singles_in there) (singles_in back) entry

-- the moves of a way
abbrev pub moves_of_way : MovesBetween → MovesBetween → Direction → MovesBetween
moves_of_way there back There = there
moves_of_way there back Back = back

-- the point fails, of one way or of both
abbrev pub IsLoss : MovesBetween → MovesBetween → Loss → Type 0
IsLoss there back loss.Records = AreTurned (layout_records there.layouts) (layout_records back.layouts) → ⊥
IsLoss there back (loss.Storage way) = StandOneWay (moves_of_way there back way).layouts → ⊥
IsLoss there back (loss.Operand way) = AllByRecursion IsElementary (singles_in (moves_of_way there back way)) → ⊥
IsLoss there back (loss.Reading way) = AllByRecursion SendsPictured (singles_in (moves_of_way there back way)) → ⊥
IsLoss there back (loss.Receiver way) = ReceiveOnce (singles_in (moves_of_way there back way)) → ⊥
IsLoss there back loss.Name = AreAllNamed there.layouts.input.now (singles_in back) → ⊥
IsLoss there back (loss.Item entry) = IsLostItem there.layouts.input.now (singles_in there) (singles_in back) entry

-- the point fails of the moves of a way, whatever those of the other are
abbrev pub IsLossOf : MovesBetween → Direction → Loss → Type 0
IsLossOf moves way l = (there back : MovesBetween) → moves_of_way there back way ≡ moves → IsLoss there back l
