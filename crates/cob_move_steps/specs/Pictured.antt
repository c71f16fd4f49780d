-- What carries out single moves whose senders are read as their pictures say.
use Rattle.std.specs.Prelude.{◌≡◌, ℕ, List, length, Option}
use Rattle.cob_codec.specs.declared.reading.Reading.TheVariants.{Pictured}
use Rattle.cob_copybook_tree.specs.declared.node.Item.{Item}
use Rattle.cob_copybook_tree.specs.declared.node.Kind.{Kind}
use Rattle.cob_copybook_tree.specs.declared.node.Kind.TheVariants.{Item as ItemKind}
use Rattle.cob_codec_lanes.specs.Windows.{last_bytes}
use Rattle.cob_move_receive.specs.Received.{Received}
use Rattle.cob_move_receive.specs.Sent.{Entry}
use Rattle.cob_move_steps.specs.Edits.{IsEditStep, IsWideEditStep}
use Rattle.cob_move_steps.specs.Ends.{IsAnyNumberStep}
use Rattle.cob_move_steps.specs.Long.{IsLongStep}
use Rattle.cob_move_steps.specs.Numerals.{IsNumeralsStep}
use Rattle.cob_move_steps.specs.Pool.{AreOccupied, BetweenItems, HaveNumberStep, IsStepAt, MoveKinds}
use Rattle.cob_move_steps.specs.declared.any_number_step.AnyNumberStep.{AnyNumberStep}
use Rattle.cob_move_steps.specs.declared.edit_step.EditStep.{EditStep}
use Rattle.cob_move_steps.specs.declared.long_step.LongStep.{LongStep}
use Rattle.cob_move_steps.specs.declared.numerals_step.NumeralsStep.{NumeralsStep}
use Rattle.cob_move_steps.specs.declared.pictured.PicturedStep.{PicturedStep}
use Rattle.cob_move_steps.specs.declared.pictured.PicturedStep.TheVariants as pictured
use Rattle.cob_move_steps.specs.declared.pictured.PicturedSteps.{PicturedSteps}
use Rattle.cob_move_steps.specs.declared.wide_edit_step.WideEditStep.{WideEditStep}

-- What the receiver holds after the move of the sender whose bytes end these, read as its picture says; or none.
abbrev pub IsReceivedPictured : MoveKinds → List ℕ → Option (List ℕ) → Type 0
IsReceivedPictured k bytes outcome = Received (Entry k.sender (last_bytes k.sent bytes) Pictured) k.receiver k.received outcome

-- the step moves the number of one item to another
abbrev pub MovesPictured : AnyNumberStep → Item → Item → Type 0
MovesPictured step from to = IsAnyNumberStep from to step

-- the step moves the number of one item to another, which is edited
abbrev pub MovesPicturedToEdited : EditStep → Item → Item → Type 0
MovesPicturedToEdited step from to = IsEditStep from to step

-- the step moves the number of one item to another, which is edited, of more bytes
abbrev pub MovesPicturedToWideEdited : WideEditStep → Item → Item → Type 0
MovesPicturedToWideEdited step from to = IsWideEditStep from to step

-- the step moves the number of one item to characters
abbrev pub MovesPicturedToNumerals : NumeralsStep → Item → Item → Type 0
MovesPicturedToNumerals step from to = IsNumeralsStep from to step

-- the step moves the number, of any number of digits, of one item to another
abbrev pub MovesPicturedLong : LongStep → Item → Item → Type 0
MovesPicturedLong step from to = IsLongStep from to step

-- the step, one of these, is one between these kinds
abbrev pub IsPicturedBetween : PicturedSteps → MoveKinds → PicturedStep → Type 0
IsPicturedBetween steps k (pictured.Number number) = IsStepAt AnyNumberStep (λ step. BetweenItems (MovesPictured step) k.sender k.receiver) steps.numbers.items number
IsPicturedBetween steps k (pictured.Edited number) = IsStepAt EditStep (λ step. BetweenItems (MovesPicturedToEdited step) k.sender k.receiver) steps.edits.items number
IsPicturedBetween steps k (pictured.WideEdited number) = IsStepAt WideEditStep (λ step. BetweenItems (MovesPicturedToWideEdited step) k.sender k.receiver) steps.wide_edits.items number
IsPicturedBetween steps k (pictured.Numerals number) = IsStepAt NumeralsStep (λ step. BetweenItems (MovesPicturedToNumerals step) k.sender k.receiver) steps.numerals.items number
IsPicturedBetween steps k (pictured.Long number) = IsStepAt LongStep (λ step. BetweenItems (MovesPicturedLong step) k.sender k.receiver) steps.longs.items number

-- The step, one of these, carries out the move of the sender, read as its picture says, to the receiver.
pub record IsPicturedStep (steps : PicturedSteps) (k : MoveKinds) (step : PicturedStep) : Type 0 where
  pub occupied : AreOccupied k
  pub between : IsPicturedBetween steps k step

-- the step, one of these, carries out the moves between items of which this holds, whatever places they fill
abbrev pub CarriesPicturedItems : PicturedSteps → (Item → Item → Type 0) → PicturedStep → Type 0
CarriesPicturedItems steps holds step =
    (k : MoveKinds) → AreOccupied k → BetweenItems holds k.sender k.receiver → IsPicturedStep steps k step

-- so it does those of one item to another
abbrev pub CarriesPicturedFromTo : PicturedSteps → (from to : Item) → PicturedStep → Type 0
CarriesPicturedFromTo steps from to step =
    (k : MoveKinds) → AreOccupied k → k.sender ≡ ItemKind from → k.receiver ≡ ItemKind to → IsPicturedStep steps k step

-- there is a step between these kinds: the sender gives a number that the receiver takes
abbrev pub HavePicturedStep : Kind → Kind → Type 0
HavePicturedStep from to = BetweenItems HaveNumberStep from to

-- no step of a move was lost
abbrev pub KeepsPictured : PicturedSteps → PicturedSteps → Type 0
KeepsPictured before now = (k : MoveKinds) (step : PicturedStep) → IsPicturedStep before k step → IsPicturedStep now k step

-- there is no step of a number
abbrev pub HasNoPictured : PicturedSteps → Type 0
HasNoPictured steps = (length steps.numbers.items ≡ 0) × (length steps.edits.items ≡ 0) × (length steps.wide_edits.items ≡ 0) × (length steps.numerals.items ≡ 0)
    × (length steps.longs.items ≡ 0)
