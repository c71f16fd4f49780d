-- What carries out single moves between entries, by what these describe.
use Rattle.std.specs.Prelude.{◌≡◌, ◌⊎◌, ◌<◌, ◌≤◌, ℕ, false, true, List, length, get_or, Option, Some}
use Rattle.cob_codec.specs.Readings.{KeepsZones}
use Rattle.cob_codec.specs.declared.reading.Reading.{Reading}
use Rattle.cob_copybook_tree.specs.declared.node.Item.{Item}
use Rattle.cob_copybook_tree.specs.declared.node.Kind.{Kind}
use Rattle.cob_copybook_tree.specs.declared.node.Kind.TheVariants.{Group, Item as ItemKind}
use Rattle.cob_copybook_tree.specs.Items.{storage_kind}
use Rattle.cob_copybook_tree.specs.Storage.{is_read_whole}
use Rattle.cob_codec_lanes.specs.Windows.{last_bytes}
use Rattle.cob_move_receive.specs.Received.{Received}
use Rattle.cob_move_receive.specs.Sent.{Entry, Occupies}
use Rattle.cob_move_steps.specs.Copies.{IsCharactersStep, gives_bytes}
use Rattle.cob_move_steps.specs.Deedits.{IsTextStep, ReceivesNumber}
use Rattle.cob_move_steps.specs.Edits.{IsEditStep, IsWideEditStep}
use Rattle.cob_move_steps.specs.Ends.{IsAnyNumberStep}
use Rattle.cob_move_steps.specs.Long.{HaveLongStep, IsLongStep}
use Rattle.cob_move_steps.specs.Numerals.{HaveAnyShortNumbers, IsNumeralsStep}
use Rattle.cob_move_steps.specs.Steps.{IsNumberStep}
use Rattle.cob_move_steps.specs.Texts.{IsWideEditedItem}
use Rattle.cob_move_steps.specs.Wide.{IsWideStep}
use Rattle.cob_move_steps.specs.declared.any_number_step.AnyNumberStep.{AnyNumberStep}
use Rattle.cob_move_steps.specs.declared.characters_step.CharactersStep.{CharactersStep}
use Rattle.cob_move_steps.specs.declared.edit_step.EditStep.{EditStep}
use Rattle.cob_move_steps.specs.declared.long_step.LongStep.{LongStep}
use Rattle.cob_move_steps.specs.declared.numerals_step.NumeralsStep.{NumeralsStep}
use Rattle.cob_move_steps.specs.declared.pool.MoveStep.{MoveStep}
use Rattle.cob_move_steps.specs.declared.pool.MoveStep.TheVariants as move_step
use Rattle.cob_move_steps.specs.declared.pool.MoveSteps.{MoveSteps}
use Rattle.cob_move_steps.specs.declared.step.NumberStep.{NumberStep}
use Rattle.cob_move_steps.specs.declared.text_step.TextStep.{TextStep}
use Rattle.cob_move_steps.specs.declared.wide_edit_step.WideEditStep.{WideEditStep}
use Rattle.cob_move_steps.specs.declared.wide_step.WideStep.{WideStep}

-- what a single move is between: what sender and receiver describe, and how many bytes they have
pub record MoveKinds : Type 0 where
  pub sender : Kind
  pub sent : ℕ
  pub receiver : Kind
  pub received : ℕ

-- there are bytes enough for what either describes
pub record AreOccupied (k : MoveKinds) : Type 0 where
  pub sender : Occupies k.sender k.sent
  pub receiver : Occupies k.receiver k.received

-- What the receiver holds after the move of the sender whose bytes end these, whatever the reading that keeps zones; or none.
abbrev pub IsReceived : MoveKinds → List ℕ → Option (List ℕ) → Type 0
IsReceived k bytes outcome = (reading : Reading) → KeepsZones reading → Received (Entry k.sender (last_bytes k.sent bytes) reading) k.receiver k.received outcome

-- between two items
abbrev pub BetweenItems : (Item → Item → Type 0) → Kind → Kind → Type 0
BetweenItems holds (ItemKind from) (ItemKind to) = holds from to
BetweenItems holds (ItemKind from) Group = ⊥
BetweenItems holds Group to = ⊥

-- the step moves the number of one item to another, both of which lanes hold
abbrev pub MovesNumber : NumberStep → Item → Item → Type 0
MovesNumber step from to = IsNumberStep from to step

-- the step moves the number of one item to another, of more digits than lanes hold
abbrev pub MovesWide : WideStep → Item → Item → Type 0
MovesWide step from to = IsWideStep from to step

-- the step moves the number that an item gives, which is read in one way, to another
abbrev pub MovesAnyNumber : AnyNumberStep → Item → Item → Type 0
MovesAnyNumber step from to = (is_read_whole (storage_kind from) ≡ false) × IsAnyNumberStep from to step

-- the step moves the number that an item gives, which is read in one way, to an edited one
abbrev pub MovesToEdited : EditStep → Item → Item → Type 0
MovesToEdited step from to = (is_read_whole (storage_kind from) ≡ false) × IsEditStep from to step

-- the step moves the number that an item gives, which is read in one way, to an edited one of more bytes
abbrev pub MovesToWideEdited : WideEditStep → Item → Item → Type 0
MovesToWideEdited step from to = (is_read_whole (storage_kind from) ≡ false) × IsWideEditStep from to step

-- the step moves the number of an item, which is read in one way, to characters
abbrev pub MovesToNumerals : NumeralsStep → Item → Item → Type 0
MovesToNumerals step from to = (is_read_whole (storage_kind from) ≡ false) × IsNumeralsStep from to step

-- the step moves the number of an edited item to another item
abbrev pub MovesText : TextStep → Item → Item → Type 0
MovesText step from to = IsTextStep from to step

-- the step moves the number, of any number of digits, that an item gives, which is read in one way, to another
abbrev pub MovesLong : LongStep → Item → Item → Type 0
MovesLong step from to = (is_read_whole (storage_kind from) ≡ false) × IsLongStep from to step

-- the step with this number among these is one that is meant
pub record IsStepAt (T : Type 0) (moves : T → Type 0) (steps : List T) (number : ℕ) : Type 0 where
  pub step : T
  pub below : number < length steps
  pub at : step ≡ get_or steps number step
  pub is : moves step

-- the step, one of these, is one between these kinds
abbrev pub IsStepBetween : MoveSteps → MoveKinds → MoveStep → Type 0
IsStepBetween steps k (move_step.Number number) = IsStepAt NumberStep (λ step. BetweenItems (MovesNumber step) k.sender k.receiver) steps.numbers.items number
IsStepBetween steps k (move_step.Wide number) = IsStepAt WideStep (λ step. BetweenItems (MovesWide step) k.sender k.receiver) steps.wides.items number
IsStepBetween steps k (move_step.AnyNumber number) = IsStepAt AnyNumberStep (λ step. BetweenItems (MovesAnyNumber step) k.sender k.receiver) steps.any_numbers.items number
IsStepBetween steps k (move_step.Edited number) = IsStepAt EditStep (λ step. BetweenItems (MovesToEdited step) k.sender k.receiver) steps.edits.items number
IsStepBetween steps k (move_step.WideEdited number) = IsStepAt WideEditStep (λ step. BetweenItems (MovesToWideEdited step) k.sender k.receiver) steps.wide_edits.items number
IsStepBetween steps k (move_step.Numerals number) = IsStepAt NumeralsStep (λ step. BetweenItems (MovesToNumerals step) k.sender k.receiver) steps.numerals.items number
IsStepBetween steps k (move_step.Text number) = IsStepAt TextStep (λ step. BetweenItems (MovesText step) k.sender k.receiver) steps.texts.items number
IsStepBetween steps k (move_step.Long number) = IsStepAt LongStep (λ step. BetweenItems (MovesLong step) k.sender k.receiver) steps.longs.items number
IsStepBetween steps k (move_step.Characters step) = IsCharactersStep k.sender k.sent k.receiver step

-- The step, one of these, carries out the move of the sender to the receiver.
pub record IsMoveStep (steps : MoveSteps) (k : MoveKinds) (step : MoveStep) : Type 0 where
  pub occupied : AreOccupied k
  pub between : IsStepBetween steps k step

-- the step, one of these, carries out the moves between items of which this holds, whatever places they fill
abbrev pub CarriesItems : MoveSteps → (Item → Item → Type 0) → MoveStep → Type 0
CarriesItems steps holds step = (k : MoveKinds) → AreOccupied k → BetweenItems holds k.sender k.receiver → IsMoveStep steps k step

-- so it does those of one item to another
abbrev pub CarriesFromTo : MoveSteps → (from to : Item) → MoveStep → Type 0
CarriesFromTo steps from to step =
    (k : MoveKinds) → AreOccupied k → k.sender ≡ ItemKind from → k.receiver ≡ ItemKind to → IsMoveStep steps k step

-- the characters of a sender that ends bytes became what its receiver holds, whatever move of these the step carries out
abbrev pub PutsCharacters : MoveSteps → CharactersStep → (from before after : List ℕ) → Type 0
PutsCharacters steps step from before after = (k : MoveKinds) → IsMoveStep steps k (move_step.Characters step)
    → k.sent ≤ length from → length before ≡ k.received → IsReceived k from (Some after)

-- there is a step of a number: the sender gives one of any number of digits, and the receiver is one, edits one, or takes its digits as characters
abbrev pub HaveNumberStep : Item → Item → Type 0
HaveNumberStep from to = HaveAnyShortNumbers from to ⊎ HaveLongStep from to

-- there is one, and the sender is read in one way
pub record HaveSteadyNumbers (from to : Item) : Type 0 where
  pub steady : is_read_whole (storage_kind from) ≡ false
  pub numbers : HaveNumberStep from to

-- the sender is edited, and the receiver is a short number, or edits one
pub record HaveTexts (from to : Item) : Type 0 where
  pub steady : is_read_whole (storage_kind from) ≡ false
  pub sends : IsWideEditedItem from
  pub receives : ReceivesNumber to

-- the items have a step: the sender is read in one way, and gives a number that the receiver takes, or is edited and gives a short one
abbrev pub HaveItemStep : Item → Item → Type 0
HaveItemStep from to = HaveSteadyNumbers from to ⊎ HaveTexts from to

-- there is a step between these kinds: the sender gives its bytes as characters, or both are items that have one
abbrev pub HaveStep : Kind → Kind → Type 0
HaveStep from to = (gives_bytes from to ≡ true) ⊎ BetweenItems HaveItemStep from to

-- no step of a move was lost
abbrev pub KeepsSteps : MoveSteps → MoveSteps → Type 0
KeepsSteps before now = (k : MoveKinds) (step : MoveStep) → IsMoveStep before k step → IsMoveStep now k step

-- there is no step of a number
abbrev pub HasNoSteps : MoveSteps → Type 0
HasNoSteps steps = (length steps.numbers.items ≡ 0) × (length steps.wides.items ≡ 0) × (length steps.any_numbers.items ≡ 0) × (length steps.edits.items ≡ 0)
    × (length steps.wide_edits.items ≡ 0) × (length steps.numerals.items ≡ 0) × (length steps.texts.items ≡ 0)
    × (length steps.longs.items ≡ 0)
