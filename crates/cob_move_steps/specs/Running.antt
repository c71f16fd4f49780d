-- Steps carried out.
use Rattle.std.specs.Prelude.{◌≡◌, ◌≤◌, ℕ, List, length, Option}
use Rattle.cob_codec.specs.Readings.{KeepsZones}
use Rattle.cob_codec.specs.declared.reading.Reading.{Reading}
use Rattle.cob_copybook_tree.specs.Lengths.{item_size}
use Rattle.cob_copybook_tree.specs.declared.node.Item.{Item}
use Rattle.cob_copybook_tree.specs.declared.node.Kind.TheVariants.{Item as ItemKind}
use Rattle.cob_codec_lanes.specs.Windows.{last_bytes}
use Rattle.cob_move_receive.specs.Received.{Received}
use Rattle.cob_move_receive.specs.Sent.{Entry}
use Rattle.cob_move_steps.specs.Steps.{IsNumberStep}
use Rattle.cob_move_steps.specs.Edits.{IsEditStep, IsWideEditStep}
use Rattle.cob_move_steps.specs.Ends.{IsAnyNumberStep, SuitsReading}
use Rattle.cob_move_steps.specs.declared.any_number_step.AnyNumberStep.{AnyNumberStep}
use Rattle.cob_move_steps.specs.declared.step.NumberStep.{NumberStep}
use Rattle.cob_move_steps.specs.declared.edit_step.EditStep.{EditStep}
use Rattle.cob_move_steps.specs.declared.wide_edit_step.WideEditStep.{WideEditStep}

-- What a receiver of n bytes holds after the move of the item that ends these bytes, whatever the reading that keeps zones; or none.
abbrev pub ReceivedAtEnd : Item → Item → List ℕ → ℕ → Option (List ℕ) → Type 0
ReceivedAtEnd from to bytes n outcome =
    (reading : Reading) → KeepsZones reading → Received (Entry (ItemKind from) (last_bytes (item_size from) bytes) reading) (ItemKind to) n outcome

-- The same for each two items whose step this is, where the bytes have the sender at their end and n is the receiver's size.
abbrev pub IsCarriedOut : NumberStep → List ℕ → ℕ → Option (List ℕ) → Type 0
IsCarriedOut step bytes n outcome =
    (from to : Item) → IsNumberStep from to step → item_size from ≤ length bytes → n ≡ item_size to → ReceivedAtEnd from to bytes n outcome

-- The same of a sender that is read as it suits: a binary one as its picture says.
abbrev pub ReceivedWhereRead : Item → Item → List ℕ → ℕ → Option (List ℕ) → Type 0
ReceivedWhereRead from to bytes n outcome =
    (reading : Reading) → SuitsReading from reading → Received (Entry (ItemKind from) (last_bytes (item_size from) bytes) reading) (ItemKind to) n outcome

-- The same of a step of a number between items of any kind.
abbrev pub IsAnyNumberCarriedOut : AnyNumberStep → List ℕ → ℕ → Option (List ℕ) → Type 0
IsAnyNumberCarriedOut step bytes n outcome =
    (from to : Item) → IsAnyNumberStep from to step → item_size from ≤ length bytes → n ≡ item_size to → ReceivedWhereRead from to bytes n outcome

-- The same of a step to an edited item.
abbrev pub IsEditCarriedOut : EditStep → List ℕ → ℕ → Option (List ℕ) → Type 0
IsEditCarriedOut step bytes n outcome =
    (from to : Item) → IsEditStep from to step → item_size from ≤ length bytes → n ≡ item_size to → ReceivedWhereRead from to bytes n outcome

-- The same of a step to an edited item of more than sixteen bytes.
abbrev pub IsWideEditCarriedOut : WideEditStep → List ℕ → ℕ → Option (List ℕ) → Type 0
IsWideEditCarriedOut step bytes n outcome =
    (from to : Item) → IsWideEditStep from to step → item_size from ≤ length bytes → n ≡ item_size to → ReceivedWhereRead from to bytes n outcome
