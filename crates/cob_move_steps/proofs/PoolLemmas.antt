-- Steps of single moves among those that were made ready.
use Rattle.std.proofs.Common.{◌≡◌, ◌≤◌, ℕ, false, List, [], ◌∷◌, ◌++◌, length, get_or, sym, ap, subst, ◌∙◌, arith, Option, Some, length-append, append-nil}
use Rattle.std.proofs.lemmas.List.{get_or_append_left, get_or_push, get_or_read}
use Rattle.cob_codec.specs.Binary.{binary_length}
use Rattle.cob_codec.specs.Readings.{KeepsZones}
use Rattle.cob_codec.specs.declared.reading.Reading.{Reading}
use Rattle.cob_copybook_tree.specs.declared.node.Item.{Item}
use Rattle.cob_copybook_tree.specs.declared.node.Kind.{Kind}
use Rattle.cob_copybook_tree.specs.declared.node.Kind.TheVariants.{Group, Item as ItemKind}
use Rattle.cob_copybook_tree.specs.Items.{storage_kind}
use Rattle.cob_copybook_tree.specs.Lengths.{item_size}
use Rattle.cob_copybook_tree.specs.Storage.{is_read_whole}
use Rattle.cob_codec_lanes.specs.Windows.{last_bytes}
use Rattle.cob_move_receive.specs.Received.{Received}
use Rattle.cob_move_receive.specs.Sent.{Entry, Occupies}
use Rattle.cob_move_steps.specs.Copies.{AreCharactersCarriedOut, IsCharactersStep}
use Rattle.cob_move_steps.specs.Ends.{IsOwnWriter, SuitsReading, item_digits}
use Rattle.cob_move_steps.specs.Deedits.{IsReceiverWriterFor, IsTextCarriedOut}
use Rattle.cob_move_steps.specs.Long.{IsLongCarriedOut}
use Rattle.cob_move_steps.specs.Numerals.{IsNumeralsCarriedOut}
use Rattle.cob_move_steps.specs.Pool.{AreOccupied, BetweenItems, IsReceived, IsStepAt, IsStepBetween, KeepsSteps, MoveKinds, MovesLong, MovesNumber, MovesAnyNumber, MovesToEdited, MovesText, MovesToNumerals, MovesToWideEdited, MovesWide}
use Rattle.cob_move_steps.specs.Running.{IsAnyNumberCarriedOut, IsCarriedOut, IsEditCarriedOut, IsWideEditCarriedOut}
use Rattle.cob_move_steps.specs.Wide.{IsWideCarriedOut}
use Rattle.cob_move_steps.specs.declared.any_number_step.AnyNumberStep.{AnyNumberStep}
use Rattle.cob_move_steps.specs.declared.characters_step.CharactersStep.{CharactersStep}
use Rattle.cob_move_steps.specs.declared.edit_step.EditStep.{EditStep}
use Rattle.cob_move_steps.specs.declared.long_step.LongStep.{LongStep}
use Rattle.cob_move_steps.specs.declared.number_ends.NumberWriter.{NumberWriter}
use Rattle.cob_move_steps.specs.declared.number_ends.NumberWriter.TheVariants as writer
use Rattle.cob_move_steps.specs.declared.number_ends.ReceiverWriter.{ReceiverWriter}
use Rattle.cob_move_steps.specs.declared.number_ends.ReceiverWriter.TheVariants as receiver
use Rattle.cob_move_steps.specs.declared.numerals_step.NumeralsStep.{NumeralsStep}
use Rattle.cob_move_steps.specs.declared.pool.MoveStep.{MoveStep}
use Rattle.cob_move_steps.specs.declared.pool.MoveStep.TheVariants as move_step
use Rattle.cob_move_steps.specs.declared.pool.MoveSteps.{MoveSteps}
use Rattle.cob_move_steps.specs.declared.step.NumberStep.{NumberStep}
use Rattle.cob_move_steps.specs.declared.text_step.TextStep.{TextStep}
use Rattle.cob_move_steps.specs.declared.wide_edit_step.WideEditStep.{WideEditStep}
use Rattle.cob_move_steps.specs.declared.wide_step.WideStep.{WideStep}
use Rattle.cob_move_steps.proofs.AnyNumberLemmas.{size_is}

-- ---- more steps

-- a list became longer at its end
abbrev pub Grows : (T : Type 0) → List T → List T → Type 0
Grows T before now = (own : List T) × (now ≡ before ++ own)

pub as_before : (T : Type 0) (xs : List T) → Grows T xs xs
as_before T xs = ([], sym (append-nil xs))

pub kept_at : (T : Type 0) (moves : T → Type 0) (before now : List T) (n : ℕ) → Grows T before now → IsStepAt T moves before n → IsStepAt T moves now n
kept_at T moves before now n (own, grown) is = record {
  step = is.step;
  below = omega (arith, is.below, ap length grown, length-append before own);
  at = is.at ∙ sym (get_or_append_left before own is.step n is.below) ∙ ap (λ (xs : List T). get_or xs n is.step) (sym grown);
  is = is.is;
}

pub put_at : (T : Type 0) (moves : T → Type 0) (before now : List T) (step : T) (n : ℕ) → now ≡ before ++ step ∷ [] → n ≡ length before → moves step → IsStepAt T moves now n
put_at T moves before now step n grown here meant = record {
  step = step;
  below = omega (arith, here, ap length grown, length-append before (step ∷ []));
  at = sym (get_or_push before step step n (sym here)) ∙ ap (λ (xs : List T). get_or xs n step) (sym grown);
  is = meant;
}

-- the step that was read is the one that is meant
pub read_at : (T : Type 0) (moves : T → Type 0) (steps : List T) (n : ℕ) (step : T) → IsStepAt T moves steps n → step ≡ get_or steps n step → moves step
read_at T moves steps n step is at = subst moves (is.at ∙ sym (get_or_read steps n step is.below at is.step)) is.is

between_kept : (before now : MoveSteps) (k : MoveKinds) (step : MoveStep) → Grows NumberStep before.numbers.items now.numbers.items → Grows WideStep before.wides.items now.wides.items → Grows AnyNumberStep before.any_numbers.items now.any_numbers.items
    → Grows EditStep before.edits.items now.edits.items → Grows WideEditStep before.wide_edits.items now.wide_edits.items → Grows NumeralsStep before.numerals.items now.numerals.items
    → Grows TextStep before.texts.items now.texts.items → Grows LongStep before.longs.items now.longs.items → IsStepBetween before k step → IsStepBetween now k step
between_kept before now k (move_step.Number n) numbers wides any_numbers edits wide_edits numerals texts longs is = kept_at NumberStep (λ step. BetweenItems (MovesNumber step) k.sender k.receiver) before.numbers.items now.numbers.items n numbers is
between_kept before now k (move_step.Wide n) numbers wides any_numbers edits wide_edits numerals texts longs is = kept_at WideStep (λ step. BetweenItems (MovesWide step) k.sender k.receiver) before.wides.items now.wides.items n wides is
between_kept before now k (move_step.AnyNumber n) numbers wides any_numbers edits wide_edits numerals texts longs is = kept_at AnyNumberStep (λ step. BetweenItems (MovesAnyNumber step) k.sender k.receiver) before.any_numbers.items now.any_numbers.items n any_numbers is
between_kept before now k (move_step.Edited n) numbers wides any_numbers edits wide_edits numerals texts longs is = kept_at EditStep (λ step. BetweenItems (MovesToEdited step) k.sender k.receiver) before.edits.items now.edits.items n edits is
between_kept before now k (move_step.WideEdited n) numbers wides any_numbers edits wide_edits numerals texts longs is = kept_at WideEditStep (λ step. BetweenItems (MovesToWideEdited step) k.sender k.receiver) before.wide_edits.items now.wide_edits.items n wide_edits is
between_kept before now k (move_step.Numerals n) numbers wides any_numbers edits wide_edits numerals texts longs is = kept_at NumeralsStep (λ step. BetweenItems (MovesToNumerals step) k.sender k.receiver) before.numerals.items now.numerals.items n numerals is
between_kept before now k (move_step.Text n) numbers wides any_numbers edits wide_edits numerals texts longs is = kept_at TextStep (λ step. BetweenItems (MovesText step) k.sender k.receiver) before.texts.items now.texts.items n texts is
between_kept before now k (move_step.Long n) numbers wides any_numbers edits wide_edits numerals texts longs is = kept_at LongStep (λ step. BetweenItems (MovesLong step) k.sender k.receiver) before.longs.items now.longs.items n longs is
between_kept before now k (move_step.Characters step) numbers wides any_numbers edits wide_edits numerals texts longs is = is

pub steps_kept : (before now : MoveSteps) → Grows NumberStep before.numbers.items now.numbers.items → Grows WideStep before.wides.items now.wides.items → Grows AnyNumberStep before.any_numbers.items now.any_numbers.items
    → Grows EditStep before.edits.items now.edits.items → Grows WideEditStep before.wide_edits.items now.wide_edits.items → Grows NumeralsStep before.numerals.items now.numerals.items
    → Grows TextStep before.texts.items now.texts.items → Grows LongStep before.longs.items now.longs.items → KeepsSteps before now
steps_kept before now numbers wides any_numbers edits wide_edits numerals texts longs k step is = record { occupied = is.occupied; between = between_kept before now k step numbers wides any_numbers edits wide_edits numerals texts longs is.between }

-- ---- a step carried out

pub fits_between : (most : ℕ) (holds : Item → Item → Type 0) (s r : Kind) (received : ℕ) → ((from to : Item) → holds from to → item_size to ≤ most) → Occupies r received → BetweenItems holds s r → received ≤ most
fits_between most holds Group r received fits occupied between = absurd between
fits_between most holds (ItemKind i) Group received fits occupied between = absurd between
fits_between most holds (ItemKind i) (ItemKind j) received fits occupied between = omega (arith, occupied.0, fits i j between)

pub few_between : (holds : Item → Item → Type 0) (s r : Kind) (received : ℕ) → ((from to : Item) → holds from to → item_size to ≤ 16) → Occupies r received → BetweenItems holds s r → received ≤ 16
few_between holds s r received fits occupied between = fits_between 16 holds s r received fits occupied between

word_length : (n : ℕ) → binary_length n ≤ 16
word_length n = grind arith

pub writer_fits : (to : Item) (w : NumberWriter) → IsOwnWriter to w → item_size to ≤ 16
writer_fits to (writer.Lanes w) own = own.fits
writer_fits to (writer.Binary w) own = omega (arith, size_is to own.binary, word_length (item_digits to))

pub few_numbers : (k : MoveKinds) (step : NumberStep) (size : ℕ) → AreOccupied k → BetweenItems (MovesNumber step) k.sender k.receiver → size ≡ k.received → size ≤ 16
few_numbers k step size occupied between same = omega (arith, same, few_between (MovesNumber step) k.sender k.receiver k.received (λ from to is. is.writer.fits) occupied.receiver between)

pub few_wides : (k : MoveKinds) (step : WideStep) (size : ℕ) → AreOccupied k → BetweenItems (MovesWide step) k.sender k.receiver → size ≡ k.received → size ≤ 16
few_wides k step size occupied between same = omega (arith, same, few_between (MovesWide step) k.sender k.receiver k.received (λ from to is. is.writer.fits) occupied.receiver between)

pub few_any_numbers : (k : MoveKinds) (step : AnyNumberStep) (size : ℕ) → AreOccupied k → BetweenItems (MovesAnyNumber step) k.sender k.receiver → size ≡ k.received → size ≤ 16
few_any_numbers k step size occupied between same =
    omega (arith, same, few_between (MovesAnyNumber step) k.sender k.receiver k.received (λ from to is. writer_fits to step.writer is.1.writer.own) occupied.receiver between)

pub few_edited : (k : MoveKinds) (step : EditStep) (size : ℕ) → AreOccupied k → BetweenItems (MovesToEdited step) k.sender k.receiver → size ≡ k.received → size ≤ 16
few_edited k step size occupied between same = omega (arith, same, few_between (MovesToEdited step) k.sender k.receiver k.received (λ from to is. is.1.fits) occupied.receiver between)

pub few_wide_edited : (k : MoveKinds) (step : WideEditStep) (size : ℕ) → AreOccupied k → BetweenItems (MovesToWideEdited step) k.sender k.receiver → size ≡ k.received → size ≤ 32
few_wide_edited k step size occupied between same = omega (arith, same, fits_between 32 (MovesToWideEdited step) k.sender k.receiver k.received (λ from to is. is.1.writer.fits) occupied.receiver between)

receiver_fits : (to : Item) (w : ReceiverWriter) → IsReceiverWriterFor to w → item_size to ≤ 32
receiver_fits to (receiver.Number w) is = omega (arith, writer_fits to w is.own)
receiver_fits to (receiver.Text w) is = is.fits

pub few_texts : (k : MoveKinds) (step : TextStep) (size : ℕ) → AreOccupied k → BetweenItems (MovesText step) k.sender k.receiver → size ≡ k.received → size ≤ 32
few_texts k step size occupied between same =
    omega (arith, same, fits_between 32 (MovesText step) k.sender k.receiver k.received (λ from to is. receiver_fits to step.writer is.writer) occupied.receiver between)

-- what two items get of one another is what their kinds get, where these have just their bytes
abbrev pub ItemsReceive : (Item → Item → Type 0) → List ℕ → ℕ → Option (List ℕ) → Reading → Type 0
ItemsReceive holds bytes received outcome reading =
    (from to : Item) → holds from to → item_size from ≤ length bytes → received ≡ item_size to
    → Received (Entry (ItemKind from) (last_bytes (item_size from) bytes) reading) (ItemKind to) received outcome

pub carried : (holds : Item → Item → Type 0) (s r : Kind) (sent received : ℕ) (bytes : List ℕ) (outcome : Option (List ℕ)) (reading : Reading) → Occupies s sent → Occupies r received → BetweenItems holds s r
    → sent ≤ length bytes → ItemsReceive holds bytes received outcome reading → Received (Entry s (last_bytes sent bytes) reading) r received outcome
carried holds Group r sent received bytes outcome reading sends receives between within h = absurd between
carried holds (ItemKind i) Group sent received bytes outcome reading sends receives between within h = absurd between
carried holds (ItemKind i) (ItemKind j) sent received bytes outcome reading sends receives between within h =
    subst (λ (n : ℕ). Received (Entry (ItemKind i) (last_bytes n bytes) reading) (ItemKind j) received outcome) (sym sends.0)
    (h i j between (omega (arith, within, sends.0)) receives.0)

received_by : (holds : Item → Item → Type 0) (k : MoveKinds) (size : ℕ) (bytes : List ℕ) (outcome : Option (List ℕ)) → AreOccupied k → BetweenItems holds k.sender k.receiver → k.sent ≤ length bytes
    → size ≡ k.received → ((reading : Reading) → KeepsZones reading → ItemsReceive holds bytes size outcome reading) → IsReceived k bytes outcome
received_by holds k size bytes outcome occupied between within same h reading keeps =
    carried holds k.sender k.receiver k.sent k.received bytes outcome reading occupied.sender occupied.receiver between within
    (subst (λ (m : ℕ). ItemsReceive holds bytes m outcome reading) same (h reading keeps))

pub number_received : (k : MoveKinds) (step : NumberStep) (size : ℕ) (bytes : List ℕ) (outcome : Option (List ℕ)) → AreOccupied k → BetweenItems (MovesNumber step) k.sender k.receiver → k.sent ≤ length bytes
    → size ≡ k.received → IsCarriedOut step bytes size outcome → IsReceived k bytes outcome
number_received k step size bytes outcome occupied between within same h =
    received_by (MovesNumber step) k size bytes outcome occupied between within same (λ reading keeps from to is fits long. h from to is fits long reading keeps)

pub wide_received : (k : MoveKinds) (step : WideStep) (size : ℕ) (bytes : List ℕ) (outcome : Option (List ℕ)) → AreOccupied k → BetweenItems (MovesWide step) k.sender k.receiver → k.sent ≤ length bytes
    → size ≡ k.received → IsWideCarriedOut step bytes size outcome → IsReceived k bytes outcome
wide_received k step size bytes outcome occupied between within same h =
    received_by (MovesWide step) k size bytes outcome occupied between within same (λ reading keeps from to is fits long. h from to is fits long reading keeps)

-- an item that is read in one way suits any reading that keeps zones
suits : (from : Item) (reading : Reading) → KeepsZones reading → is_read_whole (storage_kind from) ≡ false → SuitsReading from reading
suits from reading keeps other = (keeps, λ is. absurd (cc))

pub any_number_received : (k : MoveKinds) (step : AnyNumberStep) (size : ℕ) (bytes : List ℕ) (outcome : Option (List ℕ)) → AreOccupied k → BetweenItems (MovesAnyNumber step) k.sender k.receiver → k.sent ≤ length bytes
    → size ≡ k.received → IsAnyNumberCarriedOut step bytes size outcome → IsReceived k bytes outcome
any_number_received k step size bytes outcome occupied between within same h =
    received_by (MovesAnyNumber step) k size bytes outcome occupied between within same (λ reading keeps from to is fits long. h from to is.1 fits long reading (suits from reading keeps is.0))

pub edited_received : (k : MoveKinds) (step : EditStep) (size : ℕ) (bytes : List ℕ) (outcome : Option (List ℕ)) → AreOccupied k → BetweenItems (MovesToEdited step) k.sender k.receiver → k.sent ≤ length bytes
    → size ≡ k.received → IsEditCarriedOut step bytes size outcome → IsReceived k bytes outcome
edited_received k step size bytes outcome occupied between within same h =
    received_by (MovesToEdited step) k size bytes outcome occupied between within same (λ reading keeps from to is fits long. h from to is.1 fits long reading (suits from reading keeps is.0))

pub wide_edited_received : (k : MoveKinds) (step : WideEditStep) (size : ℕ) (bytes : List ℕ) (outcome : Option (List ℕ)) → AreOccupied k → BetweenItems (MovesToWideEdited step) k.sender k.receiver → k.sent ≤ length bytes
    → size ≡ k.received → IsWideEditCarriedOut step bytes size outcome → IsReceived k bytes outcome
wide_edited_received k step size bytes outcome occupied between within same h =
    received_by (MovesToWideEdited step) k size bytes outcome occupied between within same (λ reading keeps from to is fits long. h from to is.1 fits long reading (suits from reading keeps is.0))

pub numerals_received : (k : MoveKinds) (step : NumeralsStep) (size : ℕ) (bytes : List ℕ) (outcome : Option (List ℕ)) → AreOccupied k → BetweenItems (MovesToNumerals step) k.sender k.receiver → k.sent ≤ length bytes
    → size ≡ k.received → IsNumeralsCarriedOut step bytes size outcome → IsReceived k bytes outcome
numerals_received k step size bytes outcome occupied between within same h =
    received_by (MovesToNumerals step) k size bytes outcome occupied between within same (λ reading keeps from to is fits long. h from to is.1 fits long reading (suits from reading keeps is.0))

pub long_received : (k : MoveKinds) (step : LongStep) (size : ℕ) (bytes : List ℕ) (outcome : Option (List ℕ)) → AreOccupied k → BetweenItems (MovesLong step) k.sender k.receiver → k.sent ≤ length bytes
    → size ≡ k.received → IsLongCarriedOut step bytes size outcome → IsReceived k bytes outcome
long_received k step size bytes outcome occupied between within same h =
    received_by (MovesLong step) k size bytes outcome occupied between within same (λ reading keeps from to is fits long. h from to is.1 fits long reading (suits from reading keeps is.0))

pub text_received : (k : MoveKinds) (step : TextStep) (size : ℕ) (bytes : List ℕ) (outcome : Option (List ℕ)) → AreOccupied k → BetweenItems (MovesText step) k.sender k.receiver → k.sent ≤ length bytes
    → size ≡ k.received → IsTextCarriedOut step bytes size outcome → IsReceived k bytes outcome
text_received k step size bytes outcome occupied between within same h =
    received_by (MovesText step) k size bytes outcome occupied between within same (λ reading keeps from to is fits long. h from to is fits long reading keeps)

pub characters_received : (k : MoveKinds) (step : CharactersStep) (size : ℕ) (bytes written : List ℕ) → IsCharactersStep k.sender k.sent k.receiver step → size ≡ k.received
    → AreCharactersCarriedOut step bytes size written → IsReceived k bytes (Some written)
characters_received k step size bytes written is same h reading keeps =
    subst (λ (m : ℕ). Received (Entry k.sender (last_bytes k.sent bytes) reading) k.receiver m (Some written)) same (h k.sender k.receiver k.sent is reading)
