-- Steps of single moves whose senders are read as their pictures say, among those that were made ready.
use Rattle.std.proofs.Common.{◌≡◌, ◌≤◌, ℕ, List, length, refl, subst, arith, Option}
use Rattle.cob_codec.specs.declared.reading.Reading.TheVariants.{Pictured}
use Rattle.cob_copybook_tree.specs.declared.node.Item.{Item}
use Rattle.cob_move_steps.specs.Pictured.{IsPicturedBetween, IsReceivedPictured, KeepsPictured, MovesPictured, MovesPicturedLong, MovesPicturedToEdited, MovesPicturedToNumerals, MovesPicturedToWideEdited}
use Rattle.cob_move_steps.specs.Long.{IsLongCarriedOut}
use Rattle.cob_move_steps.specs.Numerals.{IsNumeralsCarriedOut}
use Rattle.cob_move_steps.specs.Pool.{AreOccupied, BetweenItems, MoveKinds}
use Rattle.cob_move_steps.specs.Running.{IsAnyNumberCarriedOut, IsEditCarriedOut, IsWideEditCarriedOut}
use Rattle.cob_move_steps.specs.declared.any_number_step.AnyNumberStep.{AnyNumberStep}
use Rattle.cob_move_steps.specs.declared.edit_step.EditStep.{EditStep}
use Rattle.cob_move_steps.specs.declared.long_step.LongStep.{LongStep}
use Rattle.cob_move_steps.specs.declared.numerals_step.NumeralsStep.{NumeralsStep}
use Rattle.cob_move_steps.specs.declared.pictured.PicturedStep.{PicturedStep}
use Rattle.cob_move_steps.specs.declared.pictured.PicturedStep.TheVariants as pictured
use Rattle.cob_move_steps.specs.declared.pictured.PicturedSteps.{PicturedSteps}
use Rattle.cob_move_steps.specs.declared.wide_edit_step.WideEditStep.{WideEditStep}
use Rattle.cob_move_steps.proofs.PoolLemmas.{Grows, ItemsReceive, carried, few_between, fits_between, kept_at, writer_fits}

pictured_between_kept : (before now : PicturedSteps) (k : MoveKinds) (step : PicturedStep) → Grows AnyNumberStep before.numbers.items now.numbers.items → Grows EditStep before.edits.items now.edits.items → Grows WideEditStep before.wide_edits.items now.wide_edits.items → Grows NumeralsStep before.numerals.items now.numerals.items → Grows LongStep before.longs.items now.longs.items
    → IsPicturedBetween before k step → IsPicturedBetween now k step
pictured_between_kept before now k (pictured.Number n) numbers edits wide_edits numerals longs is = kept_at AnyNumberStep (λ step. BetweenItems (MovesPictured step) k.sender k.receiver) before.numbers.items now.numbers.items n numbers is
pictured_between_kept before now k (pictured.Edited n) numbers edits wide_edits numerals longs is = kept_at EditStep (λ step. BetweenItems (MovesPicturedToEdited step) k.sender k.receiver) before.edits.items now.edits.items n edits is
pictured_between_kept before now k (pictured.WideEdited n) numbers edits wide_edits numerals longs is = kept_at WideEditStep (λ step. BetweenItems (MovesPicturedToWideEdited step) k.sender k.receiver) before.wide_edits.items now.wide_edits.items n wide_edits is
pictured_between_kept before now k (pictured.Numerals n) numbers edits wide_edits numerals longs is = kept_at NumeralsStep (λ step. BetweenItems (MovesPicturedToNumerals step) k.sender k.receiver) before.numerals.items now.numerals.items n numerals is
pictured_between_kept before now k (pictured.Long n) numbers edits wide_edits numerals longs is = kept_at LongStep (λ step. BetweenItems (MovesPicturedLong step) k.sender k.receiver) before.longs.items now.longs.items n longs is

pub pictured_kept : (before now : PicturedSteps) → Grows AnyNumberStep before.numbers.items now.numbers.items → Grows EditStep before.edits.items now.edits.items
    → Grows WideEditStep before.wide_edits.items now.wide_edits.items → Grows NumeralsStep before.numerals.items now.numerals.items → Grows LongStep before.longs.items now.longs.items → KeepsPictured before now
pictured_kept before now numbers edits wide_edits numerals longs k step is = record { occupied = is.occupied; between = pictured_between_kept before now k step numbers edits wide_edits numerals longs is.between }

-- ---- a step carried out

pub few_pictured : (k : MoveKinds) (step : AnyNumberStep) (size : ℕ) → AreOccupied k → BetweenItems (MovesPictured step) k.sender k.receiver → size ≡ k.received → size ≤ 16
few_pictured k step size occupied between same =
    omega (arith, same, few_between (MovesPictured step) k.sender k.receiver k.received (λ from to is. writer_fits to step.writer is.writer.own) occupied.receiver between)

pub few_pictured_edited : (k : MoveKinds) (step : EditStep) (size : ℕ) → AreOccupied k → BetweenItems (MovesPicturedToEdited step) k.sender k.receiver → size ≡ k.received → size ≤ 16
few_pictured_edited k step size occupied between same = omega (arith, same, few_between (MovesPicturedToEdited step) k.sender k.receiver k.received (λ from to is. is.fits) occupied.receiver between)

-- what two items get of one another where the sender is read as its picture says
pictured_by : (holds : Item → Item → Type 0) (k : MoveKinds) (size : ℕ) (bytes : List ℕ) (outcome : Option (List ℕ)) → AreOccupied k → BetweenItems holds k.sender k.receiver → k.sent ≤ length bytes
    → size ≡ k.received → ItemsReceive holds bytes size outcome Pictured → IsReceivedPictured k bytes outcome
pictured_by holds k size bytes outcome occupied between within same h =
    carried holds k.sender k.receiver k.sent k.received bytes outcome Pictured occupied.sender occupied.receiver between within
    (subst (λ (m : ℕ). ItemsReceive holds bytes m outcome Pictured) same h)

pub pictured_received : (k : MoveKinds) (step : AnyNumberStep) (size : ℕ) (bytes : List ℕ) (outcome : Option (List ℕ)) → AreOccupied k → BetweenItems (MovesPictured step) k.sender k.receiver → k.sent ≤ length bytes
    → size ≡ k.received → IsAnyNumberCarriedOut step bytes size outcome → IsReceivedPictured k bytes outcome
pictured_received k step size bytes outcome occupied between within same h =
    pictured_by (MovesPictured step) k size bytes outcome occupied between within same (λ from to is fits long. h from to is fits long Pictured (refl, λ binary. refl))

pub pictured_edited_received : (k : MoveKinds) (step : EditStep) (size : ℕ) (bytes : List ℕ) (outcome : Option (List ℕ)) → AreOccupied k → BetweenItems (MovesPicturedToEdited step) k.sender k.receiver
    → k.sent ≤ length bytes → size ≡ k.received → IsEditCarriedOut step bytes size outcome → IsReceivedPictured k bytes outcome
pictured_edited_received k step size bytes outcome occupied between within same h =
    pictured_by (MovesPicturedToEdited step) k size bytes outcome occupied between within same (λ from to is fits long. h from to is fits long Pictured (refl, λ binary. refl))

pub few_pictured_wide_edited : (k : MoveKinds) (step : WideEditStep) (size : ℕ) → AreOccupied k → BetweenItems (MovesPicturedToWideEdited step) k.sender k.receiver → size ≡ k.received → size ≤ 32
few_pictured_wide_edited k step size occupied between same =
    omega (arith, same, fits_between 32 (MovesPicturedToWideEdited step) k.sender k.receiver k.received (λ from to is. is.writer.fits) occupied.receiver between)

pub pictured_wide_edited_received : (k : MoveKinds) (step : WideEditStep) (size : ℕ) (bytes : List ℕ) (outcome : Option (List ℕ)) → AreOccupied k → BetweenItems (MovesPicturedToWideEdited step) k.sender k.receiver
    → k.sent ≤ length bytes → size ≡ k.received → IsWideEditCarriedOut step bytes size outcome → IsReceivedPictured k bytes outcome
pictured_wide_edited_received k step size bytes outcome occupied between within same h =
    pictured_by (MovesPicturedToWideEdited step) k size bytes outcome occupied between within same (λ from to is fits long. h from to is fits long Pictured (refl, λ binary. refl))

pub pictured_numerals_received : (k : MoveKinds) (step : NumeralsStep) (size : ℕ) (bytes : List ℕ) (outcome : Option (List ℕ)) → AreOccupied k → BetweenItems (MovesPicturedToNumerals step) k.sender k.receiver
    → k.sent ≤ length bytes → size ≡ k.received → IsNumeralsCarriedOut step bytes size outcome → IsReceivedPictured k bytes outcome
pictured_numerals_received k step size bytes outcome occupied between within same h =
    pictured_by (MovesPicturedToNumerals step) k size bytes outcome occupied between within same (λ from to is fits long. h from to is fits long Pictured (refl, λ binary. refl))

pub pictured_long_received : (k : MoveKinds) (step : LongStep) (size : ℕ) (bytes : List ℕ) (outcome : Option (List ℕ)) → AreOccupied k → BetweenItems (MovesPicturedLong step) k.sender k.receiver
    → k.sent ≤ length bytes → size ≡ k.received → IsLongCarriedOut step bytes size outcome → IsReceivedPictured k bytes outcome
pictured_long_received k step size bytes outcome occupied between within same h =
    pictured_by (MovesPicturedLong step) k size bytes outcome occupied between within same (λ from to is fits long. h from to is fits long Pictured (refl, λ binary. refl))
