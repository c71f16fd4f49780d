-- A run whose source is let go behind it, over all records that come or over those that are chosen.
use Rattle.std.specs.Prelude.{◌≡◌, ℕ, List, None, Option, Ok, Err, Result}
use Rattle.cob_records.specs.Device.{Told}
use Rattle.cob_convert_stream.specs.declared.fault.RunFault.{RunFault}
use Rattle.cob_records_parts.specs.Comings.{chosen_coming}
use Rattle.cob_records_parts.specs.Rests.{rest_coming, rest_inside}
use Rattle.cob_records_parts.specs.StillGiven.{IsLeftAt}
use Rattle.cob_records_parts.specs.declared.choice.Stopped.{Stopped}
use Rattle.cob_records_parts.specs.declared.chosen.Chosen.{Chosen}
use Rattle.cob_records_parts.specs.declared.incoming.Incoming.{Incoming}
use Rattle.cob_records_parts.specs.declared.incoming.Incoming.TheVariants as incoming
use Rattle.cob_records_parts.specs.declared.rest.Rest.{Rest}
use Rattle.cob_program_ends.specs.Stops.{cause_told}
use Rattle.cob_convert_record.specs.Conversion.{Conversion}
use Rattle.cob_convert.specs.Run.{Ran}
use Rattle.cob_convert.specs.declared.aside.AsideFault.{AsideFault}
use Rattle.cob_convert.specs.declared.aside.AsideFault.TheVariants as aside
use Rattle.cob_convert.specs.declared.aside.Tally.{Tally}
use Rattle.cob_convert.specs.Aside.{Outputs, RanAside}

-- ---- any run, by what it means that it answers so over bytes that came, up to a rest; and by its fault where the source of chosen records stopped so

-- A run answers this over a source that told these bytes to come, and that is let go behind the run.
abbrev pub AnswersFrom : {A : Type 0} → (means : A → List ℕ → List ℕ → Type 0) → A → Option (List ℕ) → Type 0
AnswersFrom means answer coming = (left : Option (List ℕ)) × Told coming left (λ bytes rest. means answer bytes rest)

-- what a run over chosen records answers, where its source stopped so, or did not
abbrev pub with_stop : {D F : Type 0} → (cause : Option Stopped → F → F) → Option Stopped → Result D F → Result D F
with_stop cause stop (Ok done) = Ok done
with_stop cause stop (Err fault) = Err (cause stop fault)

-- A run answers this over chosen records that are given apart: over these, each by itself, and behind them the mark of a frame that can't be read. Where
-- a read failed, since a frame can't be read, the answer has the fault at which their source stopped. That is the fault of the mark, which is all that is
-- left then.
abbrev pub AnswersOverApart : {S D F : Type 0} → (coming : S → Option (List ℕ)) → (cause : Option Stopped → F → F)
    → (means : Result D F → List ℕ → List ℕ → Type 0) → Result D F → Chosen S → Type 0
AnswersOverApart {S} {D} {F} coming cause means answer chosen =
    (told : Result D F) × (stop : Option Stopped) × (left : Option (List ℕ)) × (answer ≡ with_stop cause stop told) × IsLeftAt stop left
    × Told (chosen_coming coming chosen) left (means told)

-- A run answers this over what is left of a source, or over its first bytes; or over chosen records that are given apart.
abbrev pub AnswersOverChosen : {S D F : Type 0} → (coming : S → Option (List ℕ)) → (cause : Option Stopped → F → F)
    → (means : Result D F → List ℕ → List ℕ → Type 0) → Result D F → Result (Rest S) (Chosen S) → Type 0
AnswersOverChosen coming cause means answer (Ok rest) = AnswersFrom means answer (rest_coming coming rest)
AnswersOverChosen coming cause means answer (Err chosen) = AnswersOverApart coming cause means answer chosen

-- A run answers this over all records that come of a source, or over those that are chosen.
abbrev pub AnswersOver : {S D F : Type 0} → (coming : S → Option (List ℕ)) → (cause : Option Stopped → F → F)
    → (means : Result D F → List ℕ → List ℕ → Type 0) → Result D F → Incoming S → Type 0
AnswersOver coming cause means answer (incoming.All source) = AnswersFrom means answer (coming source)
AnswersOver coming cause means answer (incoming.Some chosen) = AnswersOverChosen coming cause means answer (rest_inside chosen)

-- ---- a run that stops at the first record that does not convert

-- A converter was run over all records that come of a source, or over those that are chosen.
abbrev pub RanOver : {S : Type 0} → (S → Option (List ℕ)) → Conversion → Result ℕ RunFault → Incoming S → Option (List ℕ) → Option (List ℕ) → Type 0
RanOver coming conversion answer incoming before now =
    AnswersOver coming cause_told (λ told bytes rest. Ran conversion told bytes rest before now) answer incoming

-- ---- a run that sets records aside

-- the fault of a run over chosen records, where one of these couldn't be read
abbrev pub aside_cause : Option Stopped → AsideFault → AsideFault
aside_cause stop (aside.Stopped told) = aside.Stopped (cause_told stop told)
aside_cause stop (aside.NotSetAside number cause written) = aside.NotSetAside number cause written

-- A converter was run so over all records that come of a source, or over those that are chosen, and set aside at most so many.
abbrev pub RanAsideOver : {S : Type 0} → (S → Option (List ℕ)) → Conversion → ℕ → Result Tally AsideFault → Incoming S → Outputs → Outputs → Type 0
RanAsideOver coming conversion most answer incoming before now =
    AnswersOver coming aside_cause (λ told bytes rest. RanAside conversion most told bytes rest before now) answer incoming

-- what three ends tell together, by what each of them tells
abbrev pub outputs_of : {K A N : Type 0} → (K → Option (List ℕ)) → (A → Option (List ℕ)) → (N → Option (List RunFault)) → K → A → N → Outputs
outputs_of taken taken_aside told sink rejects notes = record { sink = taken sink; aside = taken_aside rejects; notes = told notes }

-- A converter was run so with three ends, which stood so before and are let go behind it.
abbrev pub RanOnto : {S K A N : Type 0} → (S → Option (List ℕ)) → (K → Option (List ℕ)) → (A → Option (List ℕ)) → (N → Option (List RunFault))
    → Conversion → ℕ → Result Tally AsideFault → Incoming S → K → A → N → Type 0
RanOnto {S} {K} {A} {N} coming taken taken_aside told conversion most answer incoming sink rejects notes =
    (sink_now : K) × (rejects_now : A) × (notes_now : N) × RanAsideOver coming conversion most answer incoming
    (outputs_of taken taken_aside told sink rejects notes) (outputs_of taken taken_aside told sink_now rejects_now notes_now)

-- ends of which none tells anything
abbrev pub untold : Outputs
untold = record { sink = None; aside = None; notes = None }
