-- The record with a number, as a run meets it.
use Rattle.std.proofs.Common.{◌≡◌, ◌∙◌, ℕ, List, take, refl, ap, subst, arith, false, None, Some, Option, Ok, Err, Result}
use Rattle.cob_records.specs.Device.{Told}
use Rattle.cob_records.specs.Frame.{IsRecord}
use Rattle.cob_records.specs.declared.records.Form.{Form}
use Rattle.cob_convert_stream.specs.Input.{Remains}
use Rattle.cob_convert_stream.specs.Reasons.{frame_reason, is_write_cause, misfit_reason, reason_of}
use Rattle.cob_convert_stream.specs.Whole.{IsMisfitReason}
use Rattle.cob_convert_stream.specs.declared.fault.Reason.{Reason}
use Rattle.cob_convert_stream.specs.declared.fault.RunFault.{RunFault}
use Rattle.cob_convert_stream.specs.declared.misfit.MeasureFault.{MeasureFault}
use Rattle.cob_convert_stream.specs.declared.misfit.MeasureFault.TheVariants.{Count, Length}
use Rattle.cob_convert_record.specs.Conversion.{Conversion, in_length}
use Rattle.cob_convert.specs.Outcomes.{ByConversion, ByLayout, IsRejected}
use Rattle.cob_convert.specs.Run.{Came, InConversion, InLayout, InRead, ReadStops, RecordStops}
use Rattle.cob_records_parts.specs.Numbering.{FindsNumbered}
use Rattle.cob_records_parts.specs.declared.choice.Stopped.{Stopped}
use Rattle.cob_records_parts.specs.declared.numbered.Numbered.{Numbered}
use Rattle.cob_records_parts.specs.declared.numbered.Numbered.TheVariants as numbered
use Rattle.cob_program_map.specs.Numbered.{FindsRecord, StopsWhole}
use Rattle.cob_program_map.specs.declared.record.FoundRecord.TheVariants.{Fewer, Record}
use Rattle.cob_program_map.specs.declared.record.Lengths.{Lengths}

-- what holds of the bytes of a source in other words
told_so : (r0 r1 : Option (List ℕ)) (P Q : List ℕ → List ℕ → Type 0) → Told r0 r1 P → ((bytes rest : List ℕ) → P bytes rest → Q bytes rest) → Told r0 r1 Q
told_so None r1 P Q p f = tt
told_so (Some bytes) None P Q p f = absurd p
told_so (Some bytes) (Some rest) P Q p f = f bytes rest p

-- the form and the greatest length are those of the conversion
as_input : (conversion : Conversion) (form : Form) (greatest number : ℕ) (slice : List ℕ) (found : Result Numbered Stopped) (r0 r1 : Option (List ℕ))
    → form ≡ conversion.in_form → greatest ≡ in_length conversion → Told r0 r1 (FindsNumbered form greatest number slice found)
    → Told r0 r1 (FindsNumbered conversion.in_form (in_length conversion) number slice found)
as_input conversion form greatest number slice found r0 r1 same long finds =
    subst (λ (f : Form). Told r0 r1 (FindsNumbered f (in_length conversion) number slice found)) same
    (subst (λ (n : ℕ). Told r0 r1 (FindsNumbered form n number slice found)) long finds)

pub as_record : (conversion : Conversion) (form : Form) (greatest : ℕ) (body : List ℕ) → form ≡ conversion.in_form → greatest ≡ in_length conversion
    → IsRecord form greatest body → IsRecord conversion.in_form (in_length conversion) body
as_record conversion form greatest body same long is =
    subst (λ (f : Form). IsRecord f (in_length conversion) body) same (subst (λ (n : ℕ). IsRecord form n body) long is)

-- there are fewer
pub finds_fewer : (conversion : Conversion) (form : Form) (greatest number there : ℕ) (slice : List ℕ) (r0 r1 : Option (List ℕ))
    → form ≡ conversion.in_form → greatest ≡ in_length conversion → Told r0 r1 (FindsNumbered form greatest number slice (Ok (numbered.Fewer there)))
    → Told r0 r1 (FindsRecord conversion number slice (Ok (Fewer there)))
finds_fewer conversion form greatest number there slice r0 r1 same long finds = as_input conversion form greatest number slice (Ok (numbered.Fewer there)) r0 r1 same long finds

-- it comes
pub finds_next : (conversion : Conversion) (form : Form) (greatest number : ℕ) (lengths : Lengths) (slice : List ℕ) (r0 r1 : Option (List ℕ))
    → form ≡ conversion.in_form → greatest ≡ in_length conversion → Told r0 r1 (FindsNumbered form greatest number slice (Ok (numbered.Record lengths.input)))
    → Told r0 r1 (FindsRecord conversion number slice (Ok (Record lengths)))
finds_next conversion form greatest number lengths slice r0 r1 same long finds =
    as_input conversion form greatest number slice (Ok (numbered.Record lengths.input)) r0 r1 same long finds

-- a frame up to its own can't be read
pub finds_unread : (conversion : Conversion) (form : Form) (greatest number : ℕ) (stop : Stopped) (fault : RunFault) (slice : List ℕ) (r0 r1 : Option (List ℕ))
    → form ≡ conversion.in_form → greatest ≡ in_length conversion → fault.number ≡ stop.number → reason_of fault ≡ frame_reason stop.fault
    → Told r0 r1 (FindsNumbered form greatest number slice (Err stop)) → Told r0 r1 (FindsRecord conversion number slice (Err fault))
finds_unread conversion form greatest number stop fault slice r0 r1 same long names is finds =
    told_so r0 r1 _ _ (as_input conversion form greatest number slice (Err stop) r0 r1 same long finds) (λ bytes rest p.
    let unread : ReadStops conversion (record { opened = p.opened; left = p.left; rest = rest }) (reason_of fault) =
    record { fault = stop.fault; after = p.after; reads = p.reads; reason = is } in
    record {
      earlier = p.earlier;
      opened = p.opened;
      left = p.left;
      next = names ∙ p.next;
      most = omega (arith, names, p.most);
      passed = p.passed;
      stops = InRead unread;
      frame = λ below. unread;
    })

-- a record that came whole and is rejected stops a run
rejected_stops : (conversion : Conversion) (input : List ℕ) (at : Remains) (why : Reason) → Came conversion input at → IsRejected conversion input why
    → RecordStops conversion at why
rejected_stops conversion input at why came (ByLayout (misfit, misfits, reason)) =
    InLayout (record { input = input; misfit = misfit; came = came; misfits = misfits; reason = reason })
rejected_stops conversion input at why came (ByConversion stop sized stops reason) =
    InConversion (record { input = input; stop = stop; came = came; sized = sized; stops = stops; reason = reason })

-- it comes, and stops
pub finds_stopped : (conversion : Conversion) (form : Form) (greatest number count : ℕ) (fault : RunFault) (slice : List ℕ) (r0 r1 : Option (List ℕ))
    → form ≡ conversion.in_form → greatest ≡ in_length conversion → IsRecord conversion.in_form (in_length conversion) (take count slice)
    → StopsWhole conversion (take count slice) number fault → Told r0 r1 (FindsNumbered form greatest number slice (Ok (numbered.Record count)))
    → Told r0 r1 (FindsRecord conversion number slice (Err fault))
finds_stopped conversion form greatest number count fault slice r0 r1 same long whole (names, rejected) finds =
    told_so r0 r1 _ _ (as_input conversion form greatest number slice (Ok (numbered.Record count)) r0 r1 same long finds) (λ bytes rest p. record {
      earlier = p.earlier;
      opened = p.opened;
      left = p.left;
      next = names ∙ p.next;
      most = omega (arith, names);
      passed = p.passed;
      stops = rejected_stops conversion (take count slice) _ (reason_of fault) (record { whole = whole; after = p.after; frame = p.frame }) rejected;
      frame = λ below. absurd (omega (arith, below, names));
    })

-- a misfit is no fault of writing
misfit_kind : (misfit : MeasureFault) → is_write_cause (misfit_reason misfit).cause ≡ false
misfit_kind (Count offset) = refl
misfit_kind Length = refl

pub misfit_told : (conversion : Conversion) (input : List ℕ) (number : ℕ) (why : Reason) (fault : RunFault) → fault.number ≡ number → reason_of fault ≡ why
    → IsMisfitReason conversion.in_form conversion.records.input input why → StopsWhole conversion input number fault
misfit_told conversion input number why fault names is (misfit, misfits, reason) = (names, ByLayout (misfit, misfits, is ∙ reason))

pub misfit_read : (conversion : Conversion) (input : List ℕ) (why : Reason) (fault : RunFault) → reason_of fault ≡ why
    → IsMisfitReason conversion.in_form conversion.records.input input why → is_write_cause fault.cause ≡ false
misfit_read conversion input why fault is (misfit, misfits, reason) = ap (λ (r : Reason). is_write_cause r.cause) (is ∙ reason) ∙ misfit_kind misfit
