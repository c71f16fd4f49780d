-- Why records are rejected: none is a fault of a device, and each stops a run that sets none aside.
use Rattle.std.proofs.Common.{◌≡◌, ℕ, List, false, refl, ap, ◌∙◌}
use Rattle.cob_convert_record.specs.Conversion.{Conversion}
use Rattle.cob_move_apply.specs.declared.stop.StopCause.{StopCause}
use Rattle.cob_move_apply.specs.declared.stop.StopCause.TheVariants.{NoValue, Count, Subscript}
use Rattle.cob_convert_stream.specs.declared.fault.Reason.{Reason}
use Rattle.cob_convert_stream.specs.declared.misfit.MeasureFault.{MeasureFault}
use Rattle.cob_convert_stream.specs.declared.misfit.MeasureFault.TheVariants.{Count as Uncounted, Length as Unfitting}
use Rattle.cob_convert_stream.specs.Input.{Remains}
use Rattle.cob_convert_stream.specs.Reasons.{is_read_cause, is_write_cause, refusal_from}
use Rattle.cob_convert_record.specs.Reasons.{cause_from}
use Rattle.cob_convert.specs.Run.{Came, InConversion, InLayout, RecordStops}
use Rattle.cob_convert.specs.Outcomes.{ByConversion, ByLayout, IsRejected}

misfit_unread : (misfit : MeasureFault) → is_read_cause (refusal_from misfit) ≡ false
misfit_unread (Uncounted offset) = refl
misfit_unread Unfitting = refl

misfit_unwritten : (misfit : MeasureFault) → is_write_cause (refusal_from misfit) ≡ false
misfit_unwritten (Uncounted offset) = refl
misfit_unwritten Unfitting = refl

stop_unread : (cause : StopCause) → is_read_cause (cause_from cause) ≡ false
stop_unread NoValue = refl
stop_unread Count = refl
stop_unread Subscript = refl

stop_unwritten : (cause : StopCause) → is_write_cause (cause_from cause) ≡ false
stop_unwritten NoValue = refl
stop_unwritten Count = refl
stop_unwritten Subscript = refl

-- no read failed
pub rejected_unread : (conversion : Conversion) (input : List ℕ) (why : Reason) → IsRejected conversion input why → is_read_cause why.cause ≡ false
rejected_unread conversion input why (ByLayout (misfit, misfits, is)) = ap (λ (r : Reason). is_read_cause r.cause) is ∙ misfit_unread misfit
rejected_unread conversion input why (ByConversion stop sized stops is) = ap (λ (r : Reason). is_read_cause r.cause) is ∙ stop_unread stop.cause

-- and no write
pub rejected_unwritten : (conversion : Conversion) (input : List ℕ) (why : Reason) → IsRejected conversion input why → is_write_cause why.cause ≡ false
rejected_unwritten conversion input why (ByLayout (misfit, misfits, is)) = ap (λ (r : Reason). is_write_cause r.cause) is ∙ misfit_unwritten misfit
rejected_unwritten conversion input why (ByConversion stop sized stops is) = ap (λ (r : Reason). is_write_cause r.cause) is ∙ stop_unwritten stop.cause

-- a rejected record stops a run
pub stops_record : (conversion : Conversion) (at : Remains) (input : List ℕ) (why : Reason) → Came conversion input at → IsRejected conversion input why → RecordStops conversion at why
stops_record conversion at input why came (ByLayout (misfit, misfits, is)) =
    InLayout (record { input = input; misfit = misfit; came = came; misfits = misfits; reason = is })
stops_record conversion at input why came (ByConversion stop sized stops is) =
    InConversion (record { input = input; stop = stop; came = came; sized = sized; stops = stops; reason = is })
