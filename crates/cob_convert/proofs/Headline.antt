-- Where no call failed, a run is a conversion.
use Rattle.std.proofs.Common.{◌≡◌, ℕ, Bool, true, false, List, [], ◌++◌, refl, sym, ◌∙◌, ap, append-nil, arith, inl, inr, None, Some, Option, Ok, Err, Result}
use Rattle.std.specs.Io.KnownBytes.{append_known}
use Rattle.cob_records.specs.declared.records.Form.{Form}
use Rattle.cob_records.specs.Device.{Told, counted}
use Rattle.cob_records.specs.Forms.{written_of}
use Rattle.cob_convert_record.specs.Conversion.{Conversion}
use Rattle.cob_convert_stream.specs.declared.fault.Reason.{Reason}
use Rattle.cob_convert_stream.specs.declared.fault.RunFault.{RunFault}
use Rattle.cob_records.specs.declared.records.RecordFault.{RecordFault}
use Rattle.cob_records.specs.declared.records.RecordFault.TheVariants.{WriteFailed, TookNothing}
use Rattle.cob_records.specs.Frame.{is_read_failure, is_write_fault}
use Rattle.cob_convert_stream.specs.declared.fault.Cause.{Cause}
use Rattle.cob_convert_stream.specs.declared.fault.Cause.TheVariants.{Record}
use Rattle.cob_convert_stream.specs.Reasons.{is_read_cause, is_write_cause, reason_of}
use Rattle.cob_convert_stream.specs.Input.{Remains}
use Rattle.cob_convert.specs.Run.{CountsReads, Ends, Ran, WriteStops, is_read_stop, is_write_stop, records_out}
use Rattle.cob_convert.specs.Converted.{Writes}
use Rattle.cob_convert.proofs.Carried.{put_kind}

pub not_raised : (failed : Bool) (old new : ℕ) → new ≡ counted failed old → new ≡ old → failed ≡ false
not_raised false old new e same = refl
not_raised true old new e same = absurd (omega arith)

-- a failed write is no failed read
fault_is_one : (fault : RecordFault) → is_write_fault fault ≡ true → is_read_failure (Err fault) ≡ false
fault_is_one (WriteFailed taken) wrote = refl
fault_is_one (TookNothing taken) wrote = refl
fault_is_one _ wrote = absurd cc

cause_is_one : (cause : Cause) → is_write_cause cause ≡ true → is_read_cause cause ≡ false
cause_is_one (Record fault) wrote = fault_is_one fault wrote
cause_is_one _ wrote = refl

-- where no read failed, no failed read is answered
pub not_unread : (form : Form) (answer : Result ℕ RunFault) (old new : ℕ) → CountsReads form answer old new → new ≡ old → is_read_stop answer ≡ false
not_unread form (Ok number) old new counts still = refl
not_unread form (Err fault) old new (failed, e, same) still = go (is_write_cause fault.cause) refl
  where
    go : (wrote : Bool) → is_write_cause fault.cause ≡ wrote → is_read_cause fault.cause ≡ false
    go true is = cause_is_one fault.cause is
    go false is = sym (same (inr is)) ∙ not_raised failed old new e still

-- where no write failed, a run didn't stop in writing
pub not_in_write : (conversion : Conversion) (pairs : List (List ℕ × List ℕ)) (at : Remains) (sent part : List ℕ) (fault : RunFault)
    → WriteStops conversion pairs at sent part fault.number (reason_of fault) → is_write_stop (Err fault) ≡ false → ⊥
not_in_write conversion pairs at sent part fault stops works =
    let raised : is_write_stop (Err fault) ≡ true = ap (λ (r : Reason). is_write_cause r.cause) stops.reason ∙ (put_kind stops.bytes part stops.fault stops.puts).0 in
    cc

-- a run that didn't stop in writing has written all that its records became, and no part of more
written_all : (conversion : Conversion) (pairs : List (List ℕ × List ℕ)) (at : Remains) (sent part : List ℕ) (answer : Result ℕ RunFault) → Ends conversion pairs at sent part answer
    → is_write_stop answer ≡ false → (sent ≡ written_of conversion.out_form (records_out pairs)) × (part ≡ [])
written_all conversion pairs at sent part (Ok number) ends works = (ends.all, ends.nothing)
written_all conversion pairs at sent part (Err fault) ends works = elim ends.stops [
  | inl s ↦ (s.all, s.nothing)
  | inr s ↦ absurd (not_in_write conversion pairs at sent part fault s works)
]

pub headline_of : (conversion : Conversion) (answer : Result ℕ RunFault) (r0 r w0 w : Option (List ℕ))
    → Told r0 r (λ bytes rest. Ran conversion answer bytes rest w0 w) → is_read_stop answer ≡ false → is_write_stop answer ≡ false
    → Told r0 r (λ bytes rest. Writes conversion answer bytes rest w0 w)
headline_of conversion answer None r w0 w t a b = tt
headline_of conversion answer (Some bytes) None w0 w t a b = absurd t
headline_of conversion answer (Some bytes) (Some rest) w0 w t a b =
    let (all, none) = written_all conversion t.pairs (record { opened = t.opened; left = t.left; rest = rest }) t.sent t.part answer t.ends b in (
      t.sent,
      record {
        pairs = t.pairs;
        opened = t.opened;
        left = t.left;
        come = t.come;
        each = t.each;
        output = all;
        ends = rw none at t.ends;
        read = a;
        wrote = b;
      },
      t.output ∙ ap (λ xs. append_known w0 xs) (ap (λ xs. t.sent ++ xs) none ∙ append-nil t.sent),
    )
