use Rattle.std.proofs.Common.{◌≡◌, ◌∙◌, ◌==◌, ◌||◌, ℕ, Bool, true, false, Result, Ok, Err, ap, refl, sym, subst, if◌then◌else◌, arith}
use Rattle.std.proofs.lemmas.Bool.{eqb-false}
use Rattle.cob_convert_stream.specs.Reasons.{is_write_cause}
use Rattle.cob_convert_stream.specs.declared.fault.RunFault.{RunFault}
use Rattle.cob_program_faults.specs.declared.fault.CommandFault.TheVariants as fault
use Rattle.cob_program_run.specs.Ends.{StopsRun}
use Rattle.cob_program_run.specs.Finished.{as_aside, lacking, lacking_output, records_before}
use Rattle.cob_program_run.specs.Marks.{last_put}
use Rattle.cob_program_run.proofs.lacking.unflushed.Goals as goal

-- behind a run that is done: where a last record was put, it lacks
stops_done : (last : ℕ) (none : Bool) → (last == 0) ≡ none → StopsRun (if none then fault.Unprinted else fault.Unflushed last)
stops_done last true is = tt
stops_done last false is = omega (arith, eqb-false last 0 is)

-- behind a stop: the stop, or a last record that lacks
stops_stopped : (stopped : RunFault) (last : ℕ) (none failed : Bool) → (last == 0) ≡ none
    → StopsRun (if none || failed then fault.Stopped stopped else fault.Unflushed last)
stops_stopped stopped last true failed is = tt
stops_stopped stopped last false true is = tt
stops_stopped stopped last false false is = omega (arith, eqb-false last 0 is)

-- what is told of a lost end is a stop of the run
stops_lacking : (answer : Result ℕ RunFault) (last : ℕ) → StopsRun (lacking (as_aside answer) last (fault.Unflushed last))
stops_lacking (Ok done) last = stops_done last (last == 0) refl
stops_lacking (Err stopped) last = stops_stopped stopped last (last == 0) (is_write_cause stopped.cause) refl

pub returns-clause-stops : goal.returns-clause-stops
returns-clause-stops c =
    subst StopsRun (sym (c.lacking_output.ensures.told ∙ ap (λ a. lacking_output a c.new.result) c.as_aside.ensures))
    (stops_lacking c.args.answer (last_put c.new.result (records_before (as_aside c.args.answer))))
