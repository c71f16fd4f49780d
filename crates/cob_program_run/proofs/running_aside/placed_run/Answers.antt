use Rattle.std.proofs.Common.{◌≡◌, ◌∙◌, ap, refl, sym, Bool, true, false, Result, Ok, Err}
use Rattle.std.specs.Prelude.{⊤}
use Rattle.cob_convert.specs.declared.aside.Tally.{Tally}
use Rattle.cob_program_faults.specs.declared.fault.CommandFault.{CommandFault}
use Rattle.cob_program_run.specs.declared.marks.Marks.{Marks}
use Rattle.cob_program_run.specs.declared.running_aside.PlacesFault.{PlacesFault}
use Rattle.cob_program_run.specs.Finished.{finished_aside, placed_run}
use Rattle.cob_program_run.proofs.running_aside.placed_run.Goals as goal

-- a fault stays, whether the outputs are parts or not
stays : (atomic : Bool) (fault : CommandFault) (marks : Marks) (place : Result ⊤ PlacesFault)
    → ◌≡◌ {A = Result Tally CommandFault} (Err fault) (placed_run atomic (Err fault) marks place)
stays true fault marks place = refl
stays false fault marks place = refl

pub returns-in-Ok-2-clause-told : goal.returns-in-Ok-2-clause-told
returns-in-Ok-2-clause-told g c =
    let ending = c.args.ending in (
      Ok tt,
      sym c.in-Ok.is ∙ c.finished.ensures.finished
          ∙ ap (λ (a : Bool). placed_run a (finished_aside ending.answer ending.marks ending.flushed ending.aside_flushed) ending.marks (Ok tt)) (sym c.if-atomic.false),
    )

pub returns-in-Err-clause-told : goal.returns-in-Err-clause-told
returns-in-Err-clause-told g c = (
  Ok tt,
  stays c.args.atomic c.in-Err.fault c.args.ending.marks (Ok tt)
      ∙ ap (λ (o : Result Tally CommandFault). placed_run c.args.atomic o c.args.ending.marks (Ok tt)) (sym c.in-Err.is ∙ c.finished.ensures.finished),
)

pub returns-in-Err-clause-lacks : goal.returns-in-Err-clause-lacks
returns-in-Err-clause-lacks g c = c.in-Err.ensures.stops c.args.atomic
