use Rattle.std.proofs.Common.{List, subst, sym}
use Rattle.cob_move_data.specs.Moves.{Records, moves_by}
use Rattle.cob_move_apply.specs.Steps.{StandFor, Support, support_of}
use Rattle.cob_move_apply.specs.declared.step.Step.{Step}
use Rattle.cob_move_apply.specs.Surveyed.{records}
use Rattle.cob_move_apply.proofs.SpendingLemmas.{bounded_reads}
use Rattle.cob_move_apply.proofs.by_rule.apply_in.Goals as goal

pub apply_chosen-requires-clause-steps : goal.apply_chosen-requires-clause-steps
apply_chosen-requires-clause-steps c =
    let x = c.args.layouts.now.reading in
    let r : Records = records c.args.layouts.now in
    let on : Support = support_of c.args.plan.now in
    subst (λ (ss : List Step). StandFor x r c.args.given.now ss on (moves_by x r c.args.given.now)) (sym c.as_slice-steps.ensures.value) c.requires.steps

pub apply_chosen-requires-clause-space : goal.apply_chosen-requires-clause-space
apply_chosen-requires-clause-space c =
    c.forget_output.ensures.space (records c.args.layouts.now) c.args.input.now c.args.output.now c.requires.space c.requires.kept

pub returns-clause-reads : goal.returns-clause-reads
returns-clause-reads c =
    let x = c.args.layouts.now.reading in
    let r : Records = records c.args.layouts.now in
    bounded_reads r (moves_by x r c.args.given.now) c.args.input.now c.args.output.now c.apply_chosen.result c.apply_chosen.new.output c.forget_output.new.self.output c.apply_chosen.new.space.output
    c.forget_output.ensures.none (c.forget_output.ensures.unkept r.output) c.apply_chosen.ensures.spends
