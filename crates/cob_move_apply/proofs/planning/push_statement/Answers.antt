use Rattle.std.proofs.Common.{◌∙◌, subst, sym}
use Rattle.std.proofs.lemmas.Result.{on_ok_weaker}
use Rattle.cob_move_data.specs.declared.operands.StatementMoves.{StatementMoves}
use Rattle.cob_move_data.specs.Moves.{Records, statement_moves_by}
use Rattle.cob_move_apply.specs.Planned.{AreMore, records_between}
use Rattle.cob_move_apply.specs.Steps.{Gains, GainsCut}
use Rattle.cob_move_apply.proofs.CutLemmas.{cut_selves}
use Rattle.cob_move_apply.proofs.PartLemmas.{same_statement}
use Rattle.cob_move_apply.proofs.planning.push_statement.Goals as goal

pub returns-in-Single-clause-gains : goal.returns-in-Single-clause-gains
returns-in-Single-clause-gains c =
    let r : Records = records_between c.args.both.now in
    on_ok_weaker c.push_move.result
    (λ so x s there. subst (λ (t : StatementMoves). GainsCut x r c.args.given.now (statement_moves_by x r t) c.args.plan.now c.push_move.new.plan)
    (sym c.in-Single.is ∙ same_statement c.args.given.now c.args.number c.index-given-number.result s c.requires.below c.index-given-number.is there.1) (so x))
    c.push_move.ensures.gains

pub returns-in-Single-clause-more : goal.returns-in-Single-clause-more
returns-in-Single-clause-more c =
    let r : Records = records_between c.args.both.now in
    on_ok_weaker c.push_move.result
    (λ so x s there. subst (λ (t : StatementMoves). AreMore r (statement_moves_by x r t) c.args.plan.now.steps.items c.push_move.new.plan.steps.items)
    (sym c.in-Single.is ∙ same_statement c.args.given.now c.args.number c.index-given-number.result s c.requires.below c.index-given-number.is there.1) (so x))
    c.push_move.ensures.more

pub returns-in-Pairs-clause-gains : goal.returns-in-Pairs-clause-gains
returns-in-Pairs-clause-gains c =
    let r : Records = records_between c.args.both.now in
    on_ok_weaker c.push_pairs.result
    (λ so x s there. (
      statement_moves_by x r s,
      cut_selves r (statement_moves_by x r s),
      subst (λ (t : StatementMoves). Gains x r c.args.given.now (statement_moves_by x r t) c.args.plan.now c.push_pairs.new.plan)
          (sym c.in-Pairs.is ∙ same_statement c.args.given.now c.args.number c.index-given-number.result s c.requires.below c.index-given-number.is there.1) (so x),
    ))
    c.push_pairs.ensures.gains
