use Rattle.std.proofs.Common.{sym, subst}
use Rattle.cob_source.specs.Tokens.{lexemes}
use Rattle.cob_report_refused_moves.specs.Statements.{AreMoveRefusals}
use Rattle.cob_report_refused_moves.proofs.Telling.{has_run}
use Rattle.cob_report_refused_moves.proofs.moves.statement_refusals.Goals as goal

pub returns : goal.returns
returns c = λ text names are.
    c.in_ok-add_body.ensures text names (λ run on. has_run text _ _ (lexemes c.args.words.now) (lexemes c.body_of.result.now) run are c.body_of.ensures on)
    (subst (AreMoveRefusals text c.args.input.now c.args.output.now names) (sym c.new-out.ensures.items) tt)
