use Rattle.std.proofs.Common.{sym, subst}
use Rattle.cob_report_refused_moves.specs.Statements.{AreMoveRefusals}
use Rattle.cob_report_refused_moves.proofs.moves.refusals_of_words.Goals as goal

pub returns-clause-each : goal.returns-clause-each
returns-clause-each c = λ text names refused are. c.behind_first.ensures.each text _ _ names refused (subst (AreMoveRefusals text c.args.input.now c.args.output.now names) (sym c.as_slice.ensures.value) (c.in_ok-found.ensures text names are))
