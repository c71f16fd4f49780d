use Rattle.std.proofs.Common.{inr, refl}
use Rattle.cob_source.specs.Tokens.{lexemes}
use Rattle.cob_report_refused_moves.proofs.Telling.{on_wider}
use Rattle.cob_report_refused_moves.proofs.moves.add_body.Goals as goal

pub returns-then-are_others : goal.returns-then-are_others
returns-then-are_others c =
    on_wider c.add_statements.result (λ adds text names has all. adds text names (has (lexemes c.args.body.now) (inr (c.are_others.ensures c.if-are_others.true, refl))) all) c.add_statements.ensures
