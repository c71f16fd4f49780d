use Rattle.std.proofs.Common.{◌≡◌, IfOk, IsSomeAnd}
use Rattle.cob_source.specs.Tokens.{lexemes}
use Rattle.cob_move_statements.specs.Written.{written_action, written_reference}
use Rattle.cob_move_statements.proofs.StatementLemmas.{only_corresponding, only_move}
use Rattle.cob_move_statements.proofs.actions.action_at.Goals as goal

pub returns-in-Some-clause-only : goal.returns-in-Some-clause-only
returns-in-Some-clause-only c =
    let (own, is, cut) = c.in-Some.ensures.found in
    only_corresponding (lexemes c.args.words.now) own (lexemes c.in-Some.more.now) (written_reference c.in-Some.from) (written_reference c.in-Some.to) is cut c.in-Some.ensures.only

pub returns-clause-only : goal.returns-clause-only
returns-clause-only c =
    only_move (λ x more. IfOk c.move_at.result (λ o. IsSomeAnd o (λ r. (written_action r.0 ≡ x) × (lexemes r.1.now ≡ more)))) (lexemes c.args.words.now) c.in_default.ensures.only c.move_at.ensures.only
