use Rattle.std.proofs.Common.{List, sym, ap, ◌∙◌}
use Rattle.cob_source.specs.Tokens.{Lexeme, lexemes}
use Rattle.cob_move_loops.specs.Passages.{ARun}
use Rattle.cob_move_loops.proofs.OneLemmas.{are_others, others_one}
use Rattle.cob_move_loops.proofs.front.run_at.Goals as goal

pub returns-clause-only : goal.returns-clause-only
returns-clause-only c = λ own more (run, first, e).
    let one = others_one own (lexemes c.others_at.result.0.now) more (lexemes c.others_at.result.1.now) (are_others own run) c.others_at.ensures.are first c.others_at.ensures.ends (sym e ∙ c.others_at.ensures.found) in
    (ap (λ (t : List Lexeme). ARun t) (sym one.0), sym one.1)
