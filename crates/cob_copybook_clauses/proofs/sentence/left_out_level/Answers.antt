use Rattle.cob_source.specs.Tokens.{lexemes}
use Rattle.cob_copybook_clauses.proofs.SentenceLemmas.{level_word}
use Rattle.cob_copybook_clauses.proofs.sentence.left_out_level.Goals as goal

pub returns-in_err-level-clause-none : goal.returns-in_err-level-clause-none
returns-in_err-level-clause-none c = rw c.from_residual.ensures (λ w h. let (l, ls, is, e) = level_word (lexemes c.args.sentence.now) w h in c.in_err-level.ensures.only w l ls is e)
