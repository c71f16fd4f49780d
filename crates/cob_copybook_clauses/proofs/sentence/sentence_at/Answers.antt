use Rattle.std.proofs.Common.{sym, subst, List}
use Rattle.cob_source.specs.declared.token.Token.{Token}
use Rattle.cob_source.specs.Tokens.{lexeme, lexemes}
use Rattle.cob_copybook_clauses.specs.Entries.{HasNoStop}
use Rattle.cob_copybook_clauses.proofs.SentenceLemmas.{stop_of, split_words}
use Rattle.cob_copybook_clauses.proofs.sentence.sentence_at.Goals as goal

pub returns-clause-found : goal.returns-clause-found
returns-clause-found c =
    let part = c.split_at.ensures in (
      lexeme c.in_ok-behind.field-0-0.now,
      stop_of _ _ c.in_ok-behind.behind.now c.in_ok-behind.field-0-0.now c.sentence_len.ensures.other part.back c.in_ok-behind.ensures.cases.0,
      subst (λ (ts : List Token). HasNoStop (lexemes ts)) (sym part.front) c.sentence_len.ensures.each,
      split_words c.args.tokens.now _ _ c.in_ok-behind.behind.now c.in_ok-behind.field-0-0.now c.sentence_len.result part.front part.back c.in_ok-behind.ensures.cases.0,
    )
