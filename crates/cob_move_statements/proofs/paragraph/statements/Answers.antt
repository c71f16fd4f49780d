use Rattle.std.proofs.Common.{◌∙◌, sym, subst, List, inr}
use Rattle.cob_source.specs.Tokens.{Lexeme, lexemes}
use Rattle.cob_move_statements.specs.Statements.{IsParagraph, IsEndedStatement, Several}
use Rattle.cob_move_statements.proofs.ParagraphLemmas.{line_in, line_of, no_name, no_words_stuck, none_left, not_empty, refused_memory, refused_more}
use Rattle.cob_move_statements.proofs.paragraph.statements.Goals as goal

pub returns-then-is_empty-clause-only : goal.returns-then-is_empty-clause-only
returns-then-is_empty-clause-only c = λ ss is.
    let body = c.behind_heading-body.ensures.only is.heading is.body is.named (no_name (lexemes c.args.words.now) ss is) is.words in
    let none = none_left c.behind_heading-body.result.now c.is_empty.result c.is_empty.ensures c.if-is_empty.true in
    absurd (not_empty (lexemes c.args.words.now) ss is (sym body ∙ none))

pub returns-then-is_empty-clause-fault : goal.returns-then-is_empty-clause-fault
returns-then-is_empty-clause-fault c = inr (
  c.ungrammatical.ensures.rule,
  λ ss is.
      let body = c.behind_heading-body.ensures.only is.heading is.body is.named (no_name (lexemes c.args.words.now) ss is) is.words in
      let none = none_left c.behind_heading-body.result.now c.is_empty.result c.is_empty.ensures c.if-is_empty.true in
      not_empty (lexemes c.args.words.now) ss is (sym body ∙ none),
)

pub returns-clause-only : goal.returns-clause-only
returns-clause-only c = λ ss is.
    let body = c.behind_heading-body.ensures.only is.heading is.body is.named (no_name (lexemes c.args.words.now) ss is) is.words in
    let several : Several IsEndedStatement ss (lexemes c.behind_heading-body.result.now) = subst (λ (t : List Lexeme). Several IsEndedStatement ss t) (sym body) is.statements in
    (c.ended_statements.ensures.only ss several, refused_memory c.ended_statements.result (λ us. Several IsEndedStatement us (lexemes c.behind_heading-body.result.now)) ss several c.ended_statements.ensures.fault)

pub returns-clause-fault : goal.returns-clause-fault
returns-clause-fault c =
    refused_more c.ended_statements.result (λ us. Several IsEndedStatement us (lexemes c.behind_heading-body.result.now)) (λ us. IsParagraph (lexemes c.args.words.now) us)
    (λ ss is.
    let body = c.behind_heading-body.ensures.only is.heading is.body is.named (no_name (lexemes c.args.words.now) ss is) is.words in
    subst (λ (t : List Lexeme). Several IsEndedStatement ss t) (sym body) is.statements)
    c.ended_statements.ensures.fault

pub returns-then-is_empty-clause-line : goal.returns-then-is_empty-clause-line
returns-then-is_empty-clause-line c =
    let none = none_left c.behind_heading-body.result.now c.is_empty.result c.is_empty.ensures c.if-is_empty.true in
    let body = lexemes c.behind_heading-body.result.now in
    let line = c.ungrammatical.result.line in
    (body, c.behind_heading-body.ensures.found, line_in c.ungrammatical.result.rule line body c.ungrammatical.ensures.rule (no_words_stuck body line none c.ungrammatical.ensures.line))

pub returns-clause-line : goal.returns-clause-line
returns-clause-line c = line_of c.ended_statements.result (lexemes c.args.words.now) (lexemes c.behind_heading-body.result.now) c.behind_heading-body.ensures.found c.ended_statements.ensures.line
