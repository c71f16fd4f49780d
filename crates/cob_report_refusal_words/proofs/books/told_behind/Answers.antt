use Rattle.std.proofs.Common.{List, sym, subst}
use Rattle.std.specs.Prelude.{IfSome, Option}
use Rattle.cob_source.specs.Tokens.{Lexeme, lexemes}
use Rattle.cob_report_refusals.specs.Refused.{IsEntryBehind}
use Rattle.cob_report_refusal_words.specs.Pointing.{IsUnderOne}
use Rattle.cob_report_refusal_words.specs.declared.told.Caret.{Caret}
use Rattle.cob_report_refusal_words.proofs.Under.{some_wider}
use Rattle.cob_report_refusal_words.proofs.books.told_behind.Goals as goal

pub returns-in-Grammar : goal.returns-in-Grammar
returns-in-Grammar c =
    subst (λ (o : Option Caret). IfSome o (λ k. (own : List Lexeme) × IsEntryBehind c.args.before own (lexemes c.args.words.now) × IsUnderOne k own)) (sym c.with_columns.ensures)
    (some_wider c.among-told.result.at (λ k h. (lexemes c.entry_behind-own.result.now, c.entry_behind-own.ensures, h)) c.among-told.ensures)

pub returns-in_default : goal.returns-in_default
returns-in_default c = some_wider c.among-told.result.at (λ k h. (lexemes c.entry_behind-own.result.now, c.entry_behind-own.ensures, h)) c.among-told.ensures
