use Rattle.std.proofs.Common.{sym, subst}
use Rattle.std.specs.Prelude.{IfSome, Option}
use Rattle.cob_source.specs.Tokens.{lexemes}
use Rattle.cob_report_refusal_words.specs.Pointing.{IsUnderEntry}
use Rattle.cob_report_refusal_words.specs.declared.told.Caret.{Caret}
use Rattle.cob_report_refusal_words.proofs.Under.{some_wider}
use Rattle.cob_report_refusal_words.proofs.books.told_of_entry.Goals as goal

pub returns-in-Some : goal.returns-in-Some
returns-in-Some c =
    let told = rw c.in-Some.is at c.entry_told.ensures in
    some_wider c.told_behind.result.at (λ k h. (h.0, told h.0 h.1, h.2)) c.told_behind.ensures

pub returns-in-None : goal.returns-in-None
returns-in-None c = subst (λ (o : Option Caret). IfSome o (λ k. IsUnderEntry c.args.refusal.now k (lexemes c.args.words.now))) (sym c.told_empty.ensures) tt
