use Rattle.std.proofs.Common.{◌++◌, ◌∙◌, List, ap, append_assoc, refl, subst, sym}
use Rattle.cob_source.specs.Tokens.{Lexeme, lexemes}
use Rattle.cob_copybook_clauses.specs.declared.term.WordClass.TheVariants as term
use Rattle.cob_move_statements.specs.Written.{WrittenSender, written_sender}
use Rattle.cob_move_conditions.specs.Conditions.{GoesBehind}
use Rattle.cob_move_conditions.proofs.TestLemmas.{behind_not}
use Rattle.cob_move_conditions.proofs.tests.test_at.Goals as goal

pub returns-clause-found : goal.returns-clause-found
returns-clause-found c =
    let (operand, compared, a) = c.in_ok-first.ensures.found in
    let (behind, goes_on, b) = c.in_ok-test.ensures.found in (
      operand ++ behind,
      record { first = written_sender c.in_ok-first.first; operand = operand; behind = behind; compared = compared; goes_on = goes_on; words = refl },
      a ∙ ap (λ (t : List Lexeme). operand ++ t) b ∙ sym (append_assoc operand behind (lexemes c.in_ok-test.more.now)),
    )

pub returns-in_err-first-clause-only : goal.returns-in_err-first-clause-only
returns-in_err-first-clause-only c = λ t ws more it ends cut.
    absurd (c.in_err-first.ensures.only it.first it.operand (it.behind ++ more) it.compared
    (behind_not term.Of it.first t it.behind more refl (λ e. cc) (λ e. cc) (λ e. cc) it.goes_on ends)
    (behind_not term.OpenBracket it.first t it.behind more refl (λ e. cc) (λ e. cc) (λ e. cc) it.goes_on ends)
    (cut ∙ ap (λ (x : List Lexeme). x ++ more) it.words ∙ append_assoc it.operand it.behind more))

pub returns-in_err-test-clause-only : goal.returns-in_err-test-clause-only
returns-in_err-test-clause-only c = λ t ws more it ends cut.
    let read = c.in_ok-first.ensures.only it.first it.operand (it.behind ++ more) it.compared
    (behind_not term.Of it.first t it.behind more refl (λ e. cc) (λ e. cc) (λ e. cc) it.goes_on ends)
    (behind_not term.OpenBracket it.first t it.behind more refl (λ e. cc) (λ e. cc) (λ e. cc) it.goes_on ends)
    (cut ∙ ap (λ (x : List Lexeme). x ++ more) it.words ∙ append_assoc it.operand it.behind more) in
    absurd (c.in_err-test.ensures.only t it.behind more (subst (λ (a : WrittenSender). GoesBehind a t it.behind) (sym read.0) it.goes_on) ends read.1)

pub returns-clause-only : goal.returns-clause-only
returns-clause-only c = λ t ws more it ends cut.
    let read = c.in_ok-first.ensures.only it.first it.operand (it.behind ++ more) it.compared
    (behind_not term.Of it.first t it.behind more refl (λ e. cc) (λ e. cc) (λ e. cc) it.goes_on ends)
    (behind_not term.OpenBracket it.first t it.behind more refl (λ e. cc) (λ e. cc) (λ e. cc) it.goes_on ends)
    (cut ∙ ap (λ (x : List Lexeme). x ++ more) it.words ∙ append_assoc it.operand it.behind more) in
    c.in_ok-test.ensures.only t it.behind more (subst (λ (a : WrittenSender). GoesBehind a t it.behind) (sym read.0) it.goes_on) ends read.1
