use Rattle.std.proofs.Common.{◌≡◌, ◌∙◌, ◌++◌, List, [], ap, append-nil, arith, length, subst, sym}
use Rattle.cob_source.specs.Tokens.{Lexeme, lexemes}
use Rattle.cob_move_loops.proofs.PassageLemmas.{none_left, some_left}
use Rattle.cob_move_statements.specs.Statements.{IsReference}
use Rattle.cob_move_statements.specs.Written.{written_reference}
use Rattle.cob_move_statements.proofs.references.whole_reference.Goals as goal

pub returns-clause-found : goal.returns-clause-found
returns-clause-found c =
    let (ws, is, cut) = c.in_ok-reference.ensures.found in
    let none = none_left c.in_ok-reference.more.now c.is_empty.result c.is_empty.ensures c.if-not-is_empty.false in
    let all : ws ≡ lexemes c.args.words.now = sym (cut ∙ ap (λ (t : List Lexeme). ws ++ t) none ∙ append-nil ws) in
    subst (λ (t : List Lexeme). IsReference (written_reference c.in_ok-reference.reference) t) all is

pub returns-in_err-reference-clause-none : goal.returns-in_err-reference-clause-none
returns-in_err-reference-clause-none c =
    rw c.from_residual.ensures (λ x is. absurd (c.in_err-reference.ensures.only x (lexemes c.args.words.now) [] is tt tt (sym (append-nil (lexemes c.args.words.now)))))

pub returns-then-not-is_empty-clause-none : goal.returns-then-not-is_empty-clause-none
returns-then-not-is_empty-clause-none c = λ x is.
    let some = some_left c.in_ok-reference.more.now c.is_empty.result c.is_empty.ensures c.if-not-is_empty.true in
    let read = c.in_ok-reference.ensures.only x (lexemes c.args.words.now) [] is tt tt (sym (append-nil (lexemes c.args.words.now))) in
    omega (arith, some, ap length read.1)
