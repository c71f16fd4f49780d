use Rattle.std.proofs.Common.{◌∙◌, [], ap, append-nil, arith, length, sym}
use Rattle.cob_source.specs.Tokens.{lexemes}
use Rattle.cob_move_conditions.specs.Operands.{IsWrittenOperand}
use Rattle.cob_move_loops.proofs.PassageLemmas.{none_left, some_left}
use Rattle.cob_move_statements.specs.Written.{SentReference, WrittenSender, written_reference, written_sender}
use Rattle.std.proofs.Common.{List, subst}
use Rattle.cob_source.specs.Tokens.{Lexeme}
use Rattle.cob_move_choices.proofs.ListedLemmas.{all_read, never_reference, same_reference, some_is}
use Rattle.cob_copybook_clauses.specs.Written.{written_value}
use Rattle.cob_move_choices.proofs.subjects.whole_operand.Goals as goal

pub returns-in_err-operand-clause-only : goal.returns-in_err-operand-clause-only
returns-in_err-operand-clause-only c = λ w is.
    absurd (c.in_err-operand.ensures.only (SentReference w) (lexemes c.args.words.now) [] is tt tt (sym (append-nil (lexemes c.args.words.now))))

pub returns-then-not-is_empty-clause-only : goal.returns-then-not-is_empty-clause-only
returns-then-not-is_empty-clause-only c = λ w is.
    let read = c.in_ok-operand.ensures.only (SentReference w) (lexemes c.args.words.now) [] is tt tt (sym (append-nil (lexemes c.args.words.now))) in
    absurd (some_is (lexemes c.in_ok-operand.more.now) (some_left c.in_ok-operand.more.now c.is_empty.result c.is_empty.ensures c.if-not-is_empty.true) read.1)

pub returns-in-Reference-clause-found : goal.returns-in-Reference-clause-found
returns-in-Reference-clause-found c =
    let none = none_left c.in_ok-operand.more.now c.is_empty.result c.is_empty.ensures c.if-not-is_empty.false in
    let all = all_read (IsWrittenOperand (written_sender c.in_ok-operand.operand)) (lexemes c.args.words.now) (lexemes c.in_ok-operand.more.now) c.in_ok-operand.ensures.found none in
    subst (λ (s : WrittenSender). IsWrittenOperand s (lexemes c.args.words.now)) (ap written_sender c.in-Reference.is) all

pub returns-in-Reference-clause-only : goal.returns-in-Reference-clause-only
returns-in-Reference-clause-only c = λ w is.
    let read = c.in_ok-operand.ensures.only (SentReference w) (lexemes c.args.words.now) [] is tt tt (sym (append-nil (lexemes c.args.words.now))) in
    same_reference (written_reference c.in-Reference.reference) w (sym (ap written_sender c.in-Reference.is) ∙ read.0)

pub returns-in-Constant-clause-only : goal.returns-in-Constant-clause-only
returns-in-Constant-clause-only c = λ w is.
    let read = c.in_ok-operand.ensures.only (SentReference w) (lexemes c.args.words.now) [] is tt tt (sym (append-nil (lexemes c.args.words.now))) in
    absurd (never_reference _ w (sym (ap written_sender c.in-Constant.is) ∙ read.0))
