use Rattle.std.proofs.Common.{◌∙◌, ap, subst, sym}
use Rattle.cob_source.specs.Tokens.{lexemes}
use Rattle.cob_copybook_clauses.specs.Written.{written_value}
use Rattle.cob_move_conditions.specs.Operands.{IsWrittenOperand}
use Rattle.cob_move_statements.specs.Written.{SentConstant, WrittenSender, written_sender}
use Rattle.cob_move_choices.proofs.ListedLemmas.{never_constant, same_constant}
use Rattle.cob_move_choices.proofs.values.value_at.Goals as goal

pub returns-in_err-operand-clause-only : goal.returns-in_err-operand-clause-only
returns-in_err-operand-clause-only c = λ v ws more is no_of no_bracket cut. absurd (c.in_err-operand.ensures.only (SentConstant v) ws more is no_of no_bracket cut)

pub returns-in-Constant-clause-found : goal.returns-in-Constant-clause-found
returns-in-Constant-clause-found c =
    let (ws, is, cut) = c.in_ok-operand.ensures.found in
    (ws, subst (λ (s : WrittenSender). IsWrittenOperand s ws) (ap written_sender c.in-Constant.is) is, cut)

pub returns-in-Constant-clause-only : goal.returns-in-Constant-clause-only
returns-in-Constant-clause-only c = λ v ws more is no_of no_bracket cut.
    let read = c.in_ok-operand.ensures.only (SentConstant v) ws more is no_of no_bracket cut in
    (same_constant (written_value c.in-Constant.value) v (sym (ap written_sender c.in-Constant.is) ∙ read.0), read.1)

pub returns-in-Reference-clause-only : goal.returns-in-Reference-clause-only
returns-in-Reference-clause-only c = λ v ws more is no_of no_bracket cut.
    let read = c.in_ok-operand.ensures.only (SentConstant v) ws more is no_of no_bracket cut in
    absurd (never_constant _ v (sym (ap written_sender c.in-Reference.is) ∙ read.0))
