use Rattle.std.proofs.Common.{◌≡◌, ◌∙◌, ap, inl, inr, refl, sym, subst}
use Rattle.std.proofs.lemmas.Result.{err_from_is_err_and}
use Rattle.cob_source.specs.Tokens.{lexemes}
use Rattle.cob_move_loops.specs.Passages.{AnEvaluate, WrittenChoice}
use Rattle.cob_move_loops.specs.Reading.{counters, written_choice}
use Rattle.cob_move_tests.specs.Asked.{sender_named}
use Rattle.cob_move_tests.specs.Entries.{records_of}
use Rattle.cob_move_tests.proofs.AskedLemmas.{none_more, same_more}
use Rattle.cob_move_choices.specs.declared.subjects.Subject.TheVariants as subject
use Rattle.cob_move_choices.specs.Asked.{against}
use Rattle.cob_move_choices.specs.Choices.{IsSubjectOf}
use Rattle.cob_move_choices.proofs.ListedLemmas.{false_true}
use Rattle.cob_move_choices.proofs.ReadLemmas.{head_refused, subject_asks, subject_found, subject_there}
use Rattle.cob_move_choices.proofs.subjects.subject_of.Goals as goal

pub returns-in-If-clause-found : goal.returns-in-If-clause-found
returns-in-If-clause-found c = rw c.in-If.is refl

pub returns-in-If-clause-asks : goal.returns-in-If-clause-asks
returns-in-If-clause-asks c = none_more (records_of c.args.entries.now) c.args.asked.now.items

pub returns-then-is_truth-clause-found : goal.returns-then-is_truth-clause-found
returns-then-is_truth-clause-found c = rw c.in-Evaluate.is (inl (c.is_truth.ensures.0 c.if-is_truth.true, refl))

pub returns-then-is_truth-clause-asks : goal.returns-then-is_truth-clause-asks
returns-then-is_truth-clause-asks c = none_more (records_of c.args.entries.now) c.args.asked.now.items

pub returns-in_err-named-in-Evaluate-clause-asks : goal.returns-in_err-named-in-Evaluate-clause-asks
returns-in_err-named-in-Evaluate-clause-asks c = none_more (records_of c.args.entries.now) c.args.asked.now.items

pub returns-in_err-named-in-Evaluate-clause-fault : goal.returns-in_err-named-in-Evaluate-clause-fault
returns-in_err-named-in-Evaluate-clause-fault c =
    let p = err_from_is_err_and c.from_residual.result c.from_residual.ensures.1 in
    rw (p.1, p.2) (rw c.in-Evaluate.is (head_refused c.in_err-named-in-Evaluate.field-0.0 (records_of c.args.entries.now) (counters c.args.turn.now) c.in-Evaluate.line (lexemes c.in-Evaluate.subject.now)
    (λ is. absurd (false_true (sym c.if-is_truth.false ∙ c.is_truth.ensures.1 is))) c.in_err-named-in-Evaluate.ensures.fault))

pub returns-in_err-push-in-Evaluate-clause-asks : goal.returns-in_err-push-in-Evaluate-clause-asks
returns-in_err-push-in-Evaluate-clause-asks c = same_more (records_of c.args.entries.now) c.args.asked.now.items c.push.new.self.items c.in_err-push-in-Evaluate.ensures.items

pub returns-in_ok-push-in-Evaluate-clause-found : goal.returns-in_ok-push-in-Evaluate-clause-found
returns-in_ok-push-in-Evaluate-clause-found c =
    let r = records_of c.args.entries.now in
    subst (λ (w : WrittenChoice). IsSubjectOf r (counters c.args.turn.now) w (against (sender_named r c.push.new.self.items) (subject.Entry c.len-number.result))) (sym (ap written_choice c.in-Evaluate.is))
    (subject_found r (counters c.args.turn.now) c.in-Evaluate.line (lexemes c.in-Evaluate.subject.now) c.args.asked.now.items c.push.new.self.items c.in_ok-named-in-Evaluate.named c.len-number.result
    (λ is. absurd (false_true (sym c.if-is_truth.false ∙ c.is_truth.ensures.1 is))) c.in_ok-named-in-Evaluate.ensures.found (c.len-number.ensures ∙ c.args.asked.now.ok.0) c.in_ok-push-in-Evaluate.ensures.items)

pub returns-in_ok-push-in-Evaluate-clause-there : goal.returns-in_ok-push-in-Evaluate-clause-there
returns-in_ok-push-in-Evaluate-clause-there c = subject_there c.args.asked.now.items c.push.new.self.items c.in_ok-named-in-Evaluate.named c.len-number.result (c.len-number.ensures ∙ c.args.asked.now.ok.0) c.in_ok-push-in-Evaluate.ensures.items

pub returns-in_ok-push-in-Evaluate-clause-asks : goal.returns-in_ok-push-in-Evaluate-clause-asks
returns-in_ok-push-in-Evaluate-clause-asks c = subject_asks (records_of c.args.entries.now) c.args.asked.now.items c.push.new.self.items c.in_ok-named-in-Evaluate.named c.in_ok-named-in-Evaluate.ensures.operand c.in_ok-push-in-Evaluate.ensures.items
