use Rattle.std.proofs.Common.{inl, inr, refl, sym, ◌∙◌}
use Rattle.std.proofs.lemmas.Result.{err_from_is_err_and}
use Rattle.cob_move_data.specs.Moves.{operand_in, record_of}
use Rattle.cob_move_statements.specs.Written.{written_reference}
use Rattle.cob_move_tests.specs.Entries.{nameable, records_of}
use Rattle.cob_move_tests.proofs.AskedLemmas.{none_more, one_more, same_more}
use Rattle.cob_move_tests.proofs.StepLemmas.{quality_read, quality_there}
use Rattle.cob_move_tests.proofs.conditions.quality_of.Goals as goal

pub returns-in_err-named-clause-grown : goal.returns-in_err-named-clause-grown
returns-in_err-named-clause-grown c =
    none_more (records_of c.args.entries.now) c.args.asked.now.items

pub returns-in_err-named-clause-fault : goal.returns-in_err-named-clause-fault
returns-in_err-named-clause-fault c =
    let p = err_from_is_err_and c.from_residual.result c.from_residual.ensures.1 in
    rw (p.1, p.2) (inr (inl c.in_err-named.ensures.fault))

pub returns-then-not-may_have-clause-grown : goal.returns-then-not-may_have-clause-grown
returns-then-not-may_have-clause-grown c =
    none_more (records_of c.args.entries.now) c.args.asked.now.items

pub returns-then-not-may_have-clause-fault : goal.returns-then-not-may_have-clause-fault
returns-then-not-may_have-clause-fault c =
    inr (inr (refl, (c.in_ok-named.named.side, operand_in (record_of (records_of c.args.entries.now) c.in_ok-named.named.side) c.in_ok-named.named.entry, c.in_ok-named.ensures.found, sym c.may_have.ensures ∙ c.if-not-may_have.true)))

pub returns-in_err-push-clause-grown : goal.returns-in_err-push-clause-grown
returns-in_err-push-clause-grown c =
    same_more (records_of c.args.entries.now) c.args.asked.now.items c.push.new.self.items c.in_err-push.ensures.items

pub returns-in_err-condition-clause-grown : goal.returns-in_err-condition-clause-grown
returns-in_err-condition-clause-grown c =
    one_more (records_of c.args.entries.now) c.args.asked.now.items c.push.new.self.items c.in_ok-named.named c.in_ok-named.ensures.operand c.in_ok-push.ensures.items

pub returns-clause-found : goal.returns-clause-found
returns-clause-found c =
    quality_read (nameable c.args.entries.now) (records_of c.args.entries.now) c.args.asked.now.items c.push.new.self.items (written_reference c.args.written.now) c.args.opposite c.args.quality c.in_ok-named.named c.len.result c.quality_at-asks.result c.in_ok-condition.condition (c.len.ensures ∙ c.args.asked.now.ok.0) c.in_ok-push.ensures.items
    c.in_ok-named.ensures.found (sym c.if-not-may_have.false ∙ c.may_have.ensures) c.quality_at-asks.ensures.means c.in_ok-condition.ensures.means

pub returns-clause-testable : goal.returns-clause-testable
returns-clause-testable c =
    c.in_ok-condition.ensures.testable (records_of c.args.entries.now) c.push.new.self.items (c.quality_at-asks.ensures.testable (records_of c.args.entries.now) c.push.new.self.items (quality_there (records_of c.args.entries.now) c.args.asked.now.items c.push.new.self.items c.args.quality c.in_ok-named.named c.len.result (c.len.ensures ∙ c.args.asked.now.ok.0) c.in_ok-push.ensures.items
    (sym c.if-not-may_have.false ∙ c.may_have.ensures)))

pub returns-clause-grown : goal.returns-clause-grown
returns-clause-grown c =
    one_more (records_of c.args.entries.now) c.args.asked.now.items c.push.new.self.items c.in_ok-named.named c.in_ok-named.ensures.operand c.in_ok-push.ensures.items
