use Rattle.std.proofs.lemmas.Result.{err_from_is_err_and}
use Rattle.cob_source.specs.Tokens.{lexemes}
use Rattle.cob_move_condition.specs.Conditions.{condition_of}
use Rattle.cob_move_tests.specs.Asked.{sender_named}
use Rattle.cob_move_tests.specs.Entries.{records_of, valued_in}
use Rattle.cob_move_tests.proofs.StepLemmas.{only_memory}
use Rattle.cob_move_tests.proofs.conditions.condition_of.Goals as goal

pub returns-in_err-condition-clause-only : goal.returns-in_err-condition-clause-only
returns-in_err-condition-clause-only c =
    λ d is. (let p = err_from_is_err_and c.from_residual.result c.from_residual.ensures.1 in
    rw (p.1, p.2) (tt, only_memory c.conditions_break_no_rule.ensures c.in_err-condition.field-0.0 (records_of c.args.entries.now) (valued_in c.args.entries.now) (lexemes c.args.words.now) d is c.in_err-condition.ensures.fault))

pub returns-clause-only : goal.returns-clause-only
returns-clause-only c =
    λ d is. (c.one_condition_of.ensures (records_of c.args.entries.now) (valued_in c.args.entries.now) (lexemes c.args.words.now) (condition_of (sender_named (records_of c.args.entries.now) c.read_condition.new.asked.items) c.in_ok-condition.condition) d c.in_ok-condition.ensures.found is, tt)
