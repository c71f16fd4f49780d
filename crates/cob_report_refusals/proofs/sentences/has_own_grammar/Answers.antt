use Rattle.std.proofs.Common.{inl, inr, rules}
use Rattle.cob_report_refusals.proofs.Own.{own_grammar}
use Rattle.cob_report_refusals.proofs.sentences.has_own_grammar.Goals as goal

pub returns-then-not-is_condition : goal.returns-then-not-is_condition
returns-then-not-is_condition c = λ holds words is h. own_grammar _ words is (inl (search rules)) h

pub returns-else-not-is_condition : goal.returns-else-not-is_condition
returns-else-not-is_condition c = λ holds words is h. own_grammar _ words is (inr (c.names_no_value.ensures.left holds, c.names_no_value.ensures.none holds)) h
