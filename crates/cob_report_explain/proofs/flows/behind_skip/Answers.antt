use Rattle.cob_report_explain.proofs.ConditionLemmas.{all_passed, skip_passed}
use Rattle.cob_report_explain.proofs.flows.behind_skip.Goals as goal

pub returns-clause-value : goal.returns-clause-value
returns-clause-value c = skip_passed c.args.count c.args.flows.now _ _ c.behind.ensures.value c.behind-2.ensures.value

pub returns-clause-rest : goal.returns-clause-rest
returns-clause-rest c = all_passed c.args.count c.args.flows.now _ _ c.behind.ensures.value c.behind-2.ensures.value
