use Rattle.std.proofs.Common.{rules}
use Rattle.cob_report_refused_moves.proofs.moves.refusals_with.Goals as goal

pub returns-in-Some-clause-each : goal.returns-in-Some-clause-each
returns-in-Some-clause-each c = λ names refused. c.refusals_of_words.ensures.each c.args.text.now names refused (search rules)

pub returns-in-None-clause-each : goal.returns-in-None-clause-each
returns-in-None-clause-each c = λ names refused. c.behind_first.ensures.each c.args.text.now _ _ names refused tt
