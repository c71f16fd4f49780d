use Rattle.std.proofs.Common.{rules}
use Rattle.cob_report_refusals.proofs.books.refusals_with.Goals as goal

pub returns-in-Some-clause-each : goal.returns-in-Some-clause-each
returns-in-Some-clause-each c = λ role refused. c.refusals_of_words.ensures.each role c.args.text.now refused (search rules)

pub returns-in_ok-found-in-None-clause-each : goal.returns-in_ok-found-in-None-clause-each
returns-in_ok-found-in-None-clause-each c = λ role refused. c.behind_first.ensures.each role c.args.text.now refused (search rules)
