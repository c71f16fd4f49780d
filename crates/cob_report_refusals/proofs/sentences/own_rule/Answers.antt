use Rattle.std.proofs.Common.{rules}
use Rattle.cob_report_refusals.proofs.Own.{own_by}
use Rattle.cob_report_refusals.proofs.sentences.own_rule.Goals as goal

pub returns-in-Picture : goal.returns-in-Picture
returns-in-Picture c = λ words is h. own_by c.args.rule _ words (search rules) is h

pub returns-in-LeftOut : goal.returns-in-LeftOut
returns-in-LeftOut c = λ words is h. own_by c.args.rule _ words (search rules) is h

pub returns-in-Name : goal.returns-in-Name
returns-in-Name c = λ words is h. own_by c.args.rule _ words (search rules) is h

pub returns-in-Table : goal.returns-in-Table
returns-in-Table c = λ words is h. own_by c.args.rule _ words (search rules) is h

pub returns-in-Value : goal.returns-in-Value
returns-in-Value c = λ words is h. own_by c.args.rule _ words (search rules) is h
