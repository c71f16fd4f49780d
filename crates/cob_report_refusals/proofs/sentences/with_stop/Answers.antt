use Rattle.cob_report_refusals.proofs.Own.{front_stop, stop_cut}
use Rattle.cob_report_refusals.proofs.sentences.with_stop.Goals as goal

pub returns-clause-first : goal.returns-clause-first
returns-clause-first c = front_stop c.args.words.now c.args.sentence.now c.requires.0 c.requires.1

pub returns-clause-cut : goal.returns-clause-cut
returns-clause-cut c = λ more h. stop_cut c.args.words.now c.args.sentence.now more h
