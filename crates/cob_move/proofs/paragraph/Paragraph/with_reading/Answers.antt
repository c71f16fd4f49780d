use Rattle.cob_move.proofs.ReadyLemmas.{together_by}
use Rattle.cob_move.proofs.paragraph.Paragraph.with_reading.Goals as goal

pub returns-clause-ready : goal.returns-clause-ready
returns-clause-ready c = λ r ready. record {
  prepared = c.with_reading.ensures.prepared r ready.prepared;
  all = c.with_reading.ensures.whole r ready.all;
  together = λ is. together_by c.args.reading r c.args.self.deeds c.with_reading.result ready (c.with_reading.ensures.deeds r) c.with_reading.ensures.ends is;
}
