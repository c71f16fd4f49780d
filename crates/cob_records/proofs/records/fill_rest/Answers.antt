use Rattle.std.proofs.Common.{arith, rules}
use Rattle.cob_records.proofs.Steps.{read_more}
use Rattle.cob_records.proofs.records.fill_rest.Goals as goal

pub loop-at-preserved : goal.loop-at-preserved
loop-at-preserved g c = record {
  within = search rules;
  bytes = read_more c.loop-at.at _ c.in_ok-count.count c.loop-at.piece c.read.new.piece _ (g.R.Source.coming c.loop-at.source) _
      (omega arith) (omega (arith, c.in_ok-count.ensures.count)) c.loop-at.invariant.bytes c.in_ok-count.ensures.bytes;
  cause = search rules;
}
