use Rattle.std.proofs.Common.{rules}
use Rattle.cob_records.proofs.Steps.{write_more}
use Rattle.cob_records.proofs.records.put_rest.Goals as goal

pub loop-at-preserved : goal.loop-at-preserved
loop-at-preserved g c = record {
  within = search rules;
  taken = write_more c.loop-at.at c.in-Ok.count c.args.bytes.now _ (g.W.Sink.taken c.loop-at.sink) _ c.loop-at.invariant.taken c.in-Ok.ensures.bytes;
  cause = search rules;
  errors = search rules;
}
