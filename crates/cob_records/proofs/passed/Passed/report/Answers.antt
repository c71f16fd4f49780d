use Rattle.std.proofs.Common.{length, refl, ap, ◌∙◌}
use Rattle.cob_records.specs.Progress.{ahead_of}
use Rattle.cob_records.proofs.Holding.{no_more}
use Rattle.cob_records.proofs.passed.Passed.report.Goals as goal

pub returns : goal.returns
returns c = λ bytes h.
    let now = c.args.self.now in record {
      records = (length h.bodies, (h.bodies, h.left, h.rest, h.each, refl, h.all, no_more now.form now.greatest h.left now.place h.rest now.block now.high now.within h.is_at), h.counted_records);
      bytes = h.counted_bytes;
      ahead = c.what_is_ahead.ensures ∙ ap (ahead_of c.args.size c.args.elapsed) h.counted_bytes;
    }
