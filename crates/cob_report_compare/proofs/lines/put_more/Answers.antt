use Rattle.std.proofs.Common.{◌≡◌}
use Rattle.cob_report_compare.specs.Lines.{more_line}
use Rattle.cob_report_compare.proofs.PrintLemmas.{more_none, took_none}
use Rattle.cob_report_compare.proofs.lines.put_more.Goals as goal

pub returns-then-more-eq0-clause-text : goal.returns-then-more-eq0-clause-text
returns-then-more-eq0-clause-text g c = took_none (λ part. part ≡ more_line c.args.more) (g.W.Sink.taken c.args.sink.now) (more_none c.args.more c.if-more-eq0.true)
