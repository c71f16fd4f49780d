use Rattle.cob_source.proofs.CommentLemmas.{written_short}
use Rattle.cob_source.proofs.lines.written_in.Goals as goal

pub returns-clause-short : goal.returns-clause-short
returns-clause-short c = rw (c.behind.ensures, c.counted_columns.ensures) (written_short c.args.line.now)
