-- Each call has one table less.
use Rattle.std.proofs.Common.{length}
use Rattle.cob_report_formats.proofs.rows.+put_blanks.Given as goal

abbrev pub decreases-put_blanks : goal.decreases-put_blanks
decreases-put_blanks g l = length l.tables.now
