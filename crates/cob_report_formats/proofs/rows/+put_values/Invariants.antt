-- Each call has one table less.
use Rattle.std.proofs.Common.{length}
use Rattle.cob_report_formats.proofs.rows.+put_values.Given as goal

abbrev pub decreases-put_values : goal.decreases-put_values
decreases-put_values g l = length l.tables.now
