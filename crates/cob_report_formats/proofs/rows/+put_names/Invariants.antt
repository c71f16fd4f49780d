-- Each call has one table less.
use Rattle.std.proofs.Common.{length}
use Rattle.cob_report_formats.proofs.rows.+put_names.Given as goal

abbrev pub decreases-put_names : goal.decreases-put_names
decreases-put_names g l = length l.tables.now
