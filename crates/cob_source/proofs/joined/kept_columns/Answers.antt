use Rattle.std.proofs.Common.{arith}
use Rattle.cob_source.proofs.Columns.{kept_by}
use Rattle.cob_source.proofs.joined.kept_columns.Goals as goal

pub returns-else-is_some-clause-spaces : goal.returns-else-is_some-clause-spaces
returns-else-is_some-clause-spaces c = kept_by c.args.text.now c.written_len.result c.args.skipped c.min.result c.written_len.ensures.blank (λ h. omega (arith, c.min.ensures, c.max.ensures)) (λ h. omega (arith, c.min.ensures, c.max.ensures)) (omega (arith, c.min.ensures))
