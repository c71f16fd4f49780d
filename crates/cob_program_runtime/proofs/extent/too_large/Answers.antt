use Rattle.std.specs.IoError.{os_error_kind}
use Rattle.cob_program_runtime.proofs.extent.too_large.Goals as goal

pub returns : goal.returns
unfolding os_error_kind
returns c = (c.from_raw_os_error.ensures.kind, c.from_raw_os_error.ensures.code)
