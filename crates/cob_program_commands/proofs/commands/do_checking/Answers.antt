use Rattle.std.proofs.Common.{inl}
use Rattle.cob_program_commands.proofs.commands.do_checking.Goals as goal

pub returns-else-line-2 : goal.returns-else-line-2
returns-else-line-2 g c = inl c.do_check.ensures
