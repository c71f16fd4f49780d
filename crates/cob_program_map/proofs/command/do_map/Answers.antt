use Rattle.cob_program_map.proofs.EndLemmas.{ends_map}
use Rattle.cob_program_map.proofs.command.do_map.Goals as goal

pub returns : goal.returns
returns g c = ends_map _ _ c.print_map.ensures c.tell_mapped.ensures
