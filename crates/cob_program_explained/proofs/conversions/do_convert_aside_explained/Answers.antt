use Rattle.cob_program_faults.proofs.EndLemmas.{ends_aside}
use Rattle.cob_program_convert.specs.Ends.{MayEndAside}
use Rattle.cob_program_explained.proofs.conversions.do_convert_aside_explained.Goals as goal

pub returns : goal.returns
returns g c = ends_aside (MayEndAside c.args.line.now.atomic) _ _ c.convert_aside.ensures c.tell_explained.ensures
