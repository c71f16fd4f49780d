use Rattle.cob_program_faults.proofs.EndLemmas.{conversion_ends}
use Rattle.cob_program_convert.specs.Ends.{MayEndConvert}
use Rattle.cob_program_explained.proofs.conversions.do_convert_explained.Goals as goal

pub returns : goal.returns
returns g c = conversion_ends (MayEndConvert c.args.line.now.atomic) _ _ c.convert.ensures.faults c.convert.ensures.all c.tell_explained.ensures
