use Rattle.std.proofs.Common.{◌∙◌}
use Rattle.cob_move_constants.proofs.WordLemmas.{four_are}
use Rattle.cob_move_constants.proofs.laying.four_from.Goals as goal

pub returns : goal.returns
returns c = c.from_be_bytes.ensures ∙ four_are c.args.bytes.now c.args.at c.requires
