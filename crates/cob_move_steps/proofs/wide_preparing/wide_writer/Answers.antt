use Rattle.cob_move_steps.proofs.WideStepLemmas.{packed_wide_writer}
use Rattle.cob_move_steps.proofs.wide_preparing.wide_writer.Goals as goal

pub returns : goal.returns
returns c =
    let shape = c.shape.result in
    packed_wide_writer c.args.receiver.now shape.digits shape.signed c.packed.result c.requires.packed c.shape.ensures.size c.shape.ensures.digits c.shape.ensures.signed c.packed.ensures
