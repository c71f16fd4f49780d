use Rattle.std.proofs.Common.{◌≡◌, ap, ◌∙◌}
use Rattle.cob_copybook_tree.specs.Items.{storage_kind}
use Rattle.cob_copybook_tree.specs.declared.kinds.StorageKind.TheVariants.{Zoned, Separate, Packed}
use Rattle.cob_move_steps.specs.Steps.{kind_by_lanes}
use Rattle.cob_move_steps.proofs.KindLemmas.{fewer_digits, packed_writer, separate_writer, zoned_writer}
use Rattle.cob_move_steps.proofs.preparing.writer_for.Goals as goal

pub returns-in-Zoned : goal.returns-in-Zoned
returns-in-Zoned c =
    let shape = c.shape-shape.result in
    let form : storage_kind c.args.receiver.now ≡ Zoned = c.requires.kind ∙ ap kind_by_lanes c.in-Zoned.is in
    zoned_writer c.args.receiver.now shape.digits shape.signed shape.leading c.zoned.result form
    c.shape-shape.ensures.size c.shape-shape.ensures.digits c.shape-shape.ensures.signed c.shape-shape.ensures.leading c.zoned.ensures

pub separate-requires : goal.separate-requires
separate-requires c =
    let form : storage_kind c.args.receiver.now ≡ Separate = c.requires.kind ∙ ap kind_by_lanes c.in-Separate.is in
    fewer_digits c.args.receiver.now c.shape-shape.result.digits c.shape-shape.ensures.size form c.requires.receiver.fits

pub returns-in-Separate : goal.returns-in-Separate
returns-in-Separate c =
    let shape = c.shape-shape.result in
    let form : storage_kind c.args.receiver.now ≡ Separate = c.requires.kind ∙ ap kind_by_lanes c.in-Separate.is in
    separate_writer c.args.receiver.now shape.digits shape.leading c.separate.result form c.requires.receiver.number
    c.shape-shape.ensures.size c.shape-shape.ensures.digits c.shape-shape.ensures.leading c.separate.ensures

pub returns-in-Packed : goal.returns-in-Packed
returns-in-Packed c =
    let shape = c.shape-shape.result in
    let form : storage_kind c.args.receiver.now ≡ Packed = c.requires.kind ∙ ap kind_by_lanes c.in-Packed.is in
    packed_writer c.args.receiver.now shape.digits shape.signed c.packed.result form
    c.shape-shape.ensures.size c.shape-shape.ensures.digits c.shape-shape.ensures.signed c.packed.ensures
