use Rattle.std.proofs.Common.{◌≡◌, ap, ◌∙◌}
use Rattle.cob_copybook_tree.specs.Items.{storage_kind}
use Rattle.cob_copybook_tree.specs.declared.kinds.StorageKind.TheVariants.{Zoned, Separate, Packed}
use Rattle.cob_move_steps.specs.Steps.{kind_by_lanes}
use Rattle.cob_move_steps.proofs.KindLemmas.{as_many_digits, fewer_digits, packed_reader, separate_reader, zoned_reader}
use Rattle.cob_move_steps.proofs.preparing.item_reader.Goals as goal

pub zoned-requires : goal.zoned-requires
zoned-requires c =
    let form : storage_kind c.args.sender.now ≡ Zoned = c.requires.kind ∙ ap kind_by_lanes c.in-Zoned.is in
    as_many_digits c.args.sender.now c.shape-shape.result.digits c.shape-shape.ensures.size form c.requires.sender.fits

pub returns-in-Zoned : goal.returns-in-Zoned
returns-in-Zoned c =
    let shape = c.shape-shape.result in
    let wanted = c.args.wanted in
    let form : storage_kind c.args.sender.now ≡ Zoned = c.requires.kind ∙ ap kind_by_lanes c.in-Zoned.is in
    zoned_reader c.args.sender.now shape.digits shape.signed shape.leading wanted.digits wanted.shift c.zoned.result form
    c.shape-shape.ensures.size c.shape-shape.ensures.digits c.shape-shape.ensures.signed c.shape-shape.ensures.leading c.zoned.ensures

pub separate-requires : goal.separate-requires
separate-requires c =
    let form : storage_kind c.args.sender.now ≡ Separate = c.requires.kind ∙ ap kind_by_lanes c.in-Separate.is in
    fewer_digits c.args.sender.now c.shape-shape.result.digits c.shape-shape.ensures.size form c.requires.sender.fits

pub returns-in-Separate : goal.returns-in-Separate
returns-in-Separate c =
    let shape = c.shape-shape.result in
    let wanted = c.args.wanted in
    let form : storage_kind c.args.sender.now ≡ Separate = c.requires.kind ∙ ap kind_by_lanes c.in-Separate.is in
    separate_reader c.args.sender.now shape.digits shape.leading wanted.digits wanted.shift c.separate.result form
    c.shape-shape.ensures.size c.shape-shape.ensures.digits c.shape-shape.ensures.leading c.separate.ensures

pub returns-in-Packed : goal.returns-in-Packed
returns-in-Packed c =
    let shape = c.shape-shape.result in
    let wanted = c.args.wanted in
    let form : storage_kind c.args.sender.now ≡ Packed = c.requires.kind ∙ ap kind_by_lanes c.in-Packed.is in
    packed_reader c.args.sender.now shape.digits shape.signed wanted.digits wanted.shift c.packed.result form
    c.shape-shape.ensures.size c.shape-shape.ensures.digits c.shape-shape.ensures.signed c.packed.ensures
