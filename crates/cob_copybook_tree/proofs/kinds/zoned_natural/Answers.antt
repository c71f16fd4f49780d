use Rattle.std.proofs.Common.{◌≡◌, ◌∙◌, ◌<◌, length, rules, arith}
use Rattle.cob_picture.specs.Counts.{digits}
use Rattle.cob_copybook_tree.proofs.NaturalLemmas.{zoned_long, zoned_number}
use Rattle.cob_copybook_tree.proofs.PictureLemmas.{digits_are_bytes}
use Rattle.cob_copybook_tree.proofs.kinds.zoned_natural.Goals as goal

pub natural-requires : goal.natural-requires
natural-requires c =
    let e = digits_are_bytes c.args.item.now.picture.category _ c.args.item.now.picture.positions c.requires.number.numeric c.runs.ensures.picture c.runs.ensures.positions in
    let long : length c.args.bytes.now ≡ digits c.args.item.now.picture.positions = c.requires.long ∙ zoned_long c.args.item.now e c.requires.kind in
    let some : 0 < digits c.args.item.now.picture.positions = search rules in
    omega (arith, long, some)

pub returns : goal.returns
returns c =
    let e = digits_are_bytes c.args.item.now.picture.category _ c.args.item.now.picture.positions c.requires.number.numeric c.runs.ensures.picture c.runs.ensures.positions in
    let long : length c.args.bytes.now ≡ digits c.args.item.now.picture.positions = c.requires.long ∙ zoned_long c.args.item.now e c.requires.kind in
    zoned_number c.args.item.now c.args.bytes.now c.natural.result c.requires.kind long c.natural.ensures
