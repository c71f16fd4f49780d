use Rattle.std.proofs.Common.{◌≡◌, ◌∙◌, ◌+◌, ◌/◌, ◌<◌, ap, sym, arith, rules}
use Rattle.cob_picture.specs.Counts.{digits}
use Rattle.cob_copybook_tree.specs.Storage.{stored_size}
use Rattle.cob_copybook_tree.proofs.NaturalLemmas.{packed_number}
use Rattle.cob_copybook_tree.proofs.PictureLemmas.{digits_are_bytes}
use Rattle.cob_copybook_tree.proofs.kinds.packed_natural.Goals as goal

pub natural-requires-clause-some : goal.natural-requires-clause-some
natural-requires-clause-some c =
    let e = digits_are_bytes c.args.item.now.picture.category _ c.args.item.now.picture.positions c.requires.number.numeric c.runs.ensures.picture c.runs.ensures.positions in
    let some : 0 < digits c.args.item.now.picture.positions = search rules in
    omega (arith, some, c.digits.ensures.value)

pub natural-requires-clause-long : goal.natural-requires-clause-long
natural-requires-clause-long c =
    let count : c.digits.result ≡ digits c.args.item.now.picture.positions = c.digits.ensures.value in
    c.requires.long ∙ ap (λ k. stored_size k c.args.item.now.picture) c.requires.kind ∙ ap (λ n. n / 2 + 1) (sym count)

pub returns : goal.returns
returns c = packed_number c.args.item.now c.args.bytes.now c.digits.result c.natural.result c.requires.kind c.digits.ensures.value c.natural.ensures
