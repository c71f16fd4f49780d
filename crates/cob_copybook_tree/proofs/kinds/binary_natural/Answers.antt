use Rattle.std.proofs.Common.{◌≡◌, ◌∙◌, ap, sym}
use Rattle.cob_picture.specs.Counts.{digits}
use Rattle.cob_codec.specs.Binary.{binary_length}
use Rattle.cob_copybook_tree.specs.Storage.{stored_size}
use Rattle.cob_copybook_tree.proofs.NaturalLemmas.{binary_number}
use Rattle.cob_copybook_tree.proofs.kinds.binary_natural.Goals as goal

pub natural-requires : goal.natural-requires
natural-requires c =
    let count : c.digits.result ≡ digits c.args.item.now.picture.positions = c.digits.ensures.value in
    c.requires.long ∙ ap (λ k. stored_size k c.args.item.now.picture) c.requires.kind ∙ ap binary_length (sym count)

pub returns : goal.returns
returns c = binary_number c.args.item.now c.args.bytes.now c.digits.result c.natural.result c.requires.kind c.digits.ensures.value c.natural.ensures
