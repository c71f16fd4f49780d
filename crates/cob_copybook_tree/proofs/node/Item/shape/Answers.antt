use Rattle.std.proofs.Common.{ap, sym, ◌∙◌}
use Rattle.cob_copybook_tree.specs.Items.{storage_kind}
use Rattle.cob_copybook_tree.specs.Storage.{size_as}
use Rattle.cob_copybook_tree.proofs.ItemLemmas.{sizes}
use Rattle.cob_copybook_tree.proofs.PictureLemmas.{digits_are_bytes}
use Rattle.cob_copybook_tree.proofs.node.Item.shape.Goals as goal

pub returns-clause-size : goal.returns-clause-size
returns-clause-size c =
    let e = digits_are_bytes c.args.self.now.picture.category _ c.args.self.now.picture.positions c.requires c.runs.ensures.picture c.runs.ensures.positions in
    sizes c.args.self.now e ∙ ap (size_as (storage_kind c.args.self.now)) (sym c.of.ensures.digits)
