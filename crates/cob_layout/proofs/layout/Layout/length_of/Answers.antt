use Rattle.std.proofs.Common.{◌≡◌, ◌∙◌, ap, subst, sym, length}
use Rattle.cob_copybook_tree.specs.Forests.{Forest}
use Rattle.cob_copybook_tree.specs.Nodes.{Resolved}
use Rattle.cob_layout.specs.Counting.{greatest_counts}
use Rattle.cob_layout.specs.Sound.{IsSound}
use Rattle.cob_layout.proofs.GreatestLemmas.{greatest_length}
use Rattle.cob_layout.proofs.layout.Layout.length_of.Goals as goal

pub copy_from_slice-requires : goal.copy_from_slice-requires
copy_from_slice-requires c =
    let u = c.args.self.now in
    let sound : IsSound u = subst IsSound c.self.view_is c.self.invariant.1 in
    let greatest : c.as_slice.result.now ≡ greatest_counts u = c.as_slice.ensures ∙ c.self.invariant.3 ∙ ap (λ (v : Forest Resolved). greatest_counts v) c.self.view_is in
    c.requires.counts ∙ sym (ap length greatest ∙ greatest_length u sound.numbered)
