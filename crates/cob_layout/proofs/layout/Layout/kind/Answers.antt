use Rattle.std.proofs.Common.{Some, ap, sym, ◌∙◌}
use Rattle.cob_copybook_tree.specs.declared.node.Kind.{Kind}
use Rattle.cob_copybook_tree.specs.Nodes.{tree_of}
use Rattle.cob_layout.proofs.KindLaw.{kind_at, room_of_kinds}
use Rattle.cob_layout.proofs.layout.Layout.kind.Goals as goal

pub kind_at-requires : goal.kind_at-requires
kind_at-requires c = room_of_kinds (tree_of c.self.inside.root) c.args.self.now c.deref.result.now c.args.number c.self.view_is (c.deref.ensures.value ∙ c.self.invariant.8) c.requires.there

pub returns : goal.returns
returns c =
    kind_at (tree_of c.self.inside.root) c.args.self.now c.deref.result.now c.args.number c.kind_at.result.now c.self.invariant.1.numbered c.self.view_is (c.deref.ensures.value ∙ c.self.invariant.8) c.requires.there
    ∙ ap (λ (k : Kind). Some k) (sym c.kind_at.ensures)
