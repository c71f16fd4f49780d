use Rattle.std.proofs.Common.{refl, arith}
use Rattle.cob_copybook_tree.specs.Nodes.{tree_of}
use Rattle.cob_layout.proofs.ByteLemmas.{greatest_some}
use Rattle.cob_layout.proofs.layout.Layout.greatest.Goals as goal

pub returns-clause-least : goal.returns-clause-least
returns-clause-least c =
    let t = tree_of c.self.inside.root in
    omega (arith, c.self.invariant.4, greatest_some t t c.self.invariant.1 c.self.invariant.5 refl)
