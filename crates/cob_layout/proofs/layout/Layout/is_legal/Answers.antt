use Rattle.std.proofs.Common.{◌≡◌, ◌<◌, length, map, ◌∙◌, arith}
use Rattle.cob_copybook_tree.specs.Nodes.{tree_of}
use Rattle.cob_layout.specs.Legal.{are_legal}
use Rattle.cob_layout.specs.Ways.{held, held_at}
use Rattle.cob_layout.proofs.LegalLemmas.{legal_must, legal_below, legal_only}
use Rattle.cob_layout.proofs.layout.Layout.is_legal.Goals as goal

pub returns-then-node-len-clause-must : goal.returns-then-node-len-clause-must
returns-then-node-len-clause-must c =
    let ways = c.self.inside.ways.items in
    let below : c.args.node < length ways = omega (arith, c.if-node-len.true, c.len.ensures) in
    let legal : c.are_legal.result ≡ are_legal (held_at (map held ways) c.args.node).tables c.spots.result.now c.args.subscripts.now =
    rw (c.tables_at.ensures, c.deref.ensures.value) at c.are_legal.ensures in
    legal_must (tree_of c.self.inside.root) c.args.self.now c.spots.result.now ways c.args.node c.args.subscripts.now c.are_legal.result c.self.invariant.1 c.self.view_is (c.spots.ensures ∙ c.self.invariant.7) c.self.invariant.6 below legal

pub returns-then-node-len-clause-only : goal.returns-then-node-len-clause-only
returns-then-node-len-clause-only c =
    let ways = c.self.inside.ways.items in
    let legal : c.are_legal.result ≡ are_legal (held_at (map held ways) c.args.node).tables c.spots.result.now c.args.subscripts.now =
    rw (c.tables_at.ensures, c.deref.ensures.value) at c.are_legal.ensures in
    legal_only (tree_of c.self.inside.root) c.args.self.now c.spots.result.now ways c.args.node c.args.subscripts.now c.are_legal.result c.self.invariant.1 c.self.view_is (c.spots.ensures ∙ c.self.invariant.7) c.self.invariant.6 legal

pub returns-else-node-len-clause-only : goal.returns-else-node-len-clause-only
returns-else-node-len-clause-only c =
    λ no_ refers. (let below = legal_below (tree_of c.self.inside.root) c.args.self.now c.self.inside.ways.items c.args.node c.args.subscripts.now c.self.invariant.1 c.self.view_is c.self.invariant.6 refers in
    omega (arith, below, c.if-node-len.false, c.len.ensures))
