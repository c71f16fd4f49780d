use Rattle.std.proofs.Common.{subst, refl, arith, ◌≤◌, ◌*◌}
use Rattle.cob_copybook_tree.specs.Nodes.{node, tree_of}
use Rattle.cob_copybook_tree.specs.Lengths.{greatest_number, sum_of}
use Rattle.cob_layout_places.specs.Lengths.{times}
use Rattle.cob_layout_places.specs.Cover.{IsCovered}
use Rattle.cob_layout.proofs.RecordLemmas.{length_is, length_least, length_small}
use Rattle.cob_layout.proofs.ByteLemmas.{length_some}
use Rattle.cob_layout.proofs.layout.Layout.length.Goals as goal

pub overflow_mul-result : goal.overflow_mul-result
overflow_mul-result c =
    let h = length_small c.as_slice-counts.result.now (node c.self.inside.root).top (node c.self.inside.root).beneath c.times_of.result c.element_of.result c.self.invariant.1 c.times_of.ensures c.element_of.ensures in
    omega (arith, h)

pub overflow_cast-result : goal.overflow_cast-result
overflow_cast-result c =
    let h = length_small c.as_slice-counts.result.now (node c.self.inside.root).top (node c.self.inside.root).beneath c.times_of.result c.element_of.result c.self.invariant.1 c.times_of.ensures c.element_of.ensures in
    omega (arith, h)

pub returns-clause-most : goal.returns-clause-most
returns-clause-most c =
    subst (λ t. c.times_of.result * c.element_of.result ≤ sum_of greatest_number t) c.self.view_is
    (length_least c.as_slice-counts.result.now (node c.self.inside.root).top (node c.self.inside.root).beneath c.times_of.result c.element_of.result c.self.invariant.1 c.times_of.ensures c.element_of.ensures)

pub returns-clause-covered : goal.returns-clause-covered
returns-clause-covered c =
    subst (λ t. IsCovered (times c.args.counts.now.counts) t) c.self.view_is
    (c.covering.ensures.covered (times c.args.counts.now.counts) (tree_of c.self.inside.root) (c.covering.ensures.counted c.args.counts.now.counts) c.self.invariant.1.numbered)

pub returns-clause-least : goal.returns-clause-least
returns-clause-least c =
    let t = tree_of c.self.inside.root in
    let is = length_is c.as_slice-counts.result.now (node c.self.inside.root).top (node c.self.inside.root).beneath c.times_of.result c.element_of.result c.self.invariant.1 c.times_of.ensures c.element_of.ensures in
    omega (arith, is, length_some c.as_slice-counts.result.now t t c.self.invariant.1 c.self.invariant.5 refl)
