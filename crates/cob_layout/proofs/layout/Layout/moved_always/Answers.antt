use Rattle.std.proofs.Common.{◌≡◌, ◌∷◌, ◌∙◌, [], ap, arith, length, map, sym}
use Rattle.cob_copybook_tree.specs.Forests.{Forest}
use Rattle.cob_copybook_tree.specs.Nodes.{Resolved, tree_of}
use Rattle.cob_layout_places.specs.Counts.{tables_of}
use Rattle.cob_layout.specs.Ways.{held, held_at}
use Rattle.cob_layout.proofs.EndLemmas.{same}
use Rattle.cob_layout.proofs.ShiftLemmas.{growing_as}
use Rattle.cob_layout.proofs.SummedLemmas.{moved_ones, unmoved}
use Rattle.cob_layout.proofs.layout.Layout.moved_always.Goals as goal

pub returns-then-is_empty : goal.returns-then-is_empty
returns-then-is_empty c =
    let r = c.args.reference.now in
    let none : length r.subscripts.items ≡ 0 = omega (arith, ap length c.as_slice-subscripts.ensures.value, same (length c.as_slice-subscripts.result.now) 0 (sym c.is_empty.ensures ∙ c.if-is_empty.true)) in
    unmoved (tree_of c.self.inside.root) c.args.self.now c.self.inside.ways.items r c.args.behind c.self.invariant.1 c.self.view_is c.self.invariant.6 c.requires.refers none

pub returns : goal.returns
returns c =
    let t = tree_of c.self.inside.root in
    let u = c.args.self.now in
    let ways = c.self.inside.ways.items in
    let r = c.args.reference.now in
    let k = c.in_ok-table.table in
    let s = c.in_ok-subscript.subscript in
    let grow = growing_as t u c.deref-3.result.now c.self.inside.least.items c.deref-2.result.now c.self.inside.growths.items c.self.view_is c.self.invariant.1 c.deref-3.ensures.value c.self.invariant.10 (c.deref-2.ensures.value ∙ c.self.invariant.11) c.self.invariant.12 in
    let tables : c.tables_at-tables.result.now ≡ (held_at (map held ways) r.node).tables = rw c.deref.ensures.value at c.tables_at-tables.ensures in
    let one : (held_at (map held ways) r.node).tables ≡ k ∷ [] = sym tables ∙ c.in_ok-table.ensures in
    let own : r.subscripts.items ≡ s ∷ [] = sym c.as_slice-subscripts.ensures.value ∙ c.in_ok-subscript.ensures in
    let are = c.deref-4.ensures.value ∙ c.self.invariant.2 ∙ ap (λ (v : Forest Resolved). tables_of v) c.self.view_is in
    moved_ones t u ways c.deref-3.result.now c.deref-2.result.now c.self.inside.growths.items c.deref-4.result.now r k s c.args.behind c.least_of-least.result c.moved_by.result c.self.invariant.1 c.self.view_is c.self.invariant.6
    grow c.requires.refers one own (omega (arith, ap length c.deref-2.ensures.value)) are c.least_of-least.ensures (rw (c.shift_at-shift.ensures, c.spot_at-spot.ensures) at c.moved_by.ensures)
