use Rattle.std.proofs.Common.{◌≡◌, map, Some, sym, ap, ◌∙◌, arith}
use Rattle.cob_copybook_tree.specs.Nodes.{tree_of}
use Rattle.cob_layout_places.specs.declared.places.Found.{Found}
use Rattle.cob_layout.specs.Ways.{held, held_at, moved, first_element}
use Rattle.cob_layout.proofs.StandingLemmas.{element_is, element_fits}
use Rattle.cob_layout.proofs.layout.Layout.element.Goals as goal

pub element_at-requires : goal.element_at-requires
element_at-requires c =
    let t = tree_of c.self.inside.root in
    let u = c.args.self.now in
    let ways = c.self.inside.ways.items in
    let r = c.args.reference.now.node in
    let subscripts = c.args.reference.now.subscripts.items in
    let tables : c.tables_at-tables.result.now ≡ (held_at (map held ways) r).tables = rw c.deref.ensures.value at c.tables_at-tables.ensures in
    let counts = c.requires.spots.0 in
    let is = element_is t u counts c.args.spots.now ways r subscripts c.self.invariant.1 c.self.view_is c.self.invariant.6 c.requires.refers c.requires.spots.1 in
    let fits = element_fits c.places_end_in_record.ensures.entries t u counts r subscripts (moved c.args.spots.now (held_at (map held ways) r).tables subscripts (first_element c.args.spots.now r)) c.self.invariant.1 c.self.view_is is in
    record { room = rw (tables, c.as_slice.ensures.value) (omega (arith, fits)) }

pub returns : goal.returns
returns c =
    let t = tree_of c.self.inside.root in
    let u = c.args.self.now in
    let ways = c.self.inside.ways.items in
    let r = c.args.reference.now.node in
    let subscripts = c.args.reference.now.subscripts.items in
    let tables : c.tables_at-tables.result.now ≡ (held_at (map held ways) r).tables = rw c.deref.ensures.value at c.tables_at-tables.ensures in
    let result : c.element_at.result ≡ moved c.args.spots.now (held_at (map held ways) r).tables subscripts (first_element c.args.spots.now r) = rw (tables, c.as_slice.ensures.value) at c.element_at.ensures in
    λ counts are. element_is t u counts c.args.spots.now ways r subscripts c.self.invariant.1 c.self.view_is c.self.invariant.6 c.requires.refers are ∙ ap (λ (f : Found). Some f) (sym result)
