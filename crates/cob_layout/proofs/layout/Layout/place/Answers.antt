use Rattle.std.proofs.Common.{sym, subst, ◌∙◌}
use Rattle.cob_copybook_tree.specs.Nodes.{node, tree_of}
use Rattle.cob_layout_places.specs.Lengths.{times}
use Rattle.cob_layout_places.specs.Needs.{Has}
use Rattle.cob_layout_places.proofs.PlaceLemmas.{entry_fits}
use Rattle.cob_layout.proofs.ReferenceLemmas.{found_there, refers_has}
use Rattle.cob_layout.proofs.EndLemmas.{current}
use Rattle.cob_layout.proofs.StandingLemmas.{most_fits}
use Rattle.cob_layout.proofs.layout.Layout.place.Goals as goal

pub seek-requires : goal.seek-requires
seek-requires c = entry_fits 0 (node c.self.inside.root).top (node c.self.inside.root).beneath c.self.invariant.1.fit

pub returns-in-None-clause-value : goal.returns-in-None-clause-value
returns-in-None-clause-value c =
    let t = tree_of c.self.inside.root in
    let r = c.args.reference.now.node in
    let counts = times c.as_slice.result.now in
    let subscripts = c.as_slice-2.result.now in
    let has = subst (λ u. Has r u) (sym c.self.view_is) (refers_has r c.args.reference.now.subscripts.items c.args.self.now c.requires.refers) in
    absurd (found_there counts r t 0 0 subscripts has (sym c.seek.ensures ∙ c.in-None.is))

pub returns-in-Some-clause-current : goal.returns-in-Some-clause-current
returns-in-Some-clause-current c =
    let t = tree_of c.self.inside.root in
    let r = c.args.reference.now.node in
    let at = sym c.seek.ensures ∙ c.in-Some.is in
    current c.places_end_in_length.ensures t c.args.self.now c.args.counts.now.counts c.as_slice.result.now r c.args.reference.now.subscripts.items c.as_slice-2.result.now c.in-Some.found c.placed.result
    c.self.invariant.0 c.self.view_is c.requires.refers c.as_slice.ensures c.as_slice-2.ensures.value at c.placed.ensures

pub returns-in-Some-clause-fits : goal.returns-in-Some-clause-fits
returns-in-Some-clause-fits c =
    let t = tree_of c.self.inside.root in
    let r = c.args.reference.now.node in
    let at = sym c.seek.ensures ∙ c.in-Some.is in
    most_fits c.args.self.now c.args.counts.now.counts c.placed.result (current c.places_end_in_length.ensures t c.args.self.now c.args.counts.now.counts c.as_slice.result.now r c.args.reference.now.subscripts.items c.as_slice-2.result.now c.in-Some.found c.placed.result
    c.self.invariant.0 c.self.view_is c.requires.refers c.as_slice.ensures c.as_slice-2.ensures.value at c.placed.ensures)
