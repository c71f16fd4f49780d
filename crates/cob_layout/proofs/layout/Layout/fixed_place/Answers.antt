use Rattle.std.proofs.Common.{Ok, sym, ap, ◌∙◌}
use Rattle.cob_copybook_tree.specs.Nodes.{tree_of}
use Rattle.cob_layout_places.specs.Lengths.{times}
use Rattle.cob_layout_places.specs.Spots.{spots_of}
use Rattle.cob_layout.specs.Counting.{greatest_counts}
use Rattle.cob_layout.proofs.ReferenceLemmas.{refers_has}
use Rattle.cob_layout.proofs.StandingLemmas.{answer_fits, greatest_within, no_fault}
use Rattle.cob_layout.proofs.layout.Layout.fixed_place.Goals as goal

pub reads_none-requires : goal.reads_none-requires
reads_none-requires c = record { there = refers_has c.args.reference.now.node c.args.reference.now.subscripts.items c.args.self.now c.requires.refers }

pub element-requires-clause-spots : goal.element-requires-clause-spots
element-requires-clause-spots c =
    (greatest_counts c.args.self.now, c.spots.ensures ∙ c.self.invariant.7 ∙ ap (λ v. spots_of (times (greatest_counts v)) v 0 0) c.self.view_is)

pub returns-in-Err-clause-none : goal.returns-in-Err-clause-none
returns-in-Err-clause-none c =
    let t = tree_of c.self.inside.root in
    let u = c.args.self.now in
    let are = c.spots.ensures ∙ c.self.invariant.7 ∙ ap (λ v. spots_of (times (greatest_counts v)) v 0 0) c.self.view_is in
    let at = c.element.ensures (greatest_counts u) are in
    let there = greatest_within t u c.args.reference.now.node c.args.reference.now.subscripts.items c.element.result c.self.invariant.1 c.self.view_is c.requires.refers at in
    absurd (no_fault c.element.result c.in-Err.field-0 there (sym c.placed.ensures ∙ c.in-Err.is))

pub returns-in-Ok-clause-fits : goal.returns-in-Ok-clause-fits
returns-in-Ok-clause-fits c =
    let t = tree_of c.self.inside.root in
    let u = c.args.self.now in
    let are = c.spots.ensures ∙ c.self.invariant.7 ∙ ap (λ v. spots_of (times (greatest_counts v)) v 0 0) c.self.view_is in
    let at = c.element.ensures (greatest_counts u) are in
    answer_fits c.places_end_in_length.ensures t u (greatest_counts u) c.args.reference.now.node c.args.reference.now.subscripts.items c.element.result (Ok c.in-Ok.place) c.self.invariant.0 c.self.view_is c.requires.refers at (sym c.in-Ok.is ∙ c.placed.ensures)
