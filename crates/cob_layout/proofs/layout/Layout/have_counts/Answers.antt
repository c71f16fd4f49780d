use Rattle.std.proofs.Common.{◌∙◌, Ok, refl, sym, subst, arith, rules}
use Rattle.cob_copybook_tree.specs.Nodes.{tree_of}
use Rattle.cob_layout.specs.Sound.{IsSound}
use Rattle.cob_layout.proofs.FindLemmas.{MeetsBy, meets_by, met_in}
use Rattle.cob_layout.proofs.ReachLemmas.{reach_kept, reach_still, reach_sums}
use Rattle.cob_layout.proofs.ReferenceLemmas.{refers_has}
use Rattle.cob_layout.proofs.layout.Layout.have_counts.Goals as goal

pub needed_by-needed-requires : goal.needed_by-needed-requires
needed_by-needed-requires c = record { there = refers_has c.args.reference.now.node c.args.reference.now.subscripts.items c.args.self.now c.requires.refers }

pub have_sums-requires-clause-sums : goal.have_sums-requires-clause-sums
have_sums-requires-clause-sums c = reach_sums c.args.self.now c.args.reach.now c.args.counts.now c.args.sums.now c.args.kept.now c.requires.reach

pub returns-then-serve_spared-clause-came : goal.returns-then-serve_spared-clause-came
returns-then-serve_spared-clause-came c =
    let u = c.args.self.now in
    let met = met_in (tree_of c.self.inside.root) u c.args.reference.now.node c.args.receiving c.needed_by-needed.result.behind c.needed_by-needed.result.last c.needed_by-needed.result.number c.as_slice-tables.result.now c.args.counts.now c.args.kept.now
    c.self.view_is (c.as_slice-tables.ensures.value ∙ c.self.invariant.2) c.needed_by-needed.ensures.behind c.needed_by-needed.ensures.last c.needed_by-needed.ensures.number in
    let m : MeetsBy u c.args.bytes.now c.args.reference.now.node c.args.receiving c.args.kept.now c.args.counts.now =
    meets_by c.needs_are_read.ensures c.one_place.ensures u c.args.bytes.now c.args.reference.now.node c.args.receiving c.args.reference.now.subscripts.items c.args.kept.now c.args.counts.now
    (subst IsSound c.self.view_is c.self.invariant.1) c.requires.refers c.requires.as_many c.requires.kept (sym met ∙ c.if-serve_spared.ensures refl) in
    (m.counts, m.needed, m.place, m.kept)

pub returns-then-serve_spared-clause-reads : goal.returns-then-serve_spared-clause-reads
returns-then-serve_spared-clause-reads c =
    let u = c.args.self.now in
    let met = met_in (tree_of c.self.inside.root) u c.args.reference.now.node c.args.receiving c.needed_by-needed.result.behind c.needed_by-needed.result.last c.needed_by-needed.result.number c.as_slice-tables.result.now c.args.counts.now c.args.kept.now
    c.self.view_is (c.as_slice-tables.ensures.value ∙ c.self.invariant.2) c.needed_by-needed.ensures.behind c.needed_by-needed.ensures.last c.needed_by-needed.ensures.number in
    let m : MeetsBy u c.args.bytes.now c.args.reference.now.node c.args.receiving c.args.kept.now c.args.counts.now =
    meets_by c.needs_are_read.ensures c.one_place.ensures u c.args.bytes.now c.args.reference.now.node c.args.receiving c.args.reference.now.subscripts.items c.args.kept.now c.args.counts.now
    (subst IsSound c.self.view_is c.self.invariant.1) c.requires.refers c.requires.as_many c.requires.kept (sym met ∙ c.if-serve_spared.ensures refl) in
    (Ok m.counts, 0, m.taken, search (arith, rules))

pub returns-then-serve_spared-clause-reach : goal.returns-then-serve_spared-clause-reach
returns-then-serve_spared-clause-reach c = reach_still c.args.self.now c.args.reach.now c.args.counts.now c.args.sums.now c.have_sums.new.sums c.args.kept.now c.requires.reach c.have_sums.ensures

pub returns-clause-reach : goal.returns-clause-reach
returns-clause-reach c =
    reach_kept (tree_of c.self.inside.root) c.args.self.now c.reach_of.result c.as_slice-tables.result.now c.read_anew.new.counts c.read_anew.new.sums c.read_anew.new.kept c.self.view_is (c.as_slice-tables.ensures.value ∙ c.self.invariant.2) c.reach_of.ensures c.in_ok-read_anew.ensures.sums
