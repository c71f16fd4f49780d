use Rattle.std.proofs.Common.{◌≡◌, ◌∙◌, ◌==◌, ℕ, List, ap, subst, sym, true, length, arith}
use Rattle.cob_copybook_tree.specs.Forests.{Forest}
use Rattle.cob_copybook_tree.specs.Nodes.{Resolved}
use Rattle.cob_layout_places.specs.Counts.{tables_of}
use Rattle.cob_layout_places.specs.Lengths.{times}
use Rattle.cob_layout_places.specs.Spots.{spots_of}
use Rattle.cob_layout.specs.Counting.{greatest_counts}
use Rattle.cob_layout.specs.Sound.{IsSound}
use Rattle.cob_layout.proofs.EndLemmas.{same}
use Rattle.cob_layout.proofs.GreatestLemmas.{greatest_length}
use Rattle.cob_layout.proofs.RoomLemmas.{none_taken}
use Rattle.cob_layout.proofs.layout.Layout.counts_in.Goals as goal

pub copy_from_slice-requires : goal.copy_from_slice-requires
copy_from_slice-requires c =
    let u = c.args.self.now in
    let sound : IsSound u = subst IsSound c.self.view_is c.self.invariant.1 in
    let greatest : c.as_slice.result.now ≡ greatest_counts u = c.as_slice.ensures ∙ c.self.invariant.3 ∙ ap (λ (v : Forest Resolved). greatest_counts v) c.self.view_is in
    c.requires.next ∙ sym (ap length greatest ∙ greatest_length u sound.numbered)

pub copy_to-requires-clause-counts : goal.copy_to-requires-clause-counts
copy_to-requires-clause-counts c =
    let sound : IsSound c.args.self.now = subst IsSound c.self.view_is c.self.invariant.1 in
    c.requires.counts ∙ sym (ap length (c.self.invariant.3 ∙ ap (λ (v : Forest Resolved). greatest_counts v) c.self.view_is) ∙ greatest_length c.args.self.now sound.numbered)

pub copy_to-requires-clause-spots : goal.copy_to-requires-clause-spots
copy_to-requires-clause-spots c =
    let sound : IsSound c.args.self.now = subst IsSound c.self.view_is c.self.invariant.1 in
    c.requires.room ∙ sym (ap length (c.self.invariant.3 ∙ ap (λ (v : Forest Resolved). greatest_counts v) c.self.view_is) ∙ greatest_length c.args.self.now sound.numbered)

pub returns-then-is_empty-clause-ok : goal.returns-then-is_empty-clause-ok
returns-then-is_empty-clause-ok c =
    let u = c.args.self.now in
    let taken : c.copy_to.new.taken ≡ greatest_counts u = c.copy_to.ensures.counts ∙ c.self.invariant.3 ∙ ap (λ (v : Forest Resolved). greatest_counts v) c.self.view_is in
    let is : (c.self.inside.tables.len == 0) ≡ true = sym c.is_empty.ensures ∙ c.if-is_empty.true in
    let none : length c.self.inside.tables.items ≡ 0 = omega (arith, same c.self.inside.tables.len 0 is, c.self.inside.tables.ok.0) in
    none_taken u c.args.bytes.now c.self.inside.tables.items c.copy_to.new.taken (c.self.invariant.2 ∙ ap (λ (v : Forest Resolved). tables_of v) c.self.view_is) none taken

pub returns-then-is_empty-clause-stands : goal.returns-then-is_empty-clause-stands
returns-then-is_empty-clause-stands c =
    let u = c.args.self.now in
    let taken : c.copy_to.new.taken ≡ greatest_counts u = c.copy_to.ensures.counts ∙ c.self.invariant.3 ∙ ap (λ (v : Forest Resolved). greatest_counts v) c.self.view_is in
    c.copy_to.ensures.spots ∙ c.self.invariant.7 ∙ ap (λ (v : Forest Resolved). spots_of (times (greatest_counts v)) v 0 0) c.self.view_is ∙ ap (λ (cs : List ℕ). spots_of (times cs) u 0 0) (sym taken)
