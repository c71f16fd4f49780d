use Rattle.std.proofs.Common.{◌≡◌, ◌<◌, ◌∙◌, ℕ, List, ap, refl, subst, sym, true, length, Err, Ok}
use Rattle.std.specs.Prelude.{slice_index}
use Rattle.std.proofs.lemmas.Result.{err_from_is_err_and}
use Rattle.cob_copybook_tree.specs.Forests.{Forest}
use Rattle.cob_copybook_tree.specs.Nodes.{Resolved, tree_of}
use Rattle.cob_layout_places.specs.declared.spots.Spot.{Spot}
use Rattle.cob_layout_places.specs.Counts.{tables_of}
use Rattle.cob_layout_places.specs.Lengths.{times}
use Rattle.cob_layout_places.specs.Needs.{is_read, number_behind}
use Rattle.cob_layout_places.specs.Spots.{spots_of}
use Rattle.cob_layout.specs.Counting.{greatest_counts}
use Rattle.cob_layout.specs.Kept.{TakenAnew, kept_read, kept_numbers}
use Rattle.cob_layout.specs.Shifts.{all_shifted}
use Rattle.cob_layout.specs.Sound.{IsSound}
use Rattle.cob_layout.proofs.FindLemmas.{Comes, comes}
use Rattle.cob_layout.proofs.GreatestLemmas.{greatest_length}
use Rattle.cob_layout.proofs.RefreshLemmas.{anew_is, kept_is, needed_anew}
use Rattle.cob_layout.proofs.ShiftLemmas.{all_stand, can_shift, growing_as}
use Rattle.cob_layout.proofs.layout.Layout.read_anew.Goals as goal

pub copy_from_slice-requires : goal.copy_from_slice-requires
copy_from_slice-requires c =
    let u = c.args.self.now in
    let sound : IsSound u = subst IsSound c.self.view_is c.self.invariant.1 in
    let greatest : c.as_slice.result.now ≡ greatest_counts u = c.as_slice.ensures ∙ c.self.invariant.3 ∙ ap (λ (v : Forest Resolved). greatest_counts v) c.self.view_is in
    c.requires.counts ∙ sym (ap length greatest ∙ greatest_length u sound.numbered)

pub keep_by-requires-clause-by : goal.keep_by-requires-clause-by
keep_by-requires-clause-by c =
    let t = tree_of c.self.inside.root in
    let u = c.args.self.now in
    let here = growing_as t u c.deref-3.result.now c.self.inside.least.items c.deref-2.result.now c.self.inside.growths.items c.self.view_is c.self.invariant.1 c.deref-3.ensures.value c.self.invariant.10 (c.deref-2.ensures.value ∙ c.self.invariant.11) c.self.invariant.12 in
    can_shift u c.deref-3.result.now c.deref-2.result.now c.self.inside.growths.items c.own_sums.result.now c.take_anew.new.counts here (c.own_sums.ensures ∙ c.put_sums.ensures)

pub returns-in_err-take_anew-clause-reads : goal.returns-in_err-take_anew-clause-reads
returns-in_err-take_anew-clause-reads c =
    let u = c.args.self.now in
    let h = c.in_err-take_anew.ensures.taken in (
      Err c.in_err-take_anew.field-0.0,
      h.0,
      anew_is u u c.args.bytes.now c.args.reference.now.node c.args.receiving c.args.needed.behind c.args.needed.last c.args.needed.number (tables_of u) c.args.kept.now c.args.kept.now (greatest_counts u)
          (Err c.in_err-take_anew.field-0.0) h.0 refl refl c.requires.behind c.requires.last c.requires.number refl refl h.1,
      h.2,
    )

pub returns-in_err-take_anew-clause-err : goal.returns-in_err-take_anew-clause-err
returns-in_err-take_anew-clause-err c =
    let u = c.args.self.now in
    let p = err_from_is_err_and c.from_residual.result c.from_residual.ensures.1 in
    let h = c.in_err-take_anew.ensures.taken in
    rw (p.1, p.2) (needed_anew c.needs_are_read.ensures c.one_place.ensures u c.args.bytes.now c.args.reference.now.node c.args.receiving c.args.reference.now.subscripts.items c.args.kept.now (Err c.in_err-take_anew.field-0.0) h.0
    (subst IsSound c.self.view_is c.self.invariant.1) c.requires.refers c.requires.as_many c.requires.kept
    (anew_is u u c.args.bytes.now c.args.reference.now.node c.args.receiving c.args.needed.behind c.args.needed.last c.args.needed.number (tables_of u) c.args.kept.now c.args.kept.now (greatest_counts u)
    (Err c.in_err-take_anew.field-0.0) h.0 refl refl c.requires.behind c.requires.last c.requires.number refl refl h.1))

pub returns-clause-reads : goal.returns-clause-reads
returns-clause-reads c =
    let u = c.args.self.now in
    let h = c.in_ok-take_anew.ensures.taken in (
      Ok c.take_anew.new.counts,
      h.0,
      anew_is u u c.args.bytes.now c.args.reference.now.node c.args.receiving c.args.needed.behind c.args.needed.last c.args.needed.number (tables_of u) c.args.kept.now c.args.kept.now (greatest_counts u)
          (Ok c.take_anew.new.counts) h.0 refl refl c.requires.behind c.requires.last c.requires.number refl refl h.1,
      h.2,
    )

pub returns-clause-came : goal.returns-clause-came
returns-clause-came c =
    let t = tree_of c.self.inside.root in
    let u = c.args.self.now in
    let r = c.args.reference.now.node in
    let ks = c.args.kept.now in
    let h = c.in_ok-take_anew.ensures.taken in
    let d = c.take_anew.new.counts in
    let e = c.take_anew.new.counts in
    let now = c.keep_by.new.kept in
    let here = growing_as t u c.deref-3.result.now c.self.inside.least.items c.deref-2.result.now c.self.inside.growths.items c.self.view_is c.self.invariant.1 c.deref-3.ensures.value c.self.invariant.10 (c.deref-2.ensures.value ∙ c.self.invariant.11) c.self.invariant.12 in
    let spots : List Spot = all_shifted c.own_sums.result.now e 0 c.deref-2.result.now c.deref-3.result.now in
    let stands : spots ≡ spots_of (times e) u 0 0 = all_stand u c.deref-3.result.now c.deref-2.result.now c.self.inside.growths.items c.own_sums.result.now e here (c.own_sums.ensures ∙ c.put_sums.ensures) in
    let agree : (k : ℕ) → k < number_behind true r u → slice_index e k ≡ slice_index d k = λ k lt. refl in
    let anew : TakenAnew u c.args.bytes.now (is_read u r c.args.receiving) (tables_of u) (kept_numbers ks) (greatest_counts u) (Ok d) h.0 =
    anew_is u u c.args.bytes.now r c.args.receiving c.args.needed.behind c.args.needed.last c.args.needed.number (tables_of u) ks ks (greatest_counts u)
    (Ok d) h.0 refl refl c.requires.behind c.requires.last c.requires.number refl refl h.1 in
    let is : now ≡ kept_read (is_read u r c.args.receiving) e spots (tables_of u) ks = c.keep_by.ensures
    ∙ kept_is t u r c.args.receiving c.args.needed.behind c.args.needed.last c.args.needed.number c.deref.result.now e e spots spots ks ks c.self.view_is
    (c.deref.ensures.value ∙ c.self.invariant.2) c.requires.behind c.requires.last c.requires.number refl refl refl in
    let m : Comes u c.args.bytes.now r c.args.receiving ks now d e =
    comes c.needs_are_read.ensures c.one_place.ensures u c.args.bytes.now r c.args.receiving c.args.reference.now.subscripts.items ks now d e spots h.0 (subst IsSound c.self.view_is c.self.invariant.1)
    c.requires.refers c.requires.as_many c.requires.kept anew agree stands is in
    (d, m.needed, m.place, m.kept)

pub returns-clause-keeps : goal.returns-clause-keeps
returns-clause-keeps c =
    let t = tree_of c.self.inside.root in
    let u = c.args.self.now in
    let r = c.args.reference.now.node in
    let ks = c.args.kept.now in
    let h = c.in_ok-take_anew.ensures.taken in
    let d = c.take_anew.new.counts in
    let e = c.take_anew.new.counts in
    let now = c.keep_by.new.kept in
    let here = growing_as t u c.deref-3.result.now c.self.inside.least.items c.deref-2.result.now c.self.inside.growths.items c.self.view_is c.self.invariant.1 c.deref-3.ensures.value c.self.invariant.10 (c.deref-2.ensures.value ∙ c.self.invariant.11) c.self.invariant.12 in
    let spots : List Spot = all_shifted c.own_sums.result.now e 0 c.deref-2.result.now c.deref-3.result.now in
    let stands : spots ≡ spots_of (times e) u 0 0 = all_stand u c.deref-3.result.now c.deref-2.result.now c.self.inside.growths.items c.own_sums.result.now e here (c.own_sums.ensures ∙ c.put_sums.ensures) in
    let agree : (k : ℕ) → k < number_behind true r u → slice_index e k ≡ slice_index d k = λ k lt. refl in
    let anew : TakenAnew u c.args.bytes.now (is_read u r c.args.receiving) (tables_of u) (kept_numbers ks) (greatest_counts u) (Ok d) h.0 =
    anew_is u u c.args.bytes.now r c.args.receiving c.args.needed.behind c.args.needed.last c.args.needed.number (tables_of u) ks ks (greatest_counts u)
    (Ok d) h.0 refl refl c.requires.behind c.requires.last c.requires.number refl refl h.1 in
    let is : now ≡ kept_read (is_read u r c.args.receiving) e spots (tables_of u) ks = c.keep_by.ensures
    ∙ kept_is t u r c.args.receiving c.args.needed.behind c.args.needed.last c.args.needed.number c.deref.result.now e e spots spots ks ks c.self.view_is
    (c.deref.ensures.value ∙ c.self.invariant.2) c.requires.behind c.requires.last c.requires.number refl refl refl in
    let m : Comes u c.args.bytes.now r c.args.receiving ks now d e =
    comes c.needs_are_read.ensures c.one_place.ensures u c.args.bytes.now r c.args.receiving c.args.reference.now.subscripts.items ks now d e spots h.0 (subst IsSound c.self.view_is c.self.invariant.1)
    c.requires.refers c.requires.as_many c.requires.kept anew agree stands is in
    m.keeps
