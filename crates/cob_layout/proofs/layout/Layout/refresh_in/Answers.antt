use Rattle.std.proofs.Common.{◌≡◌, ◌∙◌, ℕ, List, Option, ap, refl, subst, sym, length, Err, Ok}
use Rattle.std.proofs.lemmas.Result.{err_from_is_err_and}
use Rattle.cob_copybook_tree.specs.Forests.{Forest}
use Rattle.cob_copybook_tree.specs.Nodes.{Resolved, tree_of}
use Rattle.cob_layout_places.specs.Counts.{tables_of}
use Rattle.cob_layout_places.specs.Lengths.{times}
use Rattle.cob_layout_places.specs.Needs.{is_read}
use Rattle.cob_layout_places.specs.Spots.{spots_of}
use Rattle.cob_layout.specs.declared.counts.StoredCount.{StoredCount}
use Rattle.cob_layout.specs.Counting.{greatest_counts}
use Rattle.cob_layout.specs.Kept.{AreKeptOf, TakenAnew, kept_numbers}
use Rattle.cob_layout.specs.Sound.{IsSound}
use Rattle.cob_layout.proofs.GreatestLemmas.{greatest_length}
use Rattle.cob_layout.proofs.ReferenceLemmas.{refers_has}
use Rattle.cob_layout.proofs.RefreshLemmas.{anew_is, kept_behind, kept_is, needed_anew}
use Rattle.cob_layout.proofs.layout.Layout.refresh_in.Goals as goal

pub needed_by-needed-requires : goal.needed_by-needed-requires
needed_by-needed-requires c = record { there = refers_has c.args.reference.now.node c.args.reference.now.subscripts.items c.args.self.now c.requires.refers }

pub copy_from_slice-requires : goal.copy_from_slice-requires
copy_from_slice-requires c =
    let u = c.args.self.now in
    let sound : IsSound u = subst IsSound c.self.view_is c.self.invariant.1 in
    let greatest : c.as_slice.result.now ≡ greatest_counts u = c.as_slice.ensures ∙ c.self.invariant.3 ∙ ap (λ (v : Forest Resolved). greatest_counts v) c.self.view_is in
    c.requires.next ∙ sym (ap length greatest ∙ greatest_length u sound.numbered)

pub returns-in_err-take_anew-clause-reads : goal.returns-in_err-take_anew-clause-reads
returns-in_err-take_anew-clause-reads c =
    let u = c.args.self.now in
    let p = err_from_is_err_and c.from_residual.result c.from_residual.ensures.1 in
    let h = c.in_err-take_anew.ensures.taken in
    rw (p.1, p.2) (
      h.0,
      anew_is u u c.args.bytes.now c.args.reference.now.node c.args.receiving c.needed_by-needed.result.behind c.needed_by-needed.result.last c.needed_by-needed.result.number (tables_of u) c.args.kept.now c.args.kept.now (greatest_counts u)
          (Err c.in_err-take_anew.field-0.0) h.0 refl refl c.needed_by-needed.ensures.behind c.needed_by-needed.ensures.last c.needed_by-needed.ensures.number refl refl h.1,
      h.2,
    )

pub returns-in_err-take_anew-clause-err : goal.returns-in_err-take_anew-clause-err
returns-in_err-take_anew-clause-err c =
    let u = c.args.self.now in
    let p = err_from_is_err_and c.from_residual.result c.from_residual.ensures.1 in
    let h = c.in_err-take_anew.ensures.taken in
    rw (p.1, p.2) (needed_anew c.needs_are_read.ensures c.one_place.ensures u c.args.bytes.now c.args.reference.now.node c.args.receiving c.args.reference.now.subscripts.items c.args.kept.now (Err c.in_err-take_anew.field-0.0) h.0
    (subst IsSound c.self.view_is c.self.invariant.1) c.requires.refers c.requires.as_many c.requires.kept
    (anew_is u u c.args.bytes.now c.args.reference.now.node c.args.receiving c.needed_by-needed.result.behind c.needed_by-needed.result.last c.needed_by-needed.result.number (tables_of u) c.args.kept.now c.args.kept.now (greatest_counts u)
    (Err c.in_err-take_anew.field-0.0) h.0 refl refl c.needed_by-needed.ensures.behind c.needed_by-needed.ensures.last c.needed_by-needed.ensures.number refl refl h.1))

pub returns-clause-reads : goal.returns-clause-reads
returns-clause-reads c =
    let u = c.args.self.now in
    let r = c.args.reference.now.node in
    let ks = c.args.kept.now in
    let h = c.in_ok-take_anew.ensures.taken in
    let anew = subst (λ (d : List ℕ). TakenAnew u c.args.bytes.now (is_read u r c.args.receiving) (tables_of u) (kept_numbers ks) (greatest_counts u) (Ok d) h.0) (sym c.stand_under.ensures.counts)
    (anew_is u u c.args.bytes.now r c.args.receiving c.needed_by-needed.result.behind c.needed_by-needed.result.last c.needed_by-needed.result.number (tables_of u) ks ks (greatest_counts u)
    (Ok c.take_anew.new.counts) h.0 refl refl c.needed_by-needed.ensures.behind c.needed_by-needed.ensures.last c.needed_by-needed.ensures.number refl refl h.1) in
    (h.0, anew, h.2)

pub returns-clause-ok : goal.returns-clause-ok
returns-clause-ok c =
    let u = c.args.self.now in
    let r = c.args.reference.now.node in
    let ks = c.args.kept.now in
    let h = c.in_ok-take_anew.ensures.taken in
    let anew = subst (λ (d : List ℕ). TakenAnew u c.args.bytes.now (is_read u r c.args.receiving) (tables_of u) (kept_numbers ks) (greatest_counts u) (Ok d) h.0) (sym c.stand_under.ensures.counts)
    (anew_is u u c.args.bytes.now r c.args.receiving c.needed_by-needed.result.behind c.needed_by-needed.result.last c.needed_by-needed.result.number (tables_of u) ks ks (greatest_counts u)
    (Ok c.take_anew.new.counts) h.0 refl refl c.needed_by-needed.ensures.behind c.needed_by-needed.ensures.last c.needed_by-needed.ensures.number refl refl h.1) in
    needed_anew c.needs_are_read.ensures c.one_place.ensures u c.args.bytes.now r c.args.receiving c.args.reference.now.subscripts.items ks (Ok c.stand_under.new.taken) h.0
    (subst IsSound c.self.view_is c.self.invariant.1) c.requires.refers c.requires.as_many c.requires.kept anew

pub returns-clause-kept : goal.returns-clause-kept
returns-clause-kept c =
    let u = c.args.self.now in
    let r = c.args.reference.now.node in
    c.keep_read.ensures
    ∙ kept_is (tree_of c.self.inside.root) u r c.args.receiving c.needed_by-needed.result.behind c.needed_by-needed.result.last c.needed_by-needed.result.number c.deref.result.now c.stand_under.new.taken c.stand_under.new.taken c.stand_under.new.spots c.stand_under.new.spots
    c.args.kept.now c.args.kept.now c.self.view_is (c.deref.ensures.value ∙ c.self.invariant.2) c.needed_by-needed.ensures.behind c.needed_by-needed.ensures.last c.needed_by-needed.ensures.number refl refl refl

pub returns-clause-keeps : goal.returns-clause-keeps
returns-clause-keeps c =
    let u = c.args.self.now in
    let r = c.args.reference.now.node in
    let ks = c.args.kept.now in
    let h = c.in_ok-take_anew.ensures.taken in
    let anew = subst (λ (d : List ℕ). TakenAnew u c.args.bytes.now (is_read u r c.args.receiving) (tables_of u) (kept_numbers ks) (greatest_counts u) (Ok d) h.0) (sym c.stand_under.ensures.counts)
    (anew_is u u c.args.bytes.now r c.args.receiving c.needed_by-needed.result.behind c.needed_by-needed.result.last c.needed_by-needed.result.number (tables_of u) ks ks (greatest_counts u)
    (Ok c.take_anew.new.counts) h.0 refl refl c.needed_by-needed.ensures.behind c.needed_by-needed.ensures.last c.needed_by-needed.ensures.number refl refl h.1) in
    let kept = c.keep_read.ensures
    ∙ kept_is (tree_of c.self.inside.root) u r c.args.receiving c.needed_by-needed.result.behind c.needed_by-needed.result.last c.needed_by-needed.result.number c.deref.result.now c.stand_under.new.taken c.stand_under.new.taken c.stand_under.new.spots c.stand_under.new.spots
    ks ks c.self.view_is (c.deref.ensures.value ∙ c.self.invariant.2) c.needed_by-needed.ensures.behind c.needed_by-needed.ensures.last c.needed_by-needed.ensures.number refl refl refl in
    let stands : c.stand_under.new.spots ≡ spots_of (times c.stand_under.new.taken) u 0 0 = c.stand_under.ensures.spots ∙ ap (λ (cs : List ℕ). spots_of (times cs) u 0 0) (sym c.stand_under.ensures.counts) in
    subst (λ (js : List (Option StoredCount)). AreKeptOf u c.args.bytes.now js) (sym kept)
    (kept_behind c.one_place.ensures u c.args.bytes.now r c.args.receiving ks c.stand_under.new.taken h.0 c.stand_under.new.spots (subst IsSound c.self.view_is c.self.invariant.1) c.requires.as_many c.requires.kept stands anew)
