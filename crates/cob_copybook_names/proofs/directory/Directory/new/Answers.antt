use Rattle.std.proofs.Common.{◌≡◌, ℕ, get_or, ap, map, length, sym, subst, ◌∙◌, arith, length-append}
use Rattle.cob_copybook_names.specs.Links.{IsLast, AreLinked, noted_for}
use Rattle.cob_copybook_names.proofs.Links.{linked_more, latest_more}
use Rattle.cob_copybook_names.specs.Naming.{own_names}
use Rattle.cob_copybook_names.specs.Listed.{seen}
use Rattle.cob_copybook_names.proofs.Namings.{name_at}
use Rattle.cob_copybook_names.proofs.directory.Directory.new.Goals as goal

pub loop-place-preserved : goal.loop-place-preserved
loop-place-preserved g c =
    let names = own_names (map seen c.args.bearers.items) in
    let place = c.loop-place.place in
    let item = c.bearer-item.result in
    let is : item ≡ get_or c.args.bearers.items place item = c.bearer-item.is ∙ ap (λ cs. get_or cs place item) c.deref-bearer-items.ensures.value in
    let here = name_at c.args.bearers.items place item (omega arith) is in
    record {
      sized = rw (c.in_ok-push.ensures.items, length-append) (omega (arith, c.loop-place.invariant.sized));
      linked = rw c.in_ok-push.ensures.items (linked_more names c.loop-place.earlier.items place c.in_ok-before.before c.loop-place.invariant.sized c.loop-place.invariant.linked
          (λ name bears. subst (IsLast names name place) (sym (c.in_ok-before.ensures.before name (sym here ∙ bears))) (c.loop-place.invariant.latest name)));
      latest = latest_more names place (seen item).name here (noted_for c.loop-place.last) (noted_for c.note.new.last) c.in_ok-before.ensures.noted c.in_ok-before.ensures.others c.loop-place.invariant.latest;
    }

pub invariant_of-result : goal.invariant_of-result
invariant_of-result g c =
    let names = own_names (map seen c.args.bearers.items) in
    let all : c.loop-place.place ≡ length c.args.bearers.items = omega arith in
    record {
      sized = c.loop-place.invariant.sized ∙ all;
      linked = subst (AreLinked names c.loop-place.earlier.items) all c.loop-place.invariant.linked;
      latest = λ name. subst (λ (k : ℕ). IsLast names name k (noted_for c.loop-place.last name)) all (c.loop-place.invariant.latest name);
    }
