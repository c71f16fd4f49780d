use Rattle.std.proofs.Common.{◌≡◌, ℕ, ap, get_or, length, sym, subst, ◌∙◌, arith, length-append, Some}
use Rattle.cob_copybook_names.specs.Links.{IsLast, AreLinked, noted_for}
use Rattle.cob_copybook_names.proofs.Links.{linked_more, latest_more}
use Rattle.cob_move_names.specs.PlainPairs.{subordinate, subordinates_listed}
use Rattle.cob_move_names.specs.Partners.{names_listed}
use Rattle.cob_move_names.proofs.PartnerLemmas.{name_at, noted_here, noted_some, others_some}
use Rattle.cob_move_names.proofs.partners.Partners.of.Goals as goal

pub loop-place-preserved : goal.loop-place-preserved
loop-place-preserved c =
    let names = names_listed (subordinates_listed c.args.entries.items) in
    let place = c.loop-place.place in
    let item = c.entry-item.result in
    let is : item ≡ get_or c.args.entries.items place item = c.entry-item.is ∙ ap (λ cs. get_or cs place item) c.deref-entry-items.ensures.value in
    let here = name_at c.args.entries.items place item (omega arith) is in
    record {
      sized = rw (c.in_ok-push.ensures.items, length-append) (omega (arith, c.loop-place.invariant.sized));
      linked = rw c.in_ok-push.ensures.items (linked_more names c.loop-place.earlier.items place c.in_ok-before.before c.loop-place.invariant.sized c.loop-place.invariant.linked
          (λ name bears. subst (IsLast names name place) (sym (noted_some (subordinate item).name name c.in_ok-before.before (noted_for c.loop-place.last) c.in_ok-before.ensures.before (sym here ∙ bears))) (c.loop-place.invariant.latest name)));
      latest = latest_more names place (Some (subordinate item).name) here (noted_for c.loop-place.last) (noted_for c.note.new.last)
          (noted_here (subordinate item).name place (noted_for c.note.new.last) c.in_ok-before.ensures.noted)
          (others_some (subordinate item).name (noted_for c.loop-place.last) (noted_for c.note.new.last) c.in_ok-before.ensures.others) c.loop-place.invariant.latest;
    }

pub invariant_of-result : goal.invariant_of-result
invariant_of-result c =
    let names = names_listed (subordinates_listed c.args.entries.items) in
    let all : c.loop-place.place ≡ length c.args.entries.items = omega arith in
    record {
      sized = c.loop-place.invariant.sized ∙ all;
      linked = subst (AreLinked names c.loop-place.earlier.items) all c.loop-place.invariant.linked;
      latest = λ name. subst (λ (k : ℕ). IsLast names name k (noted_for c.loop-place.last name)) all (c.loop-place.invariant.latest name);
    }
