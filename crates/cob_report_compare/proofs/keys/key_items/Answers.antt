use Rattle.std.proofs.Common.{arith, sym, subst, ap, map, length, List, [], ◌∷◌}
use Rattle.std.specs.List.{AllByRecursion}
use Rattle.std.proofs.lemmas.List.{length-append, map-append}
use Rattle.cob_report_show.specs.declared.named.ListedItem.{ListedItem}
use Rattle.cob_report_show.specs.Elements.{named_item}
use Rattle.cob_report_show.proofs.ElementLemmas.{all_append}
use Rattle.cob_report_compare.specs.Keys.{IsKeyItem}
use Rattle.cob_report_compare.proofs.keys.key_items.Goals as goal

pub loop-number-preserved : goal.loop-number-preserved
loop-number-preserved c =
    let is = IsKeyItem (map named_item c.args.named.now) in
    let before = c.loop-number.keys.items in
    let one = c.in-Some.key in
    record {
      all = subst (λ (xs : List ListedItem). AllByRecursion is (map named_item xs)) (sym c.in_ok-push.ensures.items)
          (subst (AllByRecursion is) (sym (map-append named_item before (one ∷ []))) (all_append is (map named_item before) (named_item one ∷ []) c.loop-number.invariant.all (c.in-Some.ensures.among, tt)));
      count = omega (arith, ap length c.in_ok-push.ensures.items, length-append before (one ∷ []), c.loop-number.invariant.count);
    }
