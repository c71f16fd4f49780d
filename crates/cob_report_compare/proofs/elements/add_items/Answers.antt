use Rattle.std.proofs.Common.{◌+◌, drop, map, subst}
use Rattle.cob_report_show.specs.Elements.{named_item}
use Rattle.cob_report_show.proofs.TurnLemmas.{items_left, no_items_left}
use Rattle.cob_report_compare.specs.Equal.{printed_of}
use Rattle.cob_report_compare.specs.Shared.{ItemsShared}
use Rattle.cob_report_compare.proofs.AddLemmas.{all_items, fresh_adds, one_item}
use Rattle.cob_report_compare.proofs.elements.add_items.Goals as goal

pub loop-item-preserved : goal.loop-item-preserved
loop-item-preserved c =
    let l = printed_of c.args.left in
    let r = printed_of c.args.right in
    let x = named_item c.item-item.result in
    let i = c.loop-item.item-index in
    let cut = items_left c.args.items.now i c.item-item.result c.loop-item-test.true c.item-item.is in
    let shared = subst (λ xs. ItemsShared l r xs) cut c.loop-item.invariant.shared in
    record {
      shared = shared.1;
      so_far = one_item l r (map named_item c.args.items.now) (map named_item (drop i c.args.items.now)) (map named_item (drop (i + 1) c.args.items.now)) x
          c.args.told.now c.loop-item.told c.add_elements.new.told c.loop-item.invariant.so_far cut
          (fresh_adds l r x c.as_slice.result.now c.new.result.items c.loop-item.told c.add_elements.new.told c.as_slice.ensures.value c.new.ensures c.add_elements.ensures.added);
    }

pub returns : goal.returns
returns c = record {
  added = all_items (printed_of c.args.left) (printed_of c.args.right) (map named_item c.args.items.now) (map named_item (drop c.loop-item.item-index c.args.items.now))
      c.args.told.now c.loop-item.told c.loop-item.invariant.so_far (no_items_left c.args.items.now c.loop-item.item-index c.loop-item-test.false);
}
