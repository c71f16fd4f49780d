use Rattle.std.proofs.Common.{rules, [], ◌+◌, drop, map, subst, Ok, Err}
use Rattle.std.proofs.lemmas.Result.{err_from_is_err_and}
use Rattle.cob_report_show.specs.Elements.{ItemsStand, named_item, printed_record, table_times}
use Rattle.cob_report_show.specs.Lines.{AreElementLines, AreItemLines, BeginElementLines, BeginItemLines}
use Rattle.cob_report_show.proofs.TurnLemmas.{all_items, cut_item, fresh_sends, items_left, no_items_left, one_item}
use Rattle.cob_report_show.proofs.elements.put_items.Goals as goal

pub loop-item-preserved : goal.loop-item-preserved
loop-item-preserved g c =
    let r = printed_record c.args.contents in
    let x = named_item c.item-item.result in
    let i = c.loop-item.item-index in
    let cut = items_left c.args.items.now i c.item-item.result c.loop-item-test.true c.item-item.is in
    let sends = fresh_sends r x c.as_slice.result.now c.new.result.items c.loop-item.sent c.put_elements.new.sent (Ok tt) _ _ c.as_slice.ensures.value c.new.ensures c.in_ok-put_elements.ensures.lines in
    let stand = subst (λ xs. ItemsStand r xs) cut c.loop-item.invariant.stand in
    record {
      stand = stand.1;
      so_far = one_item r (map named_item c.args.items.now) (map named_item (drop i c.args.items.now)) (map named_item (drop (i + 1) c.args.items.now)) x
          (BeginElementLines r x (table_times r x.tables) []) c.args.sent.now c.loop-item.sent c.put_elements.new.sent _ _ _ c.loop-item.invariant.so_far cut sends;
      writes = search rules;
      errors = search rules;
    }

pub returns-in_err-put_elements-clause-lines : goal.returns-in_err-put_elements-clause-lines
returns-in_err-put_elements-clause-lines g c =
    let r = printed_record c.args.contents in
    let x = named_item c.item-item.result in
    let i = c.loop-item.item-index in
    let cut = items_left c.args.items.now i c.item-item.result c.loop-item-test.true c.item-item.is in
    let fault = c.in_err-put_elements.field-0.0 in
    let sends = fresh_sends r x c.as_slice.result.now c.new.result.items c.loop-item.sent c.put_elements.new.sent (Err fault) _ _ c.as_slice.ensures.value c.new.ensures c.in_err-put_elements.ensures.lines in
    let p = err_from_is_err_and c.from_residual.result c.from_residual.ensures.1 in
    rw p.1 (cut_item r (map named_item c.args.items.now) (map named_item (drop i c.args.items.now)) (map named_item (drop (i + 1) c.args.items.now)) x
    (AreElementLines r x (table_times r x.tables) []) (AreItemLines r (map named_item c.args.items.now)) c.args.sent.now c.loop-item.sent c.put_elements.new.sent fault _ _ _
    c.loop-item.invariant.so_far cut sends)

pub returns-clause-lines : goal.returns-clause-lines
returns-clause-lines g c =
    let r = printed_record c.args.contents in
    all_items r (map named_item c.args.items.now) (map named_item (drop c.loop-item.item-index c.args.items.now)) (BeginItemLines r (map named_item c.args.items.now)) c.args.sent.now c.loop-item.sent _ _
    c.loop-item.invariant.so_far (no_items_left c.args.items.now c.loop-item.item-index c.loop-item-test.false)
