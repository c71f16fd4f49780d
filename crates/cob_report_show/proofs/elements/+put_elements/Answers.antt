-- Where no table is left the element itself stands; else the elements of the first one follow in turn.
use Rattle.std.proofs.Common.{rules, arith, suc, Ok, Err}
use Rattle.std.proofs.lemmas.Result.{err_from_is_err_and}
use Rattle.cob_report_show.specs.Elements.{named_item, printed_record}
use Rattle.cob_report_show.specs.Lines.{AreBegunInTurn, AreInTurn}
use Rattle.cob_report_show.proofs.ElementLemmas.{stands_alone}
use Rattle.cob_report_show.proofs.TurnLemmas.{all_turns, cut_turn, inner_begun, inner_lines, one_turn, popped, table_sends, under_next}
use Rattle.cob_report_show.proofs.elements.+put_elements.Goals as goal

pub put_element-requires-clause-stands : goal.put_element-requires-clause-stands
put_element-requires-clause-stands g n c = stands_alone _ _ c.args.tables.now _ c.in_default.ensures.cases c.requires.stand

pub loop-earlier-preserved : goal.loop-earlier-preserved
loop-earlier-preserved g n c =
    let r = printed_record c.args.contents in
    let x = named_item c.args.item.now in
    let inner = c.in-Some.inner.now in
    let outer = c.args.reference.now.subscripts.items in
    let k = c.loop-earlier.earlier in
    let lines = inner_lines r x inner outer in
    let begun = inner_begun r x inner outer in
    let next = under_next r x inner outer c.loop-earlier.reference.subscripts.items c.push.new.self.items k c.loop-earlier.sent c.put_elements.new.sent (Ok tt) _ _
    c.loop-earlier.invariant.same c.push.ensures.items c.in_ok-put_elements.ensures.lines in
    record {
      node = search rules;
      same = popped outer c.loop-earlier.reference.subscripts.items c.push.new.self.items c.put_elements.new.reference.subscripts.items c.pop.new.self.items _
          c.loop-earlier.invariant.same c.push.ensures.items c.in_ok-put_elements.ensures.same c.pop.ensures.rest;
      so_far = one_turn lines (begun (suc k)) k c.args.sent.now c.loop-earlier.sent c.put_elements.new.sent _ _ _ c.loop-earlier.invariant.so_far next;
      writes = search rules;
      errors = search rules;
    }

pub returns-in_err-put_elements-clause-lines : goal.returns-in_err-put_elements-clause-lines
returns-in_err-put_elements-clause-lines g n c =
    let r = printed_record c.args.contents in
    let x = named_item c.args.item.now in
    let inner = c.in-Some.inner.now in
    let outer = c.args.reference.now.subscripts.items in
    let k = c.loop-earlier.earlier in
    let times = c.times_in-earlier-end.result in
    let lines = inner_lines r x inner outer in
    let begun = inner_begun r x inner outer in
    let next = under_next r x inner outer c.loop-earlier.reference.subscripts.items c.push.new.self.items k c.loop-earlier.sent c.put_elements.new.sent (Err c.in_err-put_elements.field-0.0) _ _
    c.loop-earlier.invariant.same c.push.ensures.items c.in_err-put_elements.ensures.lines in
    let p = err_from_is_err_and c.from_residual.result c.from_residual.ensures.1 in
    let fault = c.in_err-put_elements.field-0.0 in
    rw p.1 (table_sends r x c.args.tables.now inner outer c.in-Some.table.now times c.args.sent.now c.put_elements.new.sent (Err fault) _ _
    c.in-Some.ensures.cases.0 c.times_in-earlier-end.ensures
    (cut_turn lines begun (AreInTurn lines times) k times c.args.sent.now c.loop-earlier.sent c.put_elements.new.sent fault _ _ _
    c.loop-earlier.invariant.so_far c.loop-earlier-test.true next))

pub returns-clause-lines : goal.returns-clause-lines
returns-clause-lines g n c =
    let r = printed_record c.args.contents in
    let x = named_item c.args.item.now in
    let inner = c.in-Some.inner.now in
    let outer = c.args.reference.now.subscripts.items in
    let times = c.times_in-earlier-end.result in
    let lines = inner_lines r x inner outer in
    let begun = inner_begun r x inner outer in
    table_sends r x c.args.tables.now inner outer c.in-Some.table.now times c.args.sent.now c.loop-earlier.sent (Ok tt) _ _ c.in-Some.ensures.cases.0 c.times_in-earlier-end.ensures
    (all_turns lines (AreBegunInTurn lines begun times) c.loop-earlier.earlier times c.args.sent.now c.loop-earlier.sent _ _ c.loop-earlier.invariant.so_far (omega (arith, c.loop-earlier-test.false, c.loop-earlier.auto.earlier-end)))
