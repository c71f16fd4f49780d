-- Where no table is left the element itself is told; else the elements of the first one follow in turn.
use Rattle.std.proofs.Common.{rules, arith}
use Rattle.cob_report_show.specs.Elements.{named_item}
use Rattle.cob_report_show.proofs.TurnLemmas.{popped}
use Rattle.cob_report_compare.specs.Equal.{printed_of}
use Rattle.cob_report_compare.specs.Differences.{shared_times}
use Rattle.cob_report_compare.proofs.ToldLemmas.{inner_told}
use Rattle.cob_report_compare.proofs.AddLemmas.{all_turns, one_turn, table_adds, under_next}
use Rattle.cob_report_compare.proofs.SharedLemmas.{alone_shared}
use Rattle.cob_report_compare.proofs.elements.+add_elements.Goals as goal

pub add_element-requires : goal.add_element-requires
add_element-requires n c =
    let stand = alone_shared _ _ (named_item c.args.item.now) c.args.tables.now _ c.in_default.ensures.cases c.requires.shared in
    record {
      left_laid = c.requires.left_laid;
      right_laid = c.requires.right_laid;
      node = c.requires.node;
      many = omega (arith, c.requires.room);
      left_stands = stand.0;
      right_stands = stand.1;
    }

pub loop-earlier-preserved : goal.loop-earlier-preserved
loop-earlier-preserved n c =
    let l = printed_of c.args.left in
    let r = printed_of c.args.right in
    let x = named_item c.args.item.now in
    let inner = c.in-Some.inner.now in
    let outer = c.args.reference.now.subscripts.items in
    let k = c.loop-earlier.earlier in
    record {
      node = search rules;
      same = popped outer c.loop-earlier.reference.subscripts.items c.push.new.self.items c.add_elements.new.reference.subscripts.items c.pop.new.self.items _
          c.loop-earlier.invariant.same c.push.ensures.items c.add_elements.ensures.same c.pop.ensures.rest;
      so_far = one_turn (inner_told l r x (shared_times l r inner) outer) k c.args.told.now c.loop-earlier.told c.add_elements.new.told c.loop-earlier.invariant.so_far
          (under_next l r x inner outer c.loop-earlier.reference.subscripts.items c.push.new.self.items k c.loop-earlier.told c.add_elements.new.told
          c.loop-earlier.invariant.same c.push.ensures.items c.add_elements.ensures.added);
    }

pub returns-clause-added : goal.returns-clause-added
returns-clause-added n c =
    let l = printed_of c.args.left in
    let r = printed_of c.args.right in
    let x = named_item c.args.item.now in
    let inner = c.in-Some.inner.now in
    let outer = c.args.reference.now.subscripts.items in
    table_adds l r x c.args.tables.now inner outer c.in-Some.table.now c.min-times.result c.args.told.now c.loop-earlier.told c.in-Some.ensures.cases.0
    (rw (c.times_in.ensures, c.times_in-2.ensures) at c.min-times.ensures)
    (all_turns (inner_told l r x (shared_times l r inner) outer) c.loop-earlier.earlier c.min-times.result c.args.told.now c.loop-earlier.told c.loop-earlier.invariant.so_far
    (omega (arith, c.loop-earlier-test.false, c.loop-earlier.auto.earlier-end)))
