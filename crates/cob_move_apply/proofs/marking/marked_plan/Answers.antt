use Rattle.std.proofs.Common.{◌≡◌, ◌∙◌, ◌++◌, List, [], ◌∷◌, ap, length, map}
use Rattle.cob_move_data.specs.Moves.{Records}
use Rattle.cob_move_apply.specs.Marked.{last_mark, statement_of}
use Rattle.cob_move_apply.specs.Steps.{support_of}
use Rattle.cob_move_apply.specs.declared.marking.Mark.{Mark}
use Rattle.cob_move_apply.proofs.MarkLemmas.{ends_done, ends_next, parted_first, said_all, said_more}
use Rattle.cob_move_apply.proofs.marking.marked_plan.Goals as goal

pub push_marked-requires-clause-rises : goal.push_marked-requires-clause-rises
push_marked-requires-clause-rises c =
    (ends_next c.loop-end.begin (length c.args.given.now) c.args.ends.now c.loop-end.end-index c.loop-end-test.true c.loop-end.invariant.ends).0

pub push_marked-requires-clause-within : goal.push_marked-requires-clause-within
push_marked-requires-clause-within c =
    (ends_next c.loop-end.begin (length c.args.given.now) c.args.ends.now c.loop-end.end-index c.loop-end-test.true c.loop-end.invariant.ends).1

pub loop-end-preserved : goal.loop-end-preserved
loop-end-preserved c = record {
  none = c.in_ok-push_marked.ensures.none;
  parted = c.in_ok-push_marked.ensures.parted;
  begin = c.in_ok-push_marked.ensures.end;
  ends = (ends_next c.loop-end.begin (length c.args.given.now) c.args.ends.now c.loop-end.end-index c.loop-end-test.true c.loop-end.invariant.ends).2;
  said = said_more (map statement_of c.loop-end.marks.items) (map statement_of c.push_marked.new.marks.items) c.args.ends.now c.loop-end.end-index c.loop-end-test.true
      c.loop-end.invariant.said c.in_ok-push_marked.ensures.ends;
}

pub returns-clause-whole : goal.returns-clause-whole
returns-clause-whole c =
    c.loop-end.invariant.begin ∙ ends_done c.loop-end.begin (length c.args.given.now) c.args.ends.now c.loop-end.end-index c.loop-end-test.false c.loop-end.invariant.ends

pub returns-clause-ends : goal.returns-clause-ends
returns-clause-ends c =
    said_all (map statement_of c.loop-end.marks.items) c.args.ends.now c.loop-end.end-index c.loop-end-test.false c.loop-end.invariant.said

pub loop-end-init : goal.loop-end-init
loop-end-init c =
    let r : Records = record { input = c.args.input.now; output = c.args.output.now } in
    let start : Mark = record { statement = 0; step = 0 } in
    let none : c.in_ok-steps.steps.items ≡ [] = c.in_ok-steps.ensures.items in
    let one : c.push.new.self.items ≡ start ∷ [] = c.in_ok-push.ensures.items ∙ ap (λ (ms : List Mark). ms ++ start ∷ []) c.in_ok-marks.ensures.items in record {
      none = c.empty_plan-plan.ensures;
      parted = parted_first r c.args.given.now (support_of c.empty_plan-plan.result) c.in_ok-steps.steps.items c.push.new.self.items none one;
      begin = ap (λ (ms : List Mark). (last_mark ms).statement) one;
      ends = c.requires.ends;
      said = ap (λ (ms : List Mark). map statement_of ms) one;
    }
