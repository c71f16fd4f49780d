use Rattle.std.proofs.Common.{◌≡◌, ◌++◌, Option, length, replicate, subst, sym, true}
use Rattle.std.specs.Prelude.{OnOk}
use Rattle.cob_move_deeds.specs.declared.flow.CountedLoop.{CountedLoop}
use Rattle.cob_move_deeds.specs.declared.flow.Flow.{Flow}
use Rattle.cob_move_deeds.specs.Deeds.{moves_of_deeds}
use Rattle.cob_move_deeds.specs.Flows.{FlowSupport, IsLoop, loop_done}
use Rattle.cob_move_deeds.specs.Prepared.{flow_support}
use Rattle.cob_back_runs.specs.Tested.{flow_marks}
use Rattle.cob_back_runs.proofs.TestedLemmas.{loop_there}
use Rattle.cob_back_runs.proofs.tested.push_for_flow.Goals as goal

pub returns-in-Moves : goal.returns-in-Moves
returns-in-Moves c = λ r prepared.
    subst (λ (f : Flow). OnOk c.push_for_stretch.result (c.push_for_stretch.new.marks.items ≡ c.args.marks.now.items ++ flow_marks r (flow_support c.args.deeds.now) c.args.mark f)) (sym c.in-Moves.is)
    (c.push_for_stretch.ensures r)

pub returns-in-Turns : goal.returns-in-Turns
returns-in-Turns c = λ r prepared.
    let on : FlowSupport = flow_support c.args.deeds.now in
    let none : CountedLoop = record { bound = 0; from = 0; by = 0; first = 0; turns = 0 } in
    let there = loop_there (IsLoop on) c.args.deeds.now.loops.items c.loops.result.now c.in-Turns.number none c.loops.ensures (rw c.in-Turns.is at c.requires.flow) in
    subst (λ (f : Flow). OnOk c.push_for_turns.result (c.push_for_turns.new.marks.items ≡ c.args.marks.now.items ++ flow_marks r on c.args.mark f)) (sym c.in-Turns.is)
    (subst (λ (o : Option CountedLoop). OnOk c.push_for_turns.result (c.push_for_turns.new.marks.items ≡ c.args.marks.now.items ++ replicate (length (moves_of_deeds (loop_done r on o))) true)) (sym there)
    (c.push_for_turns.ensures r prepared))
