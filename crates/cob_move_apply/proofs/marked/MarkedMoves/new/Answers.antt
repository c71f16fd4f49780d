use Rattle.std.proofs.Common.{◌∙◌, List, ap, length, subst, sym}
use Rattle.cob_codec.specs.declared.reading.Reading.TheVariants.{Pictured}
use Rattle.cob_move_data.specs.declared.operands.StatementMoves.{StatementMoves}
use Rattle.cob_move_data.specs.Moves.{Records}
use Rattle.cob_move_apply.specs.Marked.{RiseUpTo, ArePartedBy}
use Rattle.cob_move_apply.specs.Steps.{support_of}
use Rattle.cob_move_apply.proofs.ReadingLemmas.{are_moves_so}
use Rattle.cob_move_apply.proofs.marked.MarkedMoves.new.Goals as goal

pub returns-clause-prepared : goal.returns-clause-prepared
returns-clause-prepared c =
    let r : Records = record { input = c.args.input.now; output = c.args.output.now } in
    let made = c.in_ok-made.made in record {
      parted = subst (λ (ss : List StatementMoves). ArePartedBy r ss (support_of made.plan) made.plan.steps.items made.marks.items) c.as_slice.ensures.value c.in_ok-made.ensures.parted;
      whole = c.in_ok-made.ensures.whole ∙ ap length c.as_slice.ensures.value;
      moves = λ x. are_moves_so x Pictured r c.args.given.items c.requires.given;
    }

pub marked_plan-requires-clause-ends : goal.marked_plan-requires-clause-ends
marked_plan-requires-clause-ends c = subst (λ (ss : List StatementMoves). RiseUpTo 0 (length ss) c.args.ends.now) (sym c.as_slice.ensures.value) c.requires.ends
