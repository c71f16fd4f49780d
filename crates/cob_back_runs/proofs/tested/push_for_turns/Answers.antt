use Rattle.std.proofs.Common.{◌≡◌, ◌++◌, ◌∙◌, ℕ, ap, length, replicate, subst, sym, true}
use Rattle.std.specs.Prelude.{OnOk}
use Rattle.cob_move_deeds.specs.Prepared.{flow_support}
use Rattle.cob_back_runs.proofs.TestedLemmas.{counted, loop_moves}
use Rattle.cob_back_runs.proofs.tested.push_for_turns.Goals as goal

pub returns : goal.returns
returns c = λ r prepared.
    subst (λ (n : ℕ). OnOk c.push_for_moves.result (c.push_for_moves.new.marks.items ≡ c.args.marks.now.items ++ replicate n true))
    (sym (ap length (loop_moves r (flow_support c.args.deeds.now) c.args.turned.now prepared.moves c.requires.turned ∙ c.statements_between.ensures.moves r)
    ∙ counted c.args.deeds.now.moves.moves.reading r c.statements_between.result.now)) c.push_for_moves.ensures
