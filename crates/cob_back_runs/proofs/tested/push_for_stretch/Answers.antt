use Rattle.std.proofs.Common.{◌≡◌, ◌++◌, ◌∙◌, ℕ, ap, length, replicate, subst, sym}
use Rattle.std.specs.Prelude.{OnOk}
use Rattle.cob_back_runs.proofs.TestedLemmas.{counted}
use Rattle.cob_back_runs.proofs.tested.push_for_stretch.Goals as goal

pub returns : goal.returns
returns c = λ r.
    subst (λ (n : ℕ). OnOk c.push_for_moves.result (c.push_for_moves.new.marks.items ≡ c.args.marks.now.items ++ replicate n c.args.mark))
    (sym (ap length (c.statements_between.ensures.moves r) ∙ counted c.args.deeds.now.moves.moves.reading r c.statements_between.result.now)) c.push_for_moves.ensures
