use Rattle.std.proofs.Common.{◌∙◌, ℕ, ap}
use Rattle.std.specs.Prelude.{min}
use Rattle.cob_move_apply.specs.Told.{most_moves_told}
use Rattle.cob_move.proofs.ReadyLemmas.{steps_together}
use Rattle.cob_move.proofs.paragraph.Paragraph.steps.Goals as goal

pub returns-clause-told : goal.returns-clause-told
returns-clause-told c = λ r ready. c.steps.ensures r ready.prepared

pub returns-clause-together : goal.returns-clause-together
returns-clause-together c = λ r ready is. c.steps.ensures r ready.prepared ∙ ap (λ (n : ℕ). min n most_moves_told) (steps_together r c.args.self.now.deeds ready is)
