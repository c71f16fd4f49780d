use Rattle.std.proofs.Common.{List, Option, subst, sym}
use Rattle.cob_move_deeds.specs.Steady.{AreSteady}
use Rattle.cob_move_deeds.specs.declared.steady.Stretch.{Stretch}
use Rattle.cob_move_deeds.proofs.SteadyLemmas.{none_steady, noted_steady}
use Rattle.cob_move_deeds.proofs.ready.ReadyDeeds.noted_of.Goals as goal

pub returns-in-Some : goal.returns-in-Some
returns-in-Some c = λ r b prepared at.
    let m = c.args.self.now.moves in
    let bounds = c.args.self.now.bounds.items in
    c.stretch_at.ensures r m bounds b
    (subst (λ (ns : List (Option Stretch)). AreSteady r m bounds ns) (sym c.as_slice.ensures.value)
    (noted_steady (λ v. v.items) r m bounds c.args.self.now.steady c.in-Some.noted c.in-Some.is prepared.steady)) at

pub returns-in-None : goal.returns-in-None
returns-in-None c = λ r b prepared at. none_steady r c.args.self.now.moves b
