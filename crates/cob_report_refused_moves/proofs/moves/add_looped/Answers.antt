use Rattle.std.proofs.Common.{◌≡◌, List, ap, inl, subst, ◌∙◌}
use Rattle.cob_source.specs.Tokens.{Lexeme}
use Rattle.cob_move_apply.specs.Some.{SomeOf}
use Rattle.cob_move_loops.specs.Reading.{all_runs}
use Rattle.cob_report_refused_moves.proofs.Telling.{on_wider}
use Rattle.cob_report_refused_moves.proofs.moves.add_looped.Goals as goal

pub returns : goal.returns
returns c =
    let p = c.requires.0 in
    let same = ap all_runs c.as_slice.ensures.value ∙ c.in_ok-runs.ensures p c.requires.1 in
    on_wider c.add_runs.result (λ adds text names has all.
    adds text names (λ run some. has run (inl (p, c.requires.1, subst (SomeOf (λ (ws : List Lexeme). ws ≡ run)) same some))) all) c.add_runs.ensures
