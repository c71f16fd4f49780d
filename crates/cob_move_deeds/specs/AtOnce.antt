-- Flows that carry out all moves at once, with no test.
use Rattle.std.specs.Prelude.{ℕ, ◌==◌, ◌&&◌, Bool, true, false, List, [], ◌∷◌}
use Rattle.cob_move_deeds.specs.declared.flow.Flow.{Flow}
use Rattle.cob_move_deeds.specs.declared.flow.Flow.TheVariants as flow

-- they are one flow, which carries out moves
abbrev pub are_lone_moves : List Flow → Bool
are_lone_moves [] = false
are_lone_moves (flow.Moves number ∷ []) = true
are_lone_moves (flow.Moves number ∷ f ∷ fs) = false
are_lone_moves (flow.Turns number ∷ fs) = false
are_lone_moves (flow.Until bound number skip ∷ fs) = false
are_lone_moves (flow.Where condition holding lacking ∷ fs) = false
are_lone_moves (flow.Skip count ∷ fs) = false

-- and there are no other moves: two marks stand before them and behind them
abbrev pub are_all_moves : ℕ → List Flow → Bool
are_all_moves marks fs = (marks == 2) && are_lone_moves fs
