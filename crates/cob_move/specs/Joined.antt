-- What is done, joined: moves that meet are together.
use Rattle.std.specs.Prelude.{List, ◌++◌}
use Rattle.cob_move_data.specs.Moves.{Move}
use Rattle.cob_move_deeds.specs.Deeds.{Choice, Deeds, Moving, Nothing}

-- moves in front of what is done: together with those that it begins with, if it begins with any
abbrev pub before_deeds : {T : Type 0} → List Move → Deeds T → Deeds T
before_deeds ms Nothing = Moving ms Nothing
before_deeds ms (Moving own more) = Moving (ms ++ own) more
before_deeds ms (Choice t holding lacking more) = Moving ms (Choice t holding lacking more)

-- the one, and then the other; moves that meet are together, so that between two tests there are some at most once
abbrev pub joined_deeds : {T : Type 0} → Deeds T → Deeds T → Deeds T
joined_deeds Nothing next = next
joined_deeds (Moving ms more) next = before_deeds ms (joined_deeds more next)
joined_deeds (Choice t holding lacking more) next = Choice t holding lacking (joined_deeds more next)
