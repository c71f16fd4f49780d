-- How many moves are told.
use Rattle.std.specs.Prelude.{ℕ, ◌+◌, List, [], ◌∷◌, length}
use Rattle.cob_move_data.specs.Moves.{Move}

-- how many single moves these are: each is a sender with one of its receivers
abbrev pub single_moves : List Move → ℕ
single_moves [] = 0
single_moves (m ∷ ms) = length m.receivers + single_moves ms

-- the greatest number of single moves that is told; where there are more, it is told in their place
abbrev pub most_moves_told : ℕ
most_moves_told = 4294967295
