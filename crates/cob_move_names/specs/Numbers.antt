-- Sets of numbers.
use Rattle.std.specs.Prelude.{ℕ, Bool, false, slice_index_or}
use Rattle.cob_move_names.specs.declared.number_set.NumberSet.{NumberSet}

-- the number is in the set
abbrev pub has : NumberSet → ℕ → Bool
has set number = slice_index_or set.flags.items number false
