-- Pairs kept by the numbers of their two groups.
use Rattle.std.specs.Prelude.{ℕ, Bool, nat_eq, ◌&&◌}
use Rattle.cob_move_names.specs.declared.group_numbers.GroupNumbers.{GroupNumbers}

-- these are the numbers of the two groups
abbrev pub same_groups : ℕ → ℕ → GroupNumbers → Bool
same_groups from to key = nat_eq from key.from && nat_eq to key.to
