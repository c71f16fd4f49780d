-- Which literals a number of so many digits may hold.
use Rattle.std.specs.Prelude.{ℕ, ◌^◌, ◌<◌, ℤ}
use Rattle.cob_copybook_rules.specs.Values.{IsSameBy}

-- a number of so many digits, in units that are so many powers of ten finer or coarser, can be this one
pub record CanBeHeld (shift : ℤ) (a room : ℕ) : Type 0 where
  pub held : ℕ
  pub few : held < 10 ^ room
  pub same : IsSameBy shift a held
