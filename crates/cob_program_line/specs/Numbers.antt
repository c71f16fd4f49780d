-- Numbers, as words of the command line say them.
use Rattle.std.specs.Prelude.{ℕ, ◌<◌, List, length}
use Rattle.cob_records.specs.BlockSize.{SpellsBehind}
use Rattle.cob_records.specs.Device.{greatest_count}

-- A word says this number: in decimal digits, the first of which may be zeros; it is below the greatest of 64 bits.
pub record SaysNumber (word : List ℕ) (number : ℕ) : Type 0 where
  pub some : 0 < length word
  pub spells : SpellsBehind 0 word number
  pub size : number < greatest_count
