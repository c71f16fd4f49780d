-- What the counts over runs say of the positions.
use Rattle.std.specs.Prelude.{◌≡◌, ℕ, ◌+◌, Bool, false, List, [], ◌∷◌, ℤ, count_by, if◌then◌else◌}
use Rattle.cob_picture.specs.declared.symbol.Symbol.{Symbol}
use Rattle.cob_picture.specs.declared.symbol.Run.{Run}
use Rattle.cob_picture.specs.declared.position.Position.{Position}
use Rattle.cob_picture.specs.declared.counts.PictureCounts.{PictureCounts}
use Rattle.cob_picture.specs.declared.category.Category.{Category}
use Rattle.cob_picture.specs.Positions.{is, positions}
use Rattle.cob_picture.specs.Counts.{width, size, digits, decimal_places, is_scaling, left_of_point, right_of_point, scale, signed}
use Rattle.cob_picture.specs.Pictures.{IsPicture}

-- the counts over positions
pub record AreCountsOver (ps : List Position) (m : PictureCounts) : Type 0 where
  pub kept : m.digits ≡ digits ps
  pub all : m.decimal_places ≡ decimal_places ps
  pub behind : m.fraction ≡ decimal_places (right_of_point ps)
  pub missing : m.missing ≡ count_by is_scaling (left_of_point ps)
  pub bytes : m.size ≡ size ps
  pub sign : m.signed ≡ signed ps

-- what a picture keeps beside its runs
pub record IsKept (c : Category) (symbols : List Symbol) (bytes count : ℕ) (unit : ℤ) (sign : Bool) : Type 0 where
  pub picture : IsPicture c symbols
  pub takes : bytes ≡ size (positions c symbols)
  pub shows : count ≡ digits (positions c symbols)
  pub counts_in : unit ≡ scale (positions c symbols)
  pub keeps_sign : sign ≡ signed (positions c symbols)

-- the bytes of symbols
abbrev pub symbols_size : List Symbol → ℕ
symbols_size [] = 0
symbols_size (s ∷ symbols) = width s + symbols_size symbols
