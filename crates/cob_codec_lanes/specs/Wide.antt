-- Numbers of at most thirty-two digits in two vectors: the last sixteen digits, and those in front of them.
use Rattle.std.specs.Prelude.{◌≡◌, ℕ, ◌≤◌, ℤ, negsuc, ◌-ℤ◌, Bool, true, false, List, ◌++◌, length}
use Rattle.cob_decimal.specs.Decimal.{IsDigits, number_of}
use Rattle.cob_codec.specs.Sign.{IsSigned}
use Rattle.cob_codec_lanes.specs.Windows.{ArePowerPicks}
use Rattle.cob_codec_lanes.specs.declared.wide_keeper.WideKeeper.{WideKeeper}

-- Two vectors hold a number: its last sixteen digits, and those in front of them, behind zeros.
pub record AreHeldWide (number : ℕ) (front back : List ℕ) : Type 0 where
  pub first : length front ≡ 16
  pub last : length back ≡ 16
  pub valid : IsDigits (front ++ back)
  pub value : number_of (front ++ back) ≡ number

-- The bytes represent a number with this sign, which two vectors hold.
pub record AreWidelyRead (represents : Bool → List ℕ → Type 0) (minus : Bool) (front back : List ℕ) : Type 0 where
  pub negative : Bool
  pub digits : List ℕ
  pub represented : represents negative digits
  pub valid : IsDigits digits
  pub sign : IsSigned minus digits negative
  pub held : AreHeldWide (number_of digits) front back

-- What was read of an item: a number that its bytes represent, which two vectors hold, or that they represent none.
pub record IsWideRead (represents : Bool → List ℕ → Type 0) (is_number minus : Bool) (front back : List ℕ) : Type 0 where
  pub number : is_number ≡ true → AreWidelyRead represents minus front back
  pub nothing : is_number ≡ false → (negative : Bool) (digits : List ℕ) → ¬ represents negative digits

-- Of a number that two vectors hold those digits are kept that are wanted when it is moved left by so many places.
pub record IsWideKeeperOf (wanted : ℕ) (shift : ℤ) (kept : WideKeeper) : Type 0 where
  pub room : wanted ≤ 16
  pub front : ArePowerPicks true 0 2 16 wanted (shift -ℤ negsuc 15) kept.front.lanes
  pub back : ArePowerPicks true 0 2 16 wanted shift kept.back.lanes
