use Rattle.cob_codec.proofs.AnyZoneLaws as any
use Rattle.cob_codec.proofs.laws.any_zones_hold_numbers.Goals as goal

pub returns : goal.returns
returns c = record {
  zoned = λ count signed leading. any.held_zoned count signed leading;
  separate = λ count signed leading is_signed bytes negative digits p. any.held_separate count signed leading bytes negative digits is_signed p;
  packed = λ count signed. any.held_packed count signed;
}
