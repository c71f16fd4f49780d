use Rattle.cob_codec.proofs.AnyZoneLaws as any
use Rattle.cob_codec.proofs.laws.strict_is_any.Goals as goal

pub returns : goal.returns
returns c = record {
  zoned = λ count signed leading. any.zoned_is_any count signed leading;
  separate = λ count leading. any.separate_is_any count leading;
  packed = λ count signed. any.packed_is_any count signed;
}
