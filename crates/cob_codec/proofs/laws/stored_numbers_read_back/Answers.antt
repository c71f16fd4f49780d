use Rattle.cob_codec.proofs.ZonedLaws as zoned
use Rattle.cob_codec.proofs.SeparateLaws as separate
use Rattle.cob_codec.proofs.PackedLaws as packed
use Rattle.cob_codec.proofs.BinaryLaws as binary
use Rattle.cob_codec.proofs.laws.stored_numbers_read_back.Goals as goal

pub returns : goal.returns
returns c = record {
  zoned = λ count signed leading some negative digits number. zoned.reads_back count signed leading negative digits some number;
  separate = λ count signed leading negative digits number. separate.reads_back count signed leading negative digits number;
  packed = λ count signed negative digits number. packed.reads_back count signed negative digits number;
  binary = λ count signed few negative digits number. binary.reads_back count signed negative digits few number;
}
