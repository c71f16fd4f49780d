use Rattle.std.proofs.Common.{◌∙◌}
use Rattle.cob_codec.proofs.ZonedLaws as laws
use Rattle.cob_codec.proofs.zoned.ZonedStorage.laws.Goals as goal

pub returns : goal.returns
returns c = record {
  stored_length = λ shape taken negative digits number. laws.stored_length shape.signed shape.leading negative digits ∙ number.count_is;
  reads_back = λ shape taken negative digits number. laws.reads_back shape.digits shape.signed shape.leading negative digits shape.some number;
  one_number = λ shape taken bytes a b ds es p q. laws.one_number shape.digits shape.signed shape.leading bytes a b ds es p q;
  held = λ shape taken bytes negative digits p. laws.held_zoned shape.digits shape.signed shape.leading bytes negative digits p;
}
