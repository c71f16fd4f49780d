use Rattle.cob_codec.proofs.BinaryLaws as laws
use Rattle.cob_codec.proofs.binary.BinaryStorage.laws.Goals as goal

pub returns : goal.returns
returns c = record {
  stored_length = λ shape few negative digits number. laws.stored_length shape.digits negative digits;
  reads_back = λ shape few negative digits number. laws.reads_back shape.digits shape.signed negative digits few number;
  one_number = λ shape taken bytes a b ds es p q. laws.one_number shape.digits shape.signed bytes a b ds es p q;
  held = λ shape taken bytes negative digits p. laws.held_binary shape.digits shape.signed bytes negative digits p;
}
