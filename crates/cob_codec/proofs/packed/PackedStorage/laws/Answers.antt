use Rattle.cob_codec.proofs.PackedLaws as laws
use Rattle.cob_codec.proofs.packed.PackedStorage.laws.Goals as goal

pub returns : goal.returns
returns c = record {
  stored_length = λ shape taken negative digits number. laws.stored_length shape.digits shape.signed negative digits number.count_is;
  reads_back = λ shape taken negative digits number. laws.reads_back shape.digits shape.signed negative digits number;
  one_number = λ shape taken bytes a b ds es p q. laws.one_number shape.digits shape.signed bytes a b ds es p q;
  held = λ shape taken bytes negative digits p. laws.held_packed shape.digits shape.signed bytes negative digits p;
}
