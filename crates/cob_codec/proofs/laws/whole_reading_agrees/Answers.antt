use Rattle.std.proofs.Common.{sym, ◌∙◌}
use Rattle.cob_decimal.specs.Decimal.{number_of}
use Rattle.cob_codec.proofs.BinaryLaws.{same_signed}
use Rattle.cob_codec.proofs.laws.whole_reading_agrees.Goals as goal

pub returns : goal.returns
returns c = λ count signed bytes a b ds es p q.
    same_signed a b (number_of ds) (number_of es) p.nonzero q.nonzero (p.value ∙ sym q.value)
