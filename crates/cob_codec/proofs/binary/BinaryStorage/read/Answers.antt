use Rattle.cob_codec.proofs.SignLemmas.{only_from}
use Rattle.cob_codec.proofs.BinaryLaws.{one_number}
use Rattle.cob_codec.proofs.binary.BinaryStorage.read.Goals as goal

pub returns-clause-only : goal.returns-clause-only
returns-clause-only c = λ negative digits it.
    only_from c.read_binary.result _ _ _ c.read_binary.ensures.found c.read_binary.ensures.none (λ none. none negative digits it)
    (λ v found. one_number c.args.shape.now.digits c.args.shape.now.signed c.args.bytes.now v.negative negative v.digits digits found it)
