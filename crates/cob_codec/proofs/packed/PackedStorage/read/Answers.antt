use Rattle.cob_codec.proofs.SignLemmas.{only_from}
use Rattle.cob_codec.proofs.PackedLaws.{one_number}
use Rattle.cob_codec.proofs.packed.PackedStorage.read.Goals as goal

pub returns-clause-only : goal.returns-clause-only
returns-clause-only c = λ negative digits it.
    only_from c.read_packed.result _ _ _ c.read_packed.ensures.found c.read_packed.ensures.none (λ none. none negative digits it)
    (λ v found. one_number c.args.shape.now.digits c.args.shape.now.signed c.args.bytes.now v.negative negative v.digits digits found it)
