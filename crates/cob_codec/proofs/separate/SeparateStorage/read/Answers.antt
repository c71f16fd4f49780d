use Rattle.cob_codec.proofs.SignLemmas.{only_from}
use Rattle.cob_codec.proofs.SeparateLaws.{one_number}
use Rattle.cob_codec.proofs.separate.SeparateStorage.read.Goals as goal

pub returns-clause-only : goal.returns-clause-only
returns-clause-only c = λ negative digits it.
    only_from c.read_separate.result _ _ _ c.read_separate.ensures.found c.read_separate.ensures.none (λ none. none negative digits it)
    (λ v found. one_number c.args.shape.now.digits c.args.shape.now.leading c.args.bytes.now v.negative negative v.digits digits found it)
