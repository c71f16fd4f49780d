use Rattle.cob_codec.proofs.HalfLemmas.{none_from, some_always}
use Rattle.cob_codec.proofs.PackedFlawLemmas.{packed_from}
use Rattle.cob_codec.proofs.packed_flaws.packed_flaw.Goals as goal

pub returns-in-None-clause-only : goal.returns-in-None-clause-only
returns-in-None-clause-only c = some_always c.first_in_packed.result _ (λ negative digits is. c.in-None.ensures.only negative digits is)

pub returns-in-None-clause-none : goal.returns-in-None-clause-none
returns-in-None-clause-none c =
    none_from c.first_in_packed.result _ _ c.first_in_packed.ensures.none
    (λ all. packed_from c.args.shape.now.digits c.args.shape.now.signed c.args.bytes.now c.requires all)
