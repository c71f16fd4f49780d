use Rattle.cob_codec.proofs.HalfLemmas.{none_from, some_always}
use Rattle.cob_codec.proofs.ZonedFlawLemmas.{zoned_from}
use Rattle.cob_codec.proofs.zoned_flaws.zoned_flaw.Goals as goal

pub returns-in-None-clause-only : goal.returns-in-None-clause-only
returns-in-None-clause-only c = some_always c.first_in_zoned.result _ (λ negative digits is. c.in-None.ensures.only negative digits is)

pub returns-in-None-clause-none : goal.returns-in-None-clause-none
returns-in-None-clause-none c =
    none_from c.first_in_zoned.result _ _ c.first_in_zoned.ensures.none
    (λ all. zoned_from c.args.shape.now.digits c.args.shape.now.signed c.args.shape.now.leading c.args.bytes.now c.args.shape.now.some c.requires all)
