use Rattle.cob_codec.proofs.HalfLemmas.{none_from, some_always}
use Rattle.cob_codec.proofs.SeparateFlawLemmas.{separate_from}
use Rattle.cob_codec.proofs.separate_flaws.separate_flaw.Goals as goal

pub returns-in-None-clause-only : goal.returns-in-None-clause-only
returns-in-None-clause-only c = some_always c.first_in_separate.result _ (λ negative digits is. c.in-None.ensures.only negative digits is)

pub returns-in-None-clause-none : goal.returns-in-None-clause-none
returns-in-None-clause-none c =
    none_from c.first_in_separate.result _ _ c.first_in_separate.ensures.none
    (λ all. separate_from c.args.shape.now.digits c.args.shape.now.signed c.args.shape.now.leading c.args.bytes.now c.requires.long all)
