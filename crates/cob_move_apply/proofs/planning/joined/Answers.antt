use Rattle.std.proofs.Common.{subst}
use Rattle.cob_move_apply.specs.Steps.{IsStep}
use Rattle.cob_move_apply.specs.declared.step.Step.{Step}
use Rattle.cob_move_apply.proofs.CopyLemmas.{copied_both}
use Rattle.cob_move_apply.proofs.planning.joined.Goals as goal

pub returns-in_ok-both_copies-in-Copy-clause-copied : goal.returns-in_ok-both_copies-in-Copy-clause-copied
returns-in_ok-both_copies-in-Copy-clause-copied c = λ x r given on own next is copied.
    copied_both r c.in-Copy.front.from c.in-Copy.front.to c.args.places.from c.args.places.to c.in_ok-both_copies-in-Copy.field-0.from c.in_ok-both_copies-in-Copy.field-0.to own next
    c.in_ok-both_copies-in-Copy.ensures.from c.in_ok-both_copies-in-Copy.ensures.to (subst (λ (s : Step). IsStep x r given on s own) c.in-Copy.is is) copied
