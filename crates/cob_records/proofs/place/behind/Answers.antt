use Rattle.std.proofs.Common.{◌≡◌, ◌∷◌, ◌++◌, [], take, refl, sym, subst, arith, List, ℕ}
use Rattle.std.proofs.lemmas.Grind.{common_steps}
use Rattle.cob_records.specs.Frame.{descriptor}
use Rattle.cob_records.specs.Progress.{IsLost}
use Rattle.cob_records.proofs.Placing.{byte_more, past_lost, record_begins}
use Rattle.cob_records.proofs.place.behind.Goals as goal

pub returns-in-Some-clause-at : goal.returns-in-Some-clause-at
returns-in-Some-clause-at c = λ left bytes (lead, before, is).
    let whole : take c.args.seen c.args.head ++ c.args.byte ∷ [] ≡ descriptor c.in-Ok.left = grind (arith, common_steps) in
    record_begins c.args.form c.args.greatest left c.args.room c.in-Ok.left c.in-Some.room lead (bytes ++ c.args.byte ∷ []) before c.in-Ok.ensures.2 (rw c.from.ensures at c.in-Ok.ensures.3)
    (byte_more c.args.seen c.args.byte lead bytes c.args.head (descriptor c.in-Ok.left) is whole) c.in-Some.ensures.within

pub returns-in-None-clause-at : goal.returns-in-None-clause-at
returns-in-None-clause-at c = λ left bytes (lead, before, is).
    let whole : take c.args.seen c.args.head ++ c.args.byte ∷ [] ≡ descriptor c.in-Ok.left = grind (arith, common_steps) in
    subst (λ (xs : List ℕ). IsLost c.args.form c.args.greatest left xs) (sym (byte_more c.args.seen c.args.byte lead bytes c.args.head (descriptor c.in-Ok.left) is whole))
    (past_lost c.args.form c.args.greatest left c.args.room c.in-Ok.left lead (descriptor c.in-Ok.left) c.requires.greatest c.requires.form before refl c.in-Ok.ensures.2 (rw c.from.ensures at c.in-Ok.ensures.3) c.in-None.ensures.past)
