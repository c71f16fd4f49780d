use Rattle.std.proofs.Common.{◌∙◌, ap, arith, refl}
use Rattle.cob_layout.proofs.ElementLemmas.{first_stored}
use Rattle.cob_layout.specs.Standing.{Standing}
use Rattle.cob_layout.proofs.counts.Counts.place_of.Goals as goal

pub returns-in-Some-Some : goal.returns-in-Some-Some
returns-in-Some-Some c =
    let (others, same) = first_stored c.deref.result.now c.args.self.now.kept c.in-Some-Some.field-0.now c.in-Some-Some.stored (c.deref.ensures.value ∙ ap (λ (s : Standing). s.kept) c.self.view_is) c.in-Some-Some.ensures.value c.in-Some-Some.field-0-is in
    record { there = (refl, (c.in-Some-Some.stored, others, same, omega (arith, c.if-stored-element.true))) }
