use Rattle.std.proofs.Common.{◌∙◌, ap, arith, length, sym}
use Rattle.cob_layout.proofs.EndLemmas.{same}
use Rattle.cob_layout.proofs.layout.Layout.element_or_apart.Goals as goal

pub first_in-requires-clause-none : goal.first_in-requires-clause-none
first_in-requires-clause-none c = omega (arith, ap length c.as_slice.ensures.value, same (length c.as_slice.result.now) 0 (sym c.is_empty.ensures ∙ c.if-is_empty.true))
