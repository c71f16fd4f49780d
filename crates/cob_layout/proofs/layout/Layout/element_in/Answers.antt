use Rattle.std.proofs.Common.{◌∙◌, ap, arith, length, sym}
use Rattle.cob_layout.proofs.EndLemmas.{same}
use Rattle.cob_layout.proofs.layout.Layout.element_in.Goals as goal

pub first_in-requires-clause-none : goal.first_in-requires-clause-none
first_in-requires-clause-none c = same (length c.args.reference.now.subscripts.items) 0 (sym c.is_empty.ensures ∙ c.if-is_empty.true)
