use Rattle.cob_report_compare.proofs.turns.tell_single.Goals as goal

pub returns-in-Ok-clause-tells : goal.returns-in-Ok-clause-tells
returns-in-Ok-clause-tells g c = (rw (c.told.ensures, c.deref.ensures.value) at c.in-Ok.ensures.text, c.with_alone.ensures)
