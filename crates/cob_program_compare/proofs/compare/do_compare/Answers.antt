use Rattle.cob_program_compare.proofs.compare.do_compare.Goals as goal

pub returns : goal.returns
returns g c = (c.compare_records_of.result, c.end_of.ensures)
