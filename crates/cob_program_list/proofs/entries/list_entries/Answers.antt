use Rattle.cob_program_list.proofs.entries.list_entries.Goals as goal

pub returns : goal.returns
returns g c = c.listed.ensures.fault
