use Rattle.cob_program_compare.proofs.names.+list_entries.Given as goal

abbrev pub decreases-list_entries : goal.decreases-list_entries
decreases-list_entries l = goal.size-list_entries l
