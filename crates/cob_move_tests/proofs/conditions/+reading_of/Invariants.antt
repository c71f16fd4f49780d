use Rattle.cob_move_tests.proofs.conditions.+reading_of.Given as goal

abbrev pub decreases-reading_of : goal.decreases-reading_of
decreases-reading_of l = goal.size-reading_of l
