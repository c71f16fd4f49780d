use Rattle.cob_move_deeds.proofs.ready.ReadyDeeds.marks_of.Goals as goal
