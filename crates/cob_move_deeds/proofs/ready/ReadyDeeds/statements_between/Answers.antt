use Rattle.cob_move_deeds.proofs.ready.ReadyDeeds.statements_between.Goals as goal

pub statements_between-requires-clause-prepared : goal.statements_between-requires-clause-prepared
statements_between-requires-clause-prepared c = (c.requires.prepared.0, c.requires.prepared.1.moves)
