use Rattle.cob_move_steps.proofs.long_step.LongStep.run.Goals as goal

pub returns-in-Text-clause-gets : goal.returns-in-Text-clause-gets
returns-in-Text-clause-gets c = c.run_edited.ensures.gets c.in-Text.is

pub returns-in_default-clause-gets : goal.returns-in_default-clause-gets
returns-in_default-clause-gets c = c.put.ensures.gets c.args.from.now c.read-read.ensures
