use Rattle.cob_convert_stream.proofs.Lengths.{gives_length}
use Rattle.cob_convert_record.proofs.lengths.judge_current.Goals as goal

pub returns-in-Ok-clause-sized : goal.returns-in-Ok-clause-sized
returns-in-Ok-clause-sized c =
    c.in-Ok.ensures.sized c.args.layout.now (gives_length c.args.layout.now c.args.input.now c.input_length.result c.input_length.ensures.ok c.input_length.ensures.err)

pub returns-in-Err-clause-misfit : goal.returns-in-Err-clause-misfit
returns-in-Err-clause-misfit c =
    (c.in-Err.why, c.in-Err.ensures.misfit c.args.layout.now (gives_length c.args.layout.now c.args.input.now c.input_length.result c.input_length.ensures.ok c.input_length.ensures.err), c.of_misfit.ensures.reason)
