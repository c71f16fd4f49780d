use Rattle.std.proofs.Common.{subst, sym}
use Rattle.cob_layout.specs.Standing.{IsRoomFor}
use Rattle.cob_convert_stream.proofs.Lengths.{gives_length, misfit_by, sized_by}
use Rattle.cob_convert_stream.proofs.misfit.measure_current.Goals as goal

pub returns : goal.returns
returns c =
    let gives = gives_length c.args.layout.now c.args.input.now c.current_length.result c.current_length.ensures.ok c.current_length.ensures.err in
    record {
      sized = sized_by c.args.layout.now c.args.input.now c.current_length.result c.measure_by.result gives c.measure_by.ensures.sized;
      misfit = misfit_by c.args.layout.now c.args.input.now c.current_length.result c.measure_by.result gives c.measure_by.ensures.misfit;
      room = subst (IsRoomFor c.args.layout.now) (sym c.current_length.ensures.same) c.requires.room;
    }
