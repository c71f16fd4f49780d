use Rattle.std.proofs.Common.{inl, inr}
use Rattle.cob_report_explain.proofs.walk.walk_record.Goals as goal

pub returns-in-Err-clause-stops : goal.returns-in-Err-clause-stops
returns-in-Err-clause-stops g c = record {
  initial = c.args.output.now;
  begins = c.requires.begins;
  last = c.walk_deeds.new.output;
  stops = inl c.in-Err.ensures.carried;
}

pub returns-in-Err-written_part-clause-stops : goal.returns-in-Err-written_part-clause-stops
returns-in-Err-written_part-clause-stops g c = record {
  initial = c.args.output.now;
  begins = c.requires.begins;
  last = c.walk_deeds.new.output;
  stops = inr (c.in-Ok.ensures.carried, c.in-Err-written_part.ensures.stops);
}
