use Rattle.std.proofs.Common.{◌∙◌, List, ap, length, map, sym, ℕ}
use Rattle.cob_move_data.specs.Moves.{Move, read_by}
use Rattle.cob_move_deeds.specs.AtOnce.{are_all_moves}
use Rattle.cob_move_deeds.specs.Deeds.{Deeds, moves_of_deeds}
use Rattle.cob_move_deeds.specs.Prepared.{deeds_of, flow_support}
use Rattle.cob_move_deeds.specs.Tests.{Test}
use Rattle.cob_move_deeds.proofs.ReadingLemmas.{flows_read, flows_still, moves_read, same_marks}
use Rattle.cob_move_deeds.proofs.SteadyLemmas.{steady_noted_read}
use Rattle.cob_move_deeds.proofs.ready.ReadyDeeds.with_reading.Goals as goal

pub returns-clause-deeds : goal.returns-clause-deeds
returns-clause-deeds c r =
    flows_read c.args.reading r (flow_support c.args.self) c.with_reading.result c.with_reading.ensures.reading (λ from to. c.with_reading.ensures.between r from to) (length c.args.self.flows.items) c.args.self.flows.items

pub returns-clause-prepared : goal.returns-clause-prepared
returns-clause-prepared c r prepared = record {
  moves = c.with_reading.ensures.prepared r prepared.moves;
  bounds = prepared.bounds;
  asked = record { entries = prepared.asked.entries; conditions = prepared.asked.conditions };
  flows = record { each = flows_still (flow_support c.args.self) c.with_reading.result c.with_reading.ensures.ends c.args.self.flows.items prepared.flows.each; nested = prepared.flows.nested };
  steady = steady_noted_read (λ noted. noted.items) c.args.reading r c.args.self.moves c.with_reading.result c.args.self.bounds.items c.args.self.steady (λ from to. c.with_reading.ensures.between r from to)
      (same_marks c.args.self.moves c.with_reading.result c.with_reading.ensures.ends) prepared.steady;
  tests = prepared.tests;
}

pub returns-clause-whole : goal.returns-clause-whole
returns-clause-whole c r whole =
    ap (λ (d : Deeds Test). moves_of_deeds d)
    (flows_read c.args.reading r (flow_support c.args.self) c.with_reading.result c.with_reading.ensures.reading (λ from to. c.with_reading.ensures.between r from to) (length c.args.self.flows.items) c.args.self.flows.items)
    ∙ moves_read c.args.reading (deeds_of r c.args.self)
    ∙ ap (λ (ms : List Move). map (read_by c.args.reading) ms) whole
    ∙ sym (c.with_reading.ensures.moves r)

pub invariant_of-result : goal.invariant_of-result
invariant_of-result c = record {
  told = c.args.self.told
      ∙ ap (λ (n : ℕ). are_all_moves n c.args.self.flows.items) (sym (same_marks c.args.self.moves c.with_reading.result c.with_reading.ensures.ends));
}
