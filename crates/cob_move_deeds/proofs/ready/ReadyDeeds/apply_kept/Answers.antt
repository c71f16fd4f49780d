use Rattle.std.proofs.Common.{◌∙◌, List, Result, subst, sym}
use Rattle.cob_move_data.specs.Moves.{Records}
use Rattle.cob_move_apply.specs.Applied.{ending}
use Rattle.cob_move_apply.specs.declared.stop.Stop.{Stop}
use Rattle.cob_move_deeds.specs.Deeds.{Carried}
use Rattle.cob_move_deeds.specs.Flows.{FlowSupport}
use Rattle.cob_move_deeds.specs.Prepared.{deeds_of, flow_support}
use Rattle.cob_move_deeds.specs.Tests.{Judged}
use Rattle.cob_move_deeds.specs.declared.flow.Flow.{Flow}
use Rattle.cob_move_deeds.proofs.AtOnceLemmas.{all_carried, all_reads}
use Rattle.cob_move_deeds.proofs.FlowLemmas.{flows_carried}
use Rattle.cob_move_deeds.proofs.ReadLemmas.{deeds_reads}
use Rattle.cob_move_deeds.proofs.ready.ReadyDeeds.apply_kept.Goals as goal

pub returns-then-self-clause-carried : goal.returns-then-self-clause-carried
returns-then-self-clause-carried c =
    let r : Records = record { input = c.args.input_layout.now; output = c.args.output_layout.now } in
    let d = c.args.self.now in
    all_carried r (flow_support d) d.flows.items c.args.input.now c.args.output.now (ending c.apply_all.result c.apply_all.new.output) (sym d.told ∙ c.if-self.true) c.requires.prepared.moves c.requires.prepared.flows.each
    c.apply_all.ensures.applied

pub returns-then-self-clause-reads : goal.returns-then-self-clause-reads
returns-then-self-clause-reads c =
    let r : Records = record { input = c.args.input_layout.now; output = c.args.output_layout.now } in
    let d = c.args.self.now in
    let on : FlowSupport = flow_support d in
    let all : List Flow = d.flows.items in
    deeds_reads r on all c.args.input.now c.args.output.now c.apply_all.result c.forget_output.new.self c.apply_all.new.scratch c.tests_are_one.ensures c.one_ending.ensures c.requires.prepared.flows.each
    c.requires.prepared.flows.nested c.forget_output.ensures.none (c.forget_output.ensures.unkept r.output)
    (all_reads r on all c.args.input.now c.args.output.now c.apply_all.result c.forget_output.new.self c.apply_all.new.scratch (sym d.told ∙ c.if-self.true) c.requires.prepared.moves c.requires.prepared.flows.each
    c.apply_all.ensures.reads)

pub returns-clause-carried : goal.returns-clause-carried
returns-clause-carried c =
    let r : Records = record { input = c.args.input_layout.now; output = c.args.output_layout.now } in
    let d = c.args.self.now in
    subst (λ (a : Result (Unit {0}) Stop). Carried (Judged r) r (deeds_of r d) c.args.input.now c.args.output.now (ending a c.carry_out.new.output)) (sym c.parts_again.ensures)
    (flows_carried r (flow_support d) d.flows.items c.args.input.now c.args.output.now (ending c.carry_out.result c.carry_out.new.output) c.requires.prepared.flows.each c.requires.prepared.flows.nested c.carry_out.ensures.carried)

pub returns-clause-reads : goal.returns-clause-reads
returns-clause-reads c =
    let r : Records = record { input = c.args.input_layout.now; output = c.args.output_layout.now } in
    deeds_reads r (flow_support c.args.self.now) c.args.self.now.flows.items c.args.input.now c.args.output.now c.carry_out.result c.forget_output.new.self c.carry_out.new.scratch
    c.tests_are_one.ensures c.one_ending.ensures c.requires.prepared.flows.each c.requires.prepared.flows.nested c.forget_output.ensures.none (c.forget_output.ensures.unkept r.output) c.carry_out.ensures.reads
