use Rattle.std.proofs.Common.{◌≡◌, ◌∙◌, ◌<◌, List, length, refl, subst, sym}
use Rattle.std.specs.List.{slice_get}
use Rattle.std.proofs.lemmas.Option.{same_Some, slice_get_read}
use Rattle.cob_codec.specs.declared.reading.Reading.{Reading}
use Rattle.cob_move_data.specs.Moves.{Records}
use Rattle.cob_move_apply.specs.declared.placed.PlacedEntry.{PlacedEntry}
use Rattle.cob_move_condition.specs.Conditions.{condition_of}
use Rattle.cob_move_condition.specs.Says.{Says}
use Rattle.cob_move_condition.specs.Tested.{MayBeTested}
use Rattle.cob_move_condition.specs.declared.condition.Condition.{Condition}
use Rattle.cob_move_deeds.specs.Carrying.{records_of_sides}
use Rattle.cob_move_deeds.specs.Flows.{FlowSupport, sender_placed}
use Rattle.cob_move_deeds.specs.Prepared.{IsThere, flow_support, kind_at, kind_placed}
use Rattle.cob_move_deeds.specs.Tests.{GivesIn, LacksIn}
use Rattle.cob_move_deeds.proofs.GivingLemmas.{condition_at, reads_of}
use Rattle.cob_move_deeds.proofs.carrying.condition_said.Goals as goal

pub says-requires-clause-tested : goal.says-requires-clause-tested
says-requires-clause-tested c =
    let r : Records = records_of_sides c.args.sides.now in
    let on : FlowSupport = flow_support c.args.deeds.now in
    subst (λ (es : List PlacedEntry). MayBeTested (λ n. n < length es) (λ n. kind_placed r (slice_get es n)) c.index.result.now) (sym c.as_slice.ensures.value)
    (condition_at (λ (k : Condition). MayBeTested (IsThere on) (kind_at r on) k) c.args.number c.args.deeds.now.asked.conditions.items c.index.result.now c.requires.there c.index.ensures c.requires.prepared.asked.conditions)

pub returns-clause-says : goal.returns-clause-says
returns-clause-says c = λ k at.
    let r : Records = records_of_sides c.args.sides.now in
    let conditions = c.args.deeds.now.asked.conditions.items in
    let input = c.args.sides.now.input.now in
    let output = c.args.output.now in
    let here : c.index.result.now ≡ k = same_Some _ _ (sym (slice_get_read conditions (length conditions) c.args.number c.index.result.now refl c.requires.there c.index.ensures) ∙ at) in
    let of_entries = subst (λ (es : List PlacedEntry). Says (GivesIn r input output) (LacksIn r input output) (condition_of (λ n. sender_placed r c.reading.result (slice_get es n)) c.index.result.now) c.says.result) c.as_slice.ensures.value c.says.ensures.says in
    let entries = c.args.deeds.now.asked.entries.items in
    let of_reading = subst (λ (x : Reading). Says (GivesIn r input output) (LacksIn r input output) (condition_of (λ n. sender_placed r x (slice_get entries n)) c.index.result.now) c.says.result) c.reading.ensures of_entries in
    let reading = c.args.deeds.now.moves.moves.reading in
    subst (λ (d : Condition). Says (GivesIn r input output) (LacksIn r input output) (condition_of (λ n. sender_placed r reading (slice_get entries n)) d) c.says.result) here of_reading

pub returns-clause-reads : goal.returns-clause-reads
returns-clause-reads c = reads_of c.args.sides.now.output_layout.now c.says.result c.args.scratch.now c.says.new.room c.says.ensures.went c.says.ensures.halted
