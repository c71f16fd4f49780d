use Rattle.std.proofs.Common.{◌≡◌, [], map, ◌∙◌}
use Rattle.std.proofs.lemmas.Result.{IfOk-weaker}
use Rattle.cob_move_data.specs.declared.operands.Side.TheVariants.{In, Out}
use Rattle.cob_move_names.specs.Candidates.{all_entries, candidates}
use Rattle.cob_move_names.specs.Directory.{entries_named, values_named}
use Rattle.cob_move_names.specs.Listed.{candidate_of, valued_of}
use Rattle.cob_move_names.specs.Valued.{all_values, named_values, plain_names}
use Rattle.cob_move_names.proofs.ValuedLemmas.{both_listed, both_valued, listed_known}
use Rattle.cob_move_names.proofs.directory.Names.with_conditions.Goals as goal

pub listed-requires : goal.listed-requires
listed-requires c =
    let input = c.args.input.now in
    let output = c.args.output.now in
    let names = plain_names c.args.conditions in
    let entries = both_listed c.new-entries.result.items c.list_record.new.entries.items c.list_record-2.new.entries.items (candidates In [] [] input) (candidates Out [] [] output) c.new-entries.ensures.items c.in_ok-list_record.ensures.entries c.in_ok-list_record-2.ensures.entries in
    let values = both_valued c.new-values.result.items c.list_record.new.values.items c.list_record-2.new.values.items (named_values (candidates In [] [] input) names.input) (named_values (candidates Out [] [] output) names.output) c.new-values.ensures.items c.in_ok-list_record.ensures.values c.in_ok-list_record-2.ensures.values in
    record {
      held = listed_known c.list_record-2.new.entries.items c.list_record-2.new.values.items input output names (c.records_are_sound.ensures input c.root.ensures.record).numbered (c.records_are_sound.ensures output c.root-2.ensures.record).numbered entries values;
    }

pub returns-clause-entries : goal.returns-clause-entries
returns-clause-entries c =
    let entries = both_listed c.new-entries.result.items c.list_record.new.entries.items c.list_record-2.new.entries.items (candidates In [] [] c.args.input.now) (candidates Out [] [] c.args.output.now) c.new-entries.ensures.items c.in_ok-list_record.ensures.entries c.in_ok-list_record-2.ensures.entries in
    IfOk-weaker c.listed.result (λ n. entries_named n ≡ map candidate_of c.list_record-2.new.entries.items) (λ n. entries_named n ≡ all_entries c.args.input.now c.args.output.now) (λ n is. is ∙ entries) c.listed.ensures.entries

pub returns-clause-values : goal.returns-clause-values
returns-clause-values c =
    let input = c.args.input.now in
    let output = c.args.output.now in
    let names = plain_names c.args.conditions in
    let values = both_valued c.new-values.result.items c.list_record.new.values.items c.list_record-2.new.values.items (named_values (candidates In [] [] input) names.input) (named_values (candidates Out [] [] output) names.output) c.new-values.ensures.items c.in_ok-list_record.ensures.values c.in_ok-list_record-2.ensures.values in
    IfOk-weaker c.listed.result (λ n. values_named n ≡ map valued_of c.list_record-2.new.values.items) (λ n. values_named n ≡ all_values input output names) (λ n is. is ∙ values) c.listed.ensures.values
