use Rattle.std.proofs.Common.{rules, drop, ◌+◌, sym}
use Rattle.std.specs.List.{flat_map}
use Rattle.std.proofs.Output.{has_written_of_eq}
use Rattle.cob_copybook_conditions.specs.Names.{plain_condition_name}
use Rattle.cob_copybook_conditions.specs.declared.names.ConditionName.{ConditionName}
use Rattle.cob_report_boxes.specs.Conditions.{name_row_of}
use Rattle.cob_report_boxes.proofs.WrittenLemmas.{all_written, each_of_map, more_written, no_texts_left, none_written, texts_left}
use Rattle.cob_report_boxes.proofs.conditions.write_rows.Goals as goal

pub loop-name-init : goal.loop-name-init
loop-name-init g c = λ plain. none_written _ c.args.f.now (flat_map (λ (n : ConditionName). name_row_of c.args.number (plain_condition_name n)) c.args.names.now) plain

pub loop-name-preserved : goal.loop-name-preserved
loop-name-preserved g c = λ plain.
    let text = (λ (n : ConditionName). name_row_of c.args.number (plain_condition_name n)) in
    let i = c.loop-name.name-index in
    let so_far = c.loop-name.invariant plain in
    let wrote = so_far.1 in
    more_written _ c.args.f.now c.loop-name.f c.write_row_of.new.f (flat_map text c.args.names.now) (flat_map text (drop i c.args.names.now)) (text c.name-item.result)
    (flat_map text (drop (i + 1) c.args.names.now)) so_far (texts_left text c.args.names.now i c.name-item.result c.loop-name-test.true c.name-item.is) (search rules)

pub returns : goal.returns
returns g c = λ plain _.
    let text = (λ (n : ConditionName). name_row_of c.args.number (plain_condition_name n)) in
    has_written_of_eq _ _ _ _ _ (sym (each_of_map plain_condition_name (name_row_of c.args.number) c.args.names.now))
    (all_written _ c.args.f.now c.loop-name.f (flat_map text c.args.names.now) (flat_map text (drop c.loop-name.name-index c.args.names.now))
    (c.loop-name.invariant plain) (no_texts_left text c.args.names.now c.loop-name.name-index c.loop-name-test.false))
