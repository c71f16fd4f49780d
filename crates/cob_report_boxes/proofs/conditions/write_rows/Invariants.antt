-- The rows so far.
use Rattle.std.proofs.Common.{drop}
use Rattle.std.specs.List.{flat_map}
use Rattle.std.specs.Fmt.{IsPlainFormatter}
use Rattle.cob_copybook_conditions.specs.Names.{plain_condition_name}
use Rattle.cob_copybook_conditions.specs.declared.names.ConditionName.{ConditionName}
use Rattle.cob_report_boxes.specs.Conditions.{name_row_of}
use Rattle.cob_report_boxes.proofs.WrittenLemmas.{WroteSoFar}
use Rattle.cob_report_boxes.proofs.conditions.write_rows.Given as goal

abbrev pub invariant-loop-name : goal.invariant-loop-name
invariant-loop-name g l =
    IsPlainFormatter l.fn.f
    → WroteSoFar g.W.Write.write_str_gives l.fn.f (flat_map (λ (n : ConditionName). name_row_of l.number (plain_condition_name n)) l.names) (flat_map (λ (n : ConditionName). name_row_of l.number (plain_condition_name n)) (drop l.name-index l.names)) l.f
