-- Whose condition-names are drawn.
use Rattle.std.specs.Prelude.{◌≡◌}
use Rattle.cob_report_map.specs.declared.lines.Sides.{Sides}
use Rattle.cob_report_map.specs.declared.page.ConditionNames.{ConditionNames}

-- each record is drawn with the condition-names of its own copybook
abbrev pub HaveNamesOf : ConditionNames → Sides → Type 0
HaveNamesOf names sides = (sides.input.names.now ≡ names.input.now) × (sides.output.names.now ≡ names.output.now)
