-- What is told of a record.
use Rattle.std.specs.Prelude.{◌≡◌, false}
use Rattle.cob_convert_stream.specs.Reasons.{is_write_cause}
use Rattle.cob_report_explain.specs.declared.explainer.Explanation.{Explanation}
use Rattle.cob_report_explain.specs.declared.explainer.Explanation.TheVariants as told

-- what stops a record that is told of is no fault of writing
abbrev pub IsExplanation : Explanation → Type 0
IsExplanation (told.Missing records) = Unit {0}
IsExplanation told.Converts = Unit {0}
IsExplanation (told.Stops stopped) = is_write_cause stopped.fault.cause ≡ false
IsExplanation (told.Refused stopped) = is_write_cause stopped.fault.cause ≡ false
