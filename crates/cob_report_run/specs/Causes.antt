-- How many records are counted by the reasons for which they do not convert.
use Rattle.std.specs.Prelude.{ℕ, ◌+◌, List, [], ◌∷◌}
use Rattle.cob_report_run.specs.declared.causes.CauseCount.{CauseCount}
use Rattle.cob_report_run.specs.declared.causes.Causes.{Causes}

-- how many records these reasons have
unfoldable pub records_of : List CauseCount → ℕ
records_of [] = 0
records_of (count ∷ counts) = count.records + records_of counts

-- how many records are counted
abbrev pub all_in : Causes → ℕ
all_in causes = records_of causes.told.items + causes.others

-- as many as a count holds
abbrev pub greatest_count : ℕ
greatest_count = 18446744073709551615
