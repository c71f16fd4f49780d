-- The rows of condition-names on the page of a map.
use Rattle.std.specs.Prelude.{ℕ, ◌==◌, if◌then◌else◌, List, [], ◌++◌, codes, flat_map}
use Rattle.cob_copybook_conditions.specs.Names.{PlainConditionName}
use Rattle.cob_report_show.specs.Conditions.{span_text}
use Rattle.cob_report_boxes.specs.Shown.{shown}

-- what is said of a condition-name: its level, its name, and behind a space each its values, as a source text writes them
abbrev pub name_text : PlainConditionName → List ℕ
name_text n = codes "88 " ++ (n.name ++ flat_map span_text n.values)

-- the row of a condition-name: what is said of it, which is told too where the pointer rests on it
abbrev pub name_row : PlainConditionName → List ℕ
name_row n =
    codes "<div class=\"n\" title=\"" ++ (shown (name_text n) ++ (codes "\">" ++ (shown (name_text n) ++ codes "</div>\n")))

-- the row of a condition-name where it stands behind the entry with this number
abbrev pub name_row_of : ℕ → PlainConditionName → List ℕ
name_row_of number n = if n.entry == number then name_row n else []

-- the rows of the condition-names that stand behind the entry with this number, in their order
abbrev pub name_rows : List PlainConditionName → ℕ → List ℕ
name_rows names number = flat_map (name_row_of number) names
