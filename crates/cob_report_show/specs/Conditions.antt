-- The lines that are printed of the condition-names of an entry.
use Rattle.std.specs.Prelude.{ℕ, ◌==◌, if◌then◌else◌, List, [], ◌∷◌, ◌++◌, codes, flat_map}
use Rattle.cob_copybook_conditions.specs.Names.{PlainConditionName, PlainSpan, One, FromTo}
use Rattle.cob_report_show.specs.Constants.{constant_text}

-- a value behind a space, or two with THRU between them
abbrev pub span_text : PlainSpan → List ℕ
span_text (One v) = 32 ∷ constant_text v
span_text (FromTo v w) = 32 ∷ (constant_text v ++ (codes " THRU " ++ constant_text w))

-- what stands in front of the values of a condition-name: its level and its name
abbrev pub name_front : List ℕ → List ℕ
name_front name = codes "  88 " ++ (name ++ 32 ∷ [])

-- the line of a condition-name: its level, its name and its values
abbrev pub name_line : PlainConditionName → List ℕ
name_line n = name_front n.name ++ (flat_map span_text n.values ++ 10 ∷ [])

-- the line of a condition-name where it stands behind the entry with this number
abbrev pub name_line_of : ℕ → PlainConditionName → List ℕ
name_line_of number n = if n.entry == number then name_line n else []

-- the lines of the condition-names that stand behind the entry with this number, in their order
abbrev pub name_lines : List PlainConditionName → ℕ → List ℕ
name_lines names number = flat_map (name_line_of number) names
