-- Which entry a written reference names, and which rule it breaks.
use Rattle.std.specs.Prelude.{◌≡◌, ℕ, ◌<◌, ◌≤◌, List, [], ◌∷◌, length, map}
use Rattle.cob_limits.specs.Limits.{most_digits}
use Rattle.cob_decimal.specs.Decimal.{number_of}
use Rattle.cob_decimal.specs.Literals.{AreDigits, digits_in}
use Rattle.cob_move_data.specs.declared.operands.Side.{Side}
use Rattle.cob_move_data.specs.declared.operands.Side.TheVariants.{In}
use Rattle.cob_move_data.specs.declared.operands.Operand.{Operand}
use Rattle.cob_move_statements.specs.declared.fault.MoveRule.{MoveRule}
use Rattle.cob_move_statements.specs.declared.fault.MoveRule.TheVariants as rule
use Rattle.cob_move_statements.specs.Written.{WrittenReference}
use Rattle.cob_copybook_names.specs.Naming.{named}
use Rattle.cob_move_names.specs.Candidates.{Candidate, RecordEntry}

-- The number that a subscript's digits spell.
abbrev pub subscript_number : List ℕ → ℕ
subscript_number text = number_of (digits_in text)

-- The numbers that subscripts spell.
abbrev pub subscript_numbers : List (List ℕ) → List ℕ
subscript_numbers texts = map subscript_number texts

-- A subscript of a table is a whole literal without a sign, with no more digits than a literal has, which spells a number from 1 to the table's
-- greatest number.
pub record IsSubscriptOf (most : ℕ) (text : List ℕ) : Type 0 where
  pub digits : AreDigits text
  pub few : length text ≤ most_digits
  pub first : 0 < subscript_number text
  pub last : subscript_number text ≤ most

-- There is one subscript for each table, in order, and no other.
abbrev pub AreSubscriptsOf : List ℕ → List (List ℕ) → Type 0
AreSubscriptsOf [] [] = Unit {0}
AreSubscriptsOf [] (text ∷ texts) = ⊥
AreSubscriptsOf (most ∷ tables) [] = ⊥
AreSubscriptsOf (most ∷ tables) (text ∷ texts) = IsSubscriptOf most text × AreSubscriptsOf tables texts

-- An entry with subscripts.
abbrev pub entry_operand : RecordEntry → List ℕ → Operand
entry_operand e subscripts = record { entry = record { node = e.number; subscripts = record { items = subscripts } }; kind = e.kind }

-- The same of an entry with its names.
abbrev pub operand : Candidate → List ℕ → Operand
operand c subscripts = entry_operand c.entry subscripts

-- A reference names an operand of this side's record: of all entries of the two records exactly one has its name and qualifiers, and its
-- subscripts are those of that entry's tables.
pub record NamesOperand (all : List Candidate) (r : WrittenReference) (side : Side) (o : Operand) : Type 0 where
  pub bearer : Candidate
  pub only : named r.name r.qualifiers all ≡ bearer ∷ []
  pub subscripts : AreSubscriptsOf bearer.entry.tables r.subscripts
  pub stands : side ≡ bearer.entry.side
  pub is : o ≡ operand bearer (subscript_numbers r.subscripts)

-- The entries that a name with its qualifiers names break a rule: there is none, or there are several.
abbrev pub BreaksName : MoveRule → List Candidate → Type 0
BreaksName rule.Unknown cs = cs ≡ []
BreaksName rule.Ambiguous cs = 1 < length cs
BreaksName other cs = ⊥

-- A reference breaks a rule: its name and qualifiers name no entry, or several, or one whose tables haven't these subscripts.
abbrev pub BreaksReference : MoveRule → List Candidate → WrittenReference → Type 0
BreaksReference rule.Subscripts all r = (c : Candidate) × (named r.name r.qualifiers all ≡ c ∷ []) × (AreSubscriptsOf c.entry.tables r.subscripts → ⊥)
BreaksReference other all r = BreaksName other (named r.name r.qualifiers all)

-- A receiver breaks a rule as any reference does, or by standing in the input record.
abbrev pub BreaksReceiver : MoveRule → List Candidate → WrittenReference → Type 0
BreaksReceiver rule.Receiver all r = (o : Operand) × NamesOperand all r In o
BreaksReceiver other all r = BreaksReference other all r
