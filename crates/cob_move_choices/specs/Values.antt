-- The values that a WHEN lists.
use Rattle.std.specs.Prelude.{◌≡◌, ◌⊎◌, codes, List, [], ◌∷◌, ◌++◌}
use Rattle.cob_source.specs.Tokens.{Lexeme}
use Rattle.cob_copybook_clauses.specs.Clauses.{IsWord}
use Rattle.cob_copybook_clauses.specs.Written.{WrittenValue, written_value}
use Rattle.cob_move_conditions.specs.Operands.{IsWrittenOperand}
use Rattle.cob_move_data.specs.Moves.{Sender}
use Rattle.cob_move_names.specs.Candidates.{Candidate}
use Rattle.cob_move_statements.specs.Written.{SentConstant}
use Rattle.cob_move_tests.specs.Meant.{IsOperandOf}
use Rattle.cob_move_tests.specs.Spans.{FromTo, One, Span}
use Rattle.cob_move_choices.specs.declared.values.Listed.{Listed}
use Rattle.cob_move_choices.specs.declared.values.Listed.TheVariants as listed

-- a value, or two with THRU between them, as they are written
pub data WrittenSpan : Type 0 where
  OneWritten : WrittenValue → WrittenSpan
  FromToWritten : WrittenValue → WrittenValue → WrittenSpan

-- the values that words list, without where their texts lie in memory
abbrev pub written_span : Listed → WrittenSpan
written_span (listed.One v) = OneWritten (written_value v)
written_span (listed.FromTo v w) = FromToWritten (written_value v) (written_value w)

-- THRU, or THROUGH
abbrev pub IsThru : Lexeme → Type 0
IsThru w = IsWord (codes "THRU") w ⊎ IsWord (codes "THROUGH") w

-- the words of a value: a literal or a figurative constant
abbrev pub IsValueWritten : WrittenValue → List Lexeme → Type 0
IsValueWritten v ws = IsWrittenOperand (SentConstant v) ws

-- the words of a value, or of two with THRU between them
abbrev pub IsSpanWritten : WrittenSpan → List Lexeme → Type 0
IsSpanWritten (OneWritten v) ws = IsValueWritten v ws
IsSpanWritten (FromToWritten v w) ws = (from to : List Lexeme) × (thru : Lexeme)
    × IsValueWritten v from × IsThru thru × IsValueWritten w to × (ws ≡ from ++ thru ∷ to)

-- what is written means these values
abbrev pub IsSpanOf : List Candidate → WrittenSpan → Span → Type 0
IsSpanOf all (OneWritten v) s = (a : Sender) × IsOperandOf all (SentConstant v) a × (s ≡ One a)
IsSpanOf all (FromToWritten v w) s = (a b : Sender) × IsOperandOf all (SentConstant v) a × IsOperandOf all (SentConstant w) b × (s ≡ FromTo a b)
