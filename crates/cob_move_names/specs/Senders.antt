-- What a sender means, and which rule it breaks.
use Rattle.std.specs.Prelude.{◌≡◌, List, Some}
use Rattle.cob_codec.specs.declared.reading.Reading.TheVariants.{Pictured}
use Rattle.cob_copybook_clauses.specs.Written.{WrittenValue}
use Rattle.cob_copybook_entry.specs.Described.{PlainValue}
use Rattle.cob_copybook_entries.specs.Books.{BreaksConstant, BreaksValue}
use Rattle.cob_copybook_entries.specs.Meaning.{IsConstantOf}
use Rattle.cob_move_data.specs.declared.operands.Side.{Side}
use Rattle.cob_move_data.specs.declared.operands.Operand.{Operand}
use Rattle.cob_move_data.specs.Moves.{Sender, Entry, Literal}
use Rattle.cob_move_receive.specs.Table.{SenderKind, Entry as EntryOf, Literal as LiteralOf}
use Rattle.cob_move_statements.specs.declared.fault.MoveRule.{MoveRule}
use Rattle.cob_move_statements.specs.declared.fault.MoveRule.TheVariants as rule
use Rattle.cob_move_statements.specs.Written.{WrittenSender, SentReference, SentConstant}
use Rattle.cob_move_names.specs.Candidates.{Candidate}
use Rattle.cob_move_names.specs.References.{BreaksReference, NamesOperand}

-- What the table of categories asks of a sender: what its entry describes, or its constant.
abbrev pub kind_of_sender : Sender → SenderKind
kind_of_sender (Entry side reading o) = EntryOf o.kind
kind_of_sender (Literal c) = LiteralOf c

-- A sender means the operand that its reference names, read as its picture says, or the constant that its literal means.
abbrev pub IsSenderOf : List Candidate → WrittenSender → Sender → Type 0
IsSenderOf all (SentReference r) s = (side : Side) × (o : Operand) × NamesOperand all r side o × (s ≡ Entry side Pictured o)
IsSenderOf all (SentConstant w) s = (c : PlainValue) × IsConstantOf w c × (s ≡ Literal c)

-- A constant breaks a rule: it is a word that is no numeric literal (M1), or one of too many characters or digits, or an empty one behind ALL (M7).
abbrev pub BreaksSentConstant : MoveRule → WrittenValue → Type 0
BreaksSentConstant rule.Grammar w = BreaksConstant (Some w)
BreaksSentConstant rule.Literal w = BreaksValue (Some w)
BreaksSentConstant other w = ⊥

-- A sender breaks a rule: its reference M2, M3 or M4, its constant M1 or M7.
abbrev pub BreaksSender : MoveRule → List Candidate → WrittenSender → Type 0
BreaksSender r all (SentReference w) = BreaksReference r all w
BreaksSender r all (SentConstant w) = BreaksSentConstant r w
