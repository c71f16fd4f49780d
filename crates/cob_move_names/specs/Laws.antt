-- What follows from the definitions, said as laws.
use Rattle.std.specs.Prelude.{◌≡◌, List}
use Rattle.cob_copybook.specs.Books.{IsRecordDescription}
use Rattle.cob_copybook_names.specs.Naming.{Bearer}
use Rattle.cob_move_data.specs.declared.operands.Side.{Side}
use Rattle.cob_move_data.specs.declared.operands.Operand.{Operand}
use Rattle.cob_move_data.specs.Moves.{IsOperand, Records, record_of}
use Rattle.cob_move_statements.specs.declared.fault.MoveRule.{MoveRule}
use Rattle.cob_move_statements.specs.Written.{WrittenReference}
use Rattle.cob_move_names.specs.Candidates.{Candidate, all_entries}
use Rattle.cob_move_names.specs.References.{NamesOperand, BreaksReference}
use Rattle.cob_move_names.specs.Valued.{AreOfEntries, ValuedEntry}
use Rattle.cob_move_names.specs.Values.{BreaksValues, NamesValues, ValuedOperand}

-- Law: what a reference names is an operand of its record, so that it can be placed and is of the kind that the record says.
abbrev pub NamedAreOperands : Type 0
NamedAreOperands = (records : Records) (r : WrittenReference) (side : Side) (o : Operand) → IsRecordDescription records.input → IsRecordDescription records.output
    → NamesOperand (all_entries records.input records.output) r side o → IsOperand (record_of records side) o

-- Law: a reference names one operand at most.
abbrev pub OneNamed : Type 0
OneNamed = (all : List Candidate) (r : WrittenReference) (side other_side : Side) (o other : Operand)
    → NamesOperand all r side o → NamesOperand all r other_side other → (side ≡ other_side) × (o ≡ other)

-- Law: a reference that names an operand breaks no rule.
abbrev pub NamedBreakNoRule : Type 0
NamedBreakNoRule = (all : List Candidate) (r : WrittenReference) (side : Side) (o : Operand) (rule : MoveRule) → NamesOperand all r side o → BreaksReference rule all r → ⊥

-- Law: the item of a condition-name that a reference names is an operand of its record.
abbrev pub ItemsAreOperands : Type 0
ItemsAreOperands = (records : Records) (values : List (Bearer ValuedEntry)) (r : WrittenReference) (v : ValuedOperand)
    → IsRecordDescription records.input → IsRecordDescription records.output → AreOfEntries (all_entries records.input records.output) values
    → NamesValues (all_entries records.input records.output) values r v → IsOperand (record_of records v.side) v.operand

-- Law: a reference names the values of one condition at most.
abbrev pub OneValued : Type 0
OneValued = (all : List Candidate) (values : List (Bearer ValuedEntry)) (r : WrittenReference) (v w : ValuedOperand)
    → NamesValues all values r v → NamesValues all values r w → v ≡ w

-- Law: a reference that names the values of a condition breaks no rule.
abbrev pub ValuedBreakNoRule : Type 0
ValuedBreakNoRule = (all : List Candidate) (values : List (Bearer ValuedEntry)) (r : WrittenReference) (v : ValuedOperand) (rule : MoveRule)
    → NamesValues all values r v → BreaksValues rule all values r → ⊥
