-- The entries that a directory finds by their names.
use Rattle.std.specs.Prelude.{◌≡◌, List, Result, map, IsOkAnd}
use Rattle.cob_move_data.specs.declared.operands.Operand.{Operand}
use Rattle.cob_move_data.specs.declared.operands.Side.{Side}
use Rattle.cob_move_statements.specs.Written.{WrittenReference}
use Rattle.cob_move_statements.specs.declared.fault.MoveRule.{MoveRule}
use Rattle.cob_copybook_conditions.specs.Names.{plain_span}
use Rattle.cob_move_names.specs.declared.find.Named.{Named}
use Rattle.cob_move_names.specs.declared.find.NamedValues.{NamedValues}
use Rattle.cob_move_names.specs.References.{NamesOperand}
use Rattle.cob_move_names.specs.declared.directory.Names.{Names}
use Rattle.cob_move_names.specs.Candidates.{Candidate}
use Rattle.cob_copybook_names.specs.Naming.{Bearer}
use Rattle.cob_move_names.specs.Listed.{candidate_of, valued_of}
use Rattle.cob_move_names.specs.Valued.{ValuedEntry}
use Rattle.cob_move_names.specs.Values.{ValuedOperand}

-- The entries that may be named.
abbrev pub entries_named : Names → List Candidate
entries_named names = map candidate_of names.directory.bearers.items

-- The condition-names that may be named.
abbrev pub values_named : Names → List (Bearer ValuedEntry)
values_named names = map valued_of names.values.bearers.items

-- The item of a condition-name that was found, with its values.
abbrev pub operand_with_values : NamedValues → ValuedOperand
operand_with_values n = record { side = n.side; operand = n.operand; first = plain_span n.first.now; more = map plain_span n.more.now }

-- What a reference names among these entries is found, and it is the answer.
abbrev pub FindsOnly : List Candidate → WrittenReference → Result Named MoveRule → Type 0
FindsOnly all w answer = (side : Side) (o : Operand) → NamesOperand all w side o → IsOkAnd answer (λ n. (n.side ≡ side) × (n.operand ≡ o))
