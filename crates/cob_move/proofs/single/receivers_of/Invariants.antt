use Rattle.std.proofs.Common.{◌++◌, drop, List, map}
use Rattle.std.specs.List.{AllByRecursion}
use Rattle.cob_move.specs.Meaning.{AreReceiversOf}
use Rattle.cob_move_names.specs.Senders.{kind_of_sender}
use Rattle.cob_move_apply.specs.Some.{SomeOf}
use Rattle.cob_move.specs.Refusals.{BreaksReceipt}
use Rattle.cob_move_data.specs.declared.operands.Operand.{Operand}
use Rattle.cob_move_data.specs.Moves.{operand_in, sender}
use Rattle.cob_move_tests.specs.Entries.{records_of}
use Rattle.cob_move_receive.specs.Refusals.{IsAllowed}
use Rattle.cob_move_names.specs.Directory.{entries_named}
use Rattle.cob_move_statements.specs.declared.fault.MoveRule.{MoveRule}
use Rattle.cob_move_statements.specs.Written.{written_references}
use Rattle.cob_move.proofs.single.receivers_of.Given as goal

abbrev pub invariant-loop-reference : goal.invariant-loop-reference
invariant-loop-reference l = record {
  found : (more : List Operand) → AreReceiversOf (entries_named l.entries.names.now) (written_references (drop l.reference-index l.references)) more
      → AreReceiversOf (entries_named l.entries.names.now) (written_references l.references) (map (operand_in l.entries.output.now) l.receivers.items ++ more);
  allowed : AllByRecursion (λ o. IsAllowed (kind_of_sender (sender (records_of l.entries) l.from)) o.kind) (map (operand_in l.entries.output.now) l.receivers.items);
  broken : (r : MoveRule) → SomeOf (BreaksReceipt r (entries_named l.entries.names.now) (sender (records_of l.entries) l.from)) (written_references (drop l.reference-index l.references))
      → SomeOf (BreaksReceipt r (entries_named l.entries.names.now) (sender (records_of l.entries) l.from)) (written_references l.references);
}
