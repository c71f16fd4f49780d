use Rattle.std.proofs.Common.{◌≡◌, map, length}
use Rattle.cob_source_copies.specs.Exchanges.{replacing}
use Rattle.cob_source_copies.specs.Statements.{replacings_in, written_operand}
use Rattle.cob_source_copies.proofs.OperandLemmas.{replacings_before}
use Rattle.cob_source_copies.proofs.statement.exchanges_in.Given as goal

abbrev pub invariant-loop-x : goal.invariant-loop-x
invariant-loop-x l = replacings_before (map replacing l.out.items) (replacings_in (map written_operand l.rest)) ≡ replacings_in (map written_operand l.operands)

abbrev pub decreases-loop-x : goal.decreases-loop-x
decreases-loop-x l = length l.rest
