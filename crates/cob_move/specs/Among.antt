-- What references and statements mean, and which rules they break, among the entries that may be named.
use Rattle.std.specs.Prelude.{◌≡◌, List, map, Result, IfErr, IfOk}
use Rattle.std.specs.List.{AllByRecursion}
use Rattle.cob_copybook_tree.specs.Forests.{Forest}
use Rattle.cob_copybook_tree.specs.Nodes.{Resolved}
use Rattle.cob_move_data.specs.declared.operands.Side.{Side}
use Rattle.cob_move_data.specs.declared.operands.Sender as code
use Rattle.cob_move_data.specs.declared.operands.Move as code_move
use Rattle.cob_move_data.specs.declared.operands.PairMoves.{PairMoves}
use Rattle.cob_move_data.specs.declared.operands.StatementMoves.{StatementMoves}
use Rattle.cob_layout_places.specs.declared.reference.Ref.{Ref}
use Rattle.cob_move_data.specs.Moves.{Move, Records, move, moves, numbered_move, operand_in, record_of, sender, statement_moves}
use Rattle.cob_move_receive.specs.Refusals.{IsAllowed}
use Rattle.cob_move_statements.specs.declared.fault.MoveFault.{MoveFault}
use Rattle.cob_move_statements.specs.declared.fault.MoveRule.{MoveRule}
use Rattle.cob_move_statements.specs.declared.fault.MoveRule.TheVariants as rule
use Rattle.cob_move_statements.specs.declared.parts.Reference.{Reference}
use Rattle.cob_move_statements.specs.Written.{WrittenReference, WrittenSender, WrittenAction, WrittenStatement, MoveCorresponding, written_reference}
use Rattle.cob_move_names.specs.declared.correspondences.Correspondences.{Correspondences}
use Rattle.cob_move_names.specs.Found.{pairs_between}
use Rattle.cob_move_names.specs.Pairs.{Pair}
use Rattle.cob_move_names.specs.Candidates.{Candidate}
use Rattle.cob_move_names.specs.Directory.{entries_named}
use Rattle.cob_move_names.specs.References.{NamesOperand}
use Rattle.cob_move.specs.declared.corresponding.TwoGroups.{TwoGroups}
use Rattle.cob_move_tests.specs.declared.entries.Entries.{Entries}
use Rattle.cob_move.specs.Between.{numbered}
use Rattle.cob_move_tests.specs.Entries.{nameable, records_of}
use Rattle.cob_move.specs.Meaning.{AreMeanings, AreMeant, AreMovesOf, AreReceiversOf, IsMeaning, IsMoveOf}
use Rattle.cob_move_names.specs.Senders.{IsSenderOf, kind_of_sender}
use Rattle.cob_move.specs.Refusals.{BreaksOn, BreaksReceipt, BreaksStatement, SomeBroken}

-- the two records of these layouts
abbrev pub both : Forest Resolved → Forest Resolved → Records
both input output = record { input = input; output = output }

-- the receivers mean these entries of the output record
abbrev pub AreReceiversAmong : Entries → List WrittenReference → List Ref → Type 0
AreReceiversAmong e ws entries = AreReceiversOf (nameable e) ws (map (operand_in e.output.now) entries)

-- the sender may be moved to each of these entries of the output record
abbrev pub MayBeMovedToAll : Entries → code.Sender → List Ref → Type 0
MayBeMovedToAll e s entries = AllByRecursion (λ o. IsAllowed (kind_of_sender (sender (records_of e) s)) o.kind) (map (operand_in e.output.now) entries)

-- a receiver breaks the rule by its reference, or by this sender's move to what it names
abbrev pub BreaksReceiptAmong : MoveRule → Entries → code.Sender → WrittenReference → Type 0
BreaksReceiptAmong r e s w = BreaksReceipt r (nameable e) (sender (records_of e) s) w

-- the sender and its receivers mean this move
abbrev pub IsMoveAmong : Entries → WrittenSender → List WrittenReference → code_move.Move → Type 0
IsMoveAmong e s ws m = IsMoveOf (nameable e) s ws (move (records_of e) m)

-- the two references of MOVE CORRESPONDING mean the moves of these pairs
abbrev pub AreMovesAmong : Entries → WrittenReference → WrittenReference → PairMoves → Type 0
AreMovesAmong e from to v = AreMovesOf (nameable e) e.input.now e.output.now from to (map (numbered_move (records_of e) v) v.pairs.items)

-- what stands behind MOVE means these moves
abbrev pub IsMeaningAmong : Entries → WrittenAction → StatementMoves → Type 0
IsMeaningAmong e a v = IsMeaning (nameable e) e.input.now e.output.now a (statement_moves (records_of e) v)

-- the statements mean these moves
abbrev pub AreMeaningsAmong : Entries → List WrittenStatement → List StatementMoves → Type 0
AreMeaningsAmong e ss vs = AreMeanings (nameable e) e.input.now e.output.now ss (moves (records_of e) vs)

-- what stands behind MOVE breaks the rule
abbrev pub BreaksAmong : MoveRule → Entries → WrittenAction → Type 0
BreaksAmong r e a = BreaksStatement r (nameable e) e.input.now e.output.now a

-- what stands behind MOVE breaks the rule between any two records, where these entries may be named
abbrev pub BreaksBetweenAny : MoveRule → List Candidate → WrittenAction → Type 0
BreaksBetweenAny r all a = (input output : Forest Resolved) → BreaksStatement r all input output a

-- the statement breaks the rule of the fault, on its line
abbrev pub BreaksOnAmong : MoveFault → Entries → WrittenStatement → Type 0
BreaksOnAmong f e s = BreaksOn f (nameable e) e.input.now e.output.now s

-- one of the statements breaks the rule of the fault, on its line, or memory was refused
abbrev pub SomeBrokenAmong : MoveFault → Entries → List WrittenStatement → Type 0
SomeBrokenAmong f e ss = SomeBroken f (nameable e) e.input.now e.output.now ss

-- MOVE CORRESPONDING of two references, without where their texts lie in memory
abbrev pub written_corresponding : Reference → Reference → WrittenAction
written_corresponding from to = MoveCorresponding (written_reference from) (written_reference to)

-- the pairs of two groups of the records that are paired
abbrev pub pairs_in : Correspondences → TwoGroups → List Pair
pairs_in c g = pairs_between c g.side g.from.entry.node g.to.entry.node

-- the moves are those of these pairs, below the entries of the groups
abbrev pub KeepsPairs : TwoGroups → List Pair → PairMoves → Type 0
KeepsPairs g ps v = (v.side ≡ g.side) × (v.from ≡ g.from.entry) × (v.to ≡ g.to.entry) × (v.pairs.items ≡ map numbered ps)

-- memory aside, the answer has the moves that the statements mean, whichever those are
abbrev pub HasOnlyMeant : {A : Type 0} → Records → List WrittenStatement → (A → List StatementMoves) → Result A MoveFault → Type 0
HasOnlyMeant r ss view answer = (ms : List Move) → AreMeant r.input r.output ss ms
    → IfOk answer (λ v. moves r (view v) ≡ ms) × IfErr answer (λ f. f ≡ record { rule = rule.Memory; line = 0 })
