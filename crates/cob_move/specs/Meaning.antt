-- What a statement means between two records: its moves.
use Rattle.std.specs.Prelude.{◌≡◌, ◌||◌, false, List, [], ◌∷◌, ◌++◌, map}
use Rattle.std.specs.List.{AllByRecursion}
use Rattle.cob_codec.specs.declared.reading.Reading.TheVariants.{Pictured}
use Rattle.cob_copybook_tree.specs.Forests.{Forest}
use Rattle.cob_copybook_tree.specs.Nodes.{Resolved}
use Rattle.cob_move_data.specs.declared.operands.Side.{Side}
use Rattle.cob_move_data.specs.declared.operands.Side.TheVariants.{Out}
use Rattle.cob_move_data.specs.declared.operands.Operand.{Operand}
use Rattle.cob_move_data.specs.Moves.{Sender, Entry, Move}
use Rattle.cob_move_receive.specs.Refusals.{IsAllowed}
use Rattle.cob_move_statements.specs.Written.{WrittenReference, WrittenSender, WrittenAction, MoveTo, MoveCorresponding, WrittenStatement}
use Rattle.cob_move_names.specs.Candidates.{Candidate, all_entries}
use Rattle.cob_move_names.specs.References.{NamesOperand}
use Rattle.cob_move_names.specs.Senders.{IsSenderOf, kind_of_sender}
use Rattle.cob_move.specs.declared.corresponding.TwoGroups.{TwoGroups}
use Rattle.cob_move_names.specs.Between.{entries_of, pairs_below}
use Rattle.cob_move_names.specs.Groups.{operand_below}
use Rattle.cob_move_names.specs.Pairs.{AreOnce, Pair, is_elementary}

-- Receivers mean the operands of the output record that their references name, in the order in which they are written.
abbrev pub AreReceiversOf : List Candidate → List WrittenReference → List Operand → Type 0
AreReceiversOf all [] os = os ≡ []
AreReceiversOf all (r ∷ rs) os = (o : Operand) × (more : List Operand) × NamesOperand all r Out o × AreReceiversOf all rs more × (os ≡ o ∷ more)

-- Each single move, of the sender to one of the receivers, is allowed.
abbrev pub IsAllowedMove : Move → Type 0
IsAllowedMove m = AllByRecursion (λ o. IsAllowed (kind_of_sender m.sender) o.kind) m.receivers

-- MOVE with a sender and its receivers means one move, which is allowed.
pub record IsMoveOf (all : List Candidate) (s : WrittenSender) (rs : List WrittenReference) (m : Move) : Type 0 where
  pub sender : IsSenderOf all s m.sender
  pub receivers : AreReceiversOf all rs m.receivers
  pub allowed : IsAllowedMove m

-- The references of MOVE CORRESPONDING name two groups, the receiving one in the output record.
pub record AreGroupsOf (all : List Candidate) (from to : WrittenReference) (g : TwoGroups) : Type 0 where
  pub sending : NamesOperand all from g.side g.from
  pub receiving : NamesOperand all to Out g.to
  pub groups : (is_elementary g.from.kind || is_elementary g.to.kind) ≡ false

-- The pairs of two groups of the records, in the order of the sending one.
abbrev pub pairs_of : Forest Resolved → Forest Resolved → TwoGroups → List Pair
pairs_of input output g =
    pairs_below (entries_of input output g.side) output g.from.entry.node g.to.entry.node

-- The move of a pair: its entries have the subscripts of the groups.
abbrev pub pair_move : TwoGroups → Pair → Move
pair_move g p = record { sender = Entry g.side Pictured (operand_below g.from p.from); receivers = operand_below g.to p.to ∷ [] }

-- MOVE CORRESPONDING means one move for each pair of its groups, in the order of the sending group: no entry is in two pairs, and each move is allowed.
pub record AreMovesOf (all : List Candidate) (input output : Forest Resolved) (from to : WrittenReference) (ms : List Move) : Type 0 where
  pub groups : TwoGroups
  pub named : AreGroupsOf all from to groups
  pub once : AreOnce (pairs_of input output groups)
  pub moves : ms ≡ map (pair_move groups) (pairs_of input output groups)
  pub allowed : AllByRecursion IsAllowedMove ms

-- What stands behind MOVE means these moves, where these entries of the two records may be named.
abbrev pub IsMeaning : List Candidate → Forest Resolved → Forest Resolved → WrittenAction → List Move → Type 0
IsMeaning all input output (MoveTo s rs) ms = (m : Move) × IsMoveOf all s rs m × (ms ≡ m ∷ [])
IsMeaning all input output (MoveCorresponding from to) ms = AreMovesOf all input output from to ms

-- Statements mean their moves, one statement's behind another's.
abbrev pub AreMeanings : List Candidate → Forest Resolved → Forest Resolved → List WrittenStatement → List Move → Type 0
AreMeanings all input output [] ms = ms ≡ []
AreMeanings all input output (s ∷ ss) ms =
    (own more : List Move) × IsMeaning all input output s.action own × AreMeanings all input output ss more × (ms ≡ own ++ more)

-- Statements mean these moves between two records, any of whose entries may be named.
abbrev pub AreMeant : Forest Resolved → Forest Resolved → List WrittenStatement → List Move → Type 0
AreMeant input output ss ms = AreMeanings (all_entries input output) input output ss ms
