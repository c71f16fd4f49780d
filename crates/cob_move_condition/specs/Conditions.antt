-- Conditions on what two records hold.
use Rattle.std.specs.Prelude.{ℕ}
use Rattle.std.specs.declared.cmp.Ordering.{Ordering}
use Rattle.cob_copybook_entry.specs.Described.{plain_value}
use Rattle.cob_move_data.specs.Moves.{Sender, Literal}
use Rattle.cob_move_condition.specs.declared.class.Class.{Class}
use Rattle.cob_move_condition.specs.declared.condition.Comparand as code_comparand
use Rattle.cob_move_condition.specs.declared.condition.Comparand.TheVariants as comparand
use Rattle.cob_move_condition.specs.declared.condition.Condition as code
use Rattle.cob_move_condition.specs.declared.condition.Condition.TheVariants as code_condition

-- A condition: what always holds; that one operand is less than another, equal to it or greater; that an entry is of a class; that a condition doesn't
-- hold; that two do; that one of two does. Operands are senders of moves: entries of two records, and constants.
pub data Condition : Type 0 where
  Always : Condition
  Compares : Sender → Ordering → Sender → Condition
  HasClass : Sender → Class → Condition
  Not : Condition → Condition
  Both : Condition → Condition → Condition
  Either : Condition → Condition → Condition

-- the sender that is compared, where each number stands for this entry
abbrev pub sender_compared : (ℕ → Sender) → code_comparand.Comparand → Sender
sender_compared entry (comparand.Entry number) = entry number
sender_compared entry (comparand.Constant value) = Literal (plain_value value)

-- what the code's value stands for, where each number stands for this entry
abbrev pub condition_of : (ℕ → Sender) → code.Condition → Condition
condition_of entry code_condition.Always = Always
condition_of entry (code_condition.Compares a relation b) = Compares (sender_compared entry a) relation (sender_compared entry b)
condition_of entry (code_condition.HasClass number class) = HasClass (entry number) class
condition_of entry (code_condition.Not' q c) = Not (condition_of entry c)
condition_of entry (code_condition.Both' p c q d) = Both (condition_of entry c) (condition_of entry d)
condition_of entry (code_condition.Either' p c q d) = Either (condition_of entry c) (condition_of entry d)
