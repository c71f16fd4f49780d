-- What operands compare to and what a condition says is one thing.
use Rattle.std.specs.Prelude.{◌≡◌, Bool, Ok, Err, Result}
use Rattle.std.specs.declared.cmp.Ordering.{Ordering}
use Rattle.cob_move_data.specs.Moves.{Sender}
use Rattle.cob_move_receive.specs.Sent.{Sent}
use Rattle.cob_move_condition.specs.declared.comparing.WithoutValue.{WithoutValue}
use Rattle.cob_move_condition.specs.Compared.{IsCompared, IsWithoutValue}
use Rattle.cob_move_condition.specs.Conditions.{Condition}
use Rattle.cob_move_condition.specs.Says.{Says}

-- what two operands compare to: an order, or which of them gives no number
abbrev pub ComparesTo : Sent → Sent → Result Ordering WithoutValue → Type 0
ComparesTo a b (Ok o) = IsCompared a b o
ComparesTo a b (Err which) = IsWithoutValue a b which

-- Law: two operands have one order, or it is one of them that gives no number.
abbrev pub OneComparison : Type 0
OneComparison = (a b : Sent) (r s : Result Ordering WithoutValue) → ComparesTo a b r → ComparesTo a b s → r ≡ s

-- each sender gives one thing, or has one stop
abbrev pub GivesOne : {S : Type 0} → (Sender → Result Sent S → Type 0) → Type 0
GivesOne {S} gives = (a : Sender) (g h : Result Sent S) → gives a g → gives a h → g ≡ h

-- a sender whose bytes represent no value has one stop
abbrev pub LacksOne : {S : Type 0} → (Sender → S → Type 0) → Type 0
LacksOne {S} lacks = (a : Sender) (s t : S) → lacks a s → lacks a t → s ≡ t

-- Law: a condition says one thing where each operand gives one.
abbrev pub OneSaying : {S : Type 0} → (Sender → Result Sent S → Type 0) → (Sender → S → Type 0) → Type 0
OneSaying {S} gives lacks = GivesOne gives → LacksOne lacks → (c : Condition) (r s : Result Bool S) → Says gives lacks c r → Says gives lacks c s → r ≡ s
