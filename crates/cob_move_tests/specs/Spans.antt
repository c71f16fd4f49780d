-- Values that an entry is held against, and the condition that it is one of them.
use Rattle.std.specs.Prelude.{◌≡◌, true, List, [], ◌∷◌}
use Rattle.std.specs.List.{AllByRecursion}
use Rattle.std.specs.declared.cmp.Ordering.TheVariants.{Equal, Greater, Less}
use Rattle.cob_codec.specs.declared.reading.Reading.TheVariants.{Pictured}
use Rattle.cob_copybook_conditions.specs.Names.{PlainSpan, One as OneValue, FromTo as FromToValues}
use Rattle.cob_move_condition.specs.Comparable.{may_compare}
use Rattle.cob_move_condition.specs.Conditions.{Both, Compares, Condition, Either, Not}
use Rattle.cob_move_data.specs.Moves.{Entry, Literal, Sender}
use Rattle.cob_move_names.specs.Senders.{kind_of_sender}
use Rattle.cob_move_names.specs.Values.{ValuedOperand}
use Rattle.cob_move_receive.specs.Table.{SenderKind}

-- a value, or all from one to another
pub data Span : Type 0 where
  One : Sender → Span
  FromTo : Sender → Sender → Span

-- a sender is within a span: it is the value, or neither less than the first nor greater than the last
abbrev pub within : Sender → Span → Condition
within a (One v) = Compares a Equal v
within a (FromTo v w) = Both (Not (Compares a Less v)) (Not (Compares a Greater w))

-- what is known of a sender says that it may be compared with each of the values
abbrev pub MayBeWithinBy : SenderKind → Span → Type 0
MayBeWithinBy k (One v) = may_compare k (kind_of_sender v) ≡ true
MayBeWithinBy k (FromTo v w) = (may_compare k (kind_of_sender v) ≡ true) × (may_compare k (kind_of_sender w) ≡ true)

-- a sender may be compared with each of the values
abbrev pub MayBeWithin : Sender → Span → Type 0
MayBeWithin a s = MayBeWithinBy (kind_of_sender a) s

-- ---- condition-names

-- the values of a condition-name are constants
abbrev pub constants : PlainSpan → Span
constants (OneValue v) = One (Literal v)
constants (FromToValues v w) = FromTo (Literal v) (Literal w)

-- a sender is within the first of these values, or within one of those behind it
abbrev pub within_one : Sender → PlainSpan → List PlainSpan → Condition
within_one a v [] = within a (constants v)
within_one a v (w ∷ more) = Either (within a (constants v)) (within_one a w more)

-- it may be compared with each of them
abbrev pub AreWithinBy : SenderKind → List PlainSpan → Type 0
AreWithinBy k vs = AllByRecursion (λ v. MayBeWithinBy k (constants v)) vs

-- the same of a first one and those behind it
abbrev pub MayBeWithinAll : SenderKind → PlainSpan → List PlainSpan → Type 0
MayBeWithinAll k v more = AreWithinBy k (v ∷ more)

-- the item of a condition-name, as it is compared
abbrev pub item_of : ValuedOperand → Sender
item_of v = Entry v.side Pictured v.operand

-- a condition-name holds: its item is one of its values
abbrev pub holds : ValuedOperand → Condition
holds v = within_one (item_of v) v.first v.more

-- its item may be compared with each of its values
abbrev pub MayHold : ValuedOperand → Type 0
MayHold v = MayBeWithinAll (kind_of_sender (item_of v)) v.first v.more
