-- What a sender gives to each of its receivers.
use Rattle.std.specs.Prelude.{◌≡◌, ℕ, ℤ, Bool, List, length}
use Rattle.cob_decimal.specs.declared.number.Number.{Number}
use Rattle.cob_codec.specs.declared.reading.Reading.{Reading}
use Rattle.cob_copybook_entry.specs.Described.{PlainValue, plain_value}
use Rattle.cob_copybook_tree.specs.declared.node.Kind.{Kind}
use Rattle.cob_copybook_tree.specs.declared.node.Kind.TheVariants.{Group, Item as ItemKind}
use Rattle.cob_copybook_tree.specs.Lengths.{item_size}
use Rattle.cob_copybook_tree.specs.Items.{IsStorable}
use Rattle.cob_move_receive.specs.declared.sent.Sent as code
use Rattle.cob_move_receive.specs.declared.sent.Sent.TheVariants as code_sent

-- What a statement sends: the bytes of an entry that is a group or this item, and how they are read where it is a binary item; or a literal or
-- figurative constant.
pub data Sent : Type 0 where
  Entry : Kind → List ℕ → Reading → Sent
  Literal : PlainValue → Sent

-- what the code's value stands for
abbrev pub sent : code.Sent → Sent
sent (code_sent.Entry kind bytes reading) = Entry kind.now bytes.now reading
sent (code_sent.Constant value) = Literal (plain_value value.now)

-- a number that a sender gives: its minus, its digits, and how many of them stand behind the point
pub record Amount : Type 0 where
  pub negative : Bool
  pub digits : List ℕ
  pub scale : ℤ

-- the same of a number of the code
abbrev pub amount : Number → Amount
amount n = record { negative = n.negative; digits = n.digits; scale = n.scale }

-- an item has a byte for each of its size, and bytes can hold what it describes; a group has as many as its entries need
abbrev pub Occupies : Kind → ℕ → Type 0
Occupies Group n = Unit {0}
Occupies (ItemKind i) n = (n ≡ item_size i) × IsStorable i

-- the bytes of an entry are as many as it has
abbrev pub HasAllBytes : Sent → Type 0
HasAllBytes (Entry kind bytes reading) = Occupies kind (length bytes)
HasAllBytes (Literal c) = Unit {0}
