-- Single moves of characters and of constants that are made ready.
use Rattle.std.specs.Prelude.{◌≡◌, ℕ, Bool, true, false, ◌&&◌, not, List, length, Option, Some, None}
use Rattle.cob_codec.specs.declared.reading.Reading.{Reading}
use Rattle.cob_copybook_entry.specs.Described.{PlainValue}
use Rattle.cob_copybook_tree.specs.declared.node.Kind.{Kind}
use Rattle.cob_copybook_tree.specs.declared.node.Kind.TheVariants.{Group, Item as ItemKind}
use Rattle.cob_copybook_tree.specs.Resolving.{is_number}
use Rattle.cob_codec_lanes.specs.Windows.{last_bytes}
use Rattle.cob_move_receive.specs.Copying.{is_of_characters}
use Rattle.cob_move_receive.specs.Received.{Received}
use Rattle.cob_move_receive.specs.Sent.{Entry, Literal}
use Rattle.cob_move_steps.specs.declared.characters_step.CharactersStep.{CharactersStep}
use Rattle.cob_move_steps.specs.declared.constant_step.ConstantStep.{ConstantStep}

-- The sender gives its bytes as characters, and the receiver takes them without insertions: a group is on either side, or the sender is no
-- number and the receiver is alphabetic or alphanumeric.
abbrev pub gives_bytes : Kind → Kind → Bool
gives_bytes Group to = true
gives_bytes (ItemKind x) Group = true
gives_bytes (ItemKind x) (ItemKind i) = not (is_number x) && is_of_characters i.picture.category

-- The characters stand from the right: the receiver is JUSTIFIED, and no group is on either side.
abbrev pub stands_right : Kind → Kind → Bool
stands_right Group to = false
stands_right (ItemKind x) Group = false
stands_right (ItemKind x) (ItemKind i) = i.justified

-- The step moves the characters of an entry of so many bytes to another.
pub record IsCharactersStep (from : Kind) (size : ℕ) (to : Kind) (step : CharactersStep) : Type 0 where
  pub gives : gives_bytes from to ≡ true
  pub count : step.sent ≡ size
  pub side : step.right ≡ stands_right from to

-- What is written is what a receiver of n bytes holds after the move of the entry that ends these bytes, whatever the reading: for each two
-- entries whose step this is, where the bytes have the sender at their end.
abbrev pub AreCharactersCarriedOut : CharactersStep → List ℕ → ℕ → List ℕ → Type 0
AreCharactersCarriedOut step bytes n written =
    (from to : Kind) (size : ℕ) → IsCharactersStep from size to step → (reading : Reading) → Received (Entry from (last_bytes size bytes) reading) to n (Some written)

-- The step moves the constant to a receiver of so many bytes.
pub record IsConstantStep (constant : PlainValue) (to : Kind) (size : ℕ) (step : ConstantStep) : Type 0 where
  pub count : length step.bytes.items ≡ size
  pub received : Received (Literal constant) to size (Some step.bytes.items)

-- There is a step exactly where the constant is a value that a receiver of so many bytes asks for.
abbrev pub IsConstantFound : PlainValue → Kind → ℕ → Option ConstantStep → Type 0
IsConstantFound constant to size (Some step) = IsConstantStep constant to size step
IsConstantFound constant to size None = Received (Literal constant) to size None

-- What is written is what the receiver holds after the move of the constant.
abbrev pub IsConstantCarriedOut : ConstantStep → List ℕ → Type 0
IsConstantCarriedOut step written =
    (constant : PlainValue) (to : Kind) (size : ℕ) → IsConstantStep constant to size step → Received (Literal constant) to size (Some written)
