-- What a receiver holds after a move: its bytes, or nothing where the sender's bytes represent no value.
use Rattle.std.specs.Prelude.{◌≡◌, ℕ, Bool, true, false, List, MatchBool, Option, Some, None}
use Rattle.cob_picture.specs.Positions.{shows_number}
use Rattle.cob_copybook_tree.specs.declared.node.Kind.{Kind}
use Rattle.cob_copybook_tree.specs.declared.node.Kind.TheVariants.{Group, Item as ItemKind}
use Rattle.cob_copybook_tree.specs.declared.node.Item.{Item}
use Rattle.cob_move_receive.specs.Sent.{Sent, Entry, Literal, Amount}
use Rattle.cob_move_receive.specs.Characters.{GivesCharacters, placement, Arranged}
use Rattle.cob_move_receive.specs.Numbers.{GivesNumber, HoldsAmount}

-- the receiver gets the characters that the sender gives
abbrev pub GetsCharacters : Sent → Kind → ℕ → Option (List ℕ) → Type 0
GetsCharacters s to n (Some bytes) = (text : List ℕ) × GivesCharacters s to n text × Arranged (placement s to) n text bytes
GetsCharacters s to n None = (text : List ℕ) → GivesCharacters s to n text → ⊥

-- the receiver gets the number that the sender gives
abbrev pub GetsNumber : Sent → Item → Option (List ℕ) → Type 0
GetsNumber s i (Some bytes) = (v : Amount) × GivesNumber s v × HoldsAmount i v bytes
GetsNumber s i None = (v : Amount) → GivesNumber s v → ⊥

-- An item gets the number that the sender gives where it is numeric or numeric edited, and else the characters.
abbrev pub ItemGets : Sent → Item → ℕ → Option (List ℕ) → Type 0
ItemGets s i n outcome = MatchBool (shows_number i.picture.category) (GetsNumber s i outcome) (GetsCharacters s (ItemKind i) n outcome)

-- a group is the sender
abbrev pub is_group : Sent → Bool
is_group (Entry Group bytes reading) = true
is_group (Entry (ItemKind i) bytes reading) = false
is_group (Literal c) = false

-- What a receiver of n bytes holds after a move from this sender: its bytes, or none where the sender's bytes represent no value that it
-- asks for. Where a group is on either side, the sender's bytes are copied.
abbrev pub Received : Sent → Kind → ℕ → Option (List ℕ) → Type 0
Received s Group n outcome = GetsCharacters s Group n outcome
Received (Entry Group bytes reading) (ItemKind i) n outcome = GetsCharacters (Entry Group bytes reading) (ItemKind i) n outcome
Received (Entry (ItemKind x) bytes reading) (ItemKind i) n outcome = ItemGets (Entry (ItemKind x) bytes reading) i n outcome
Received (Literal c) (ItemKind i) n outcome = ItemGets (Literal c) i n outcome

-- the bytes where there was a value
abbrev pub outcome : Bool → List ℕ → Option (List ℕ)
outcome true bytes = Some bytes
outcome false bytes = None

-- a receiver holds one thing after a move, or there is no value
abbrev pub OneReceived : Type 0
OneReceived = (s : Sent) (to : Kind) (n : ℕ) (a b : Option (List ℕ)) → Received s to n a → Received s to n b → a ≡ b
