-- The rules of one move, of a sender to one of its receivers. A literal that is read has at most 160 characters, or 31 digits.
use Rattle.std.specs.Prelude.{◌≡◌, ℕ, Bool, true, false, ◌&&◌, ◌||◌, not, nat_lt, nat_le, List, [], ◌∷◌, length}
use Rattle.std.specs.List.{list_all}
use Rattle.cob_limits.specs.Limits.{most_digits}
use Rattle.cob_picture.specs.declared.category.Category.{Category}
use Rattle.cob_picture.specs.declared.category.Category.TheVariants.{Alphabetic, Numeric, Alphanumeric, AlphanumericEdited, NumericEdited}
use Rattle.cob_copybook_entry.specs.Described.{PlainValue, Quoted, Figure, Repeated, Numeric as NumericLiteral}
use Rattle.cob_copybook_tree.specs.declared.node.Kind.{Kind}
use Rattle.cob_copybook_tree.specs.declared.node.Kind.TheVariants.{Group, Item as ItemKind}
use Rattle.cob_copybook_tree.specs.declared.node.Item.{Item}
use Rattle.cob_copybook_tree.specs.Lengths.{item_size}
use Rattle.cob_copybook_tree.specs.Nodes.{is_group_kind, kind_shows_number}
use Rattle.cob_move_receive.specs.declared.refusals.Refusal.{Refusal}
use Rattle.cob_move_receive.specs.declared.refusals.Refusal.TheVariants as refusal
use Rattle.cob_move_receive.specs.Table.{SenderKind, Entry, Literal, has_fraction, may_move}

-- a digit as a character: 0 to 9
abbrev pub is_digit_character : ℕ → Bool
is_digit_character c = nat_le 48 c && nat_le c 57

-- a literal without characters
abbrev pub is_empty_literal : List ℕ → Bool
is_empty_literal [] = true
is_empty_literal (c ∷ cs) = false

-- A literal isn't as its receiver asks: it is empty; it isn't all digits where a numeric or numeric edited item receives; or it is a number
-- with a sign or a fraction where a group receives.
abbrev pub is_wrong_literal : PlainValue → Kind → Bool
is_wrong_literal (NumericLiteral sign negative digits scale) to = is_group_kind to && (sign || has_fraction scale)
is_wrong_literal (Quoted text) to = is_empty_literal text || (kind_shows_number to && not (list_all is_digit_character text))
is_wrong_literal (Figure f) to = false
is_wrong_literal (Repeated text) to = is_empty_literal text

-- an alphanumeric item of more characters than a number has digits
abbrev pub is_longer_than_number : Category → Item → Bool
is_longer_than_number Alphanumeric i = nat_lt most_digits (item_size i)
is_longer_than_number Alphabetic i = false
is_longer_than_number AlphanumericEdited i = false
is_longer_than_number Numeric i = false
is_longer_than_number NumericEdited i = false

-- a sender of more characters than a number has digits: an alphanumeric item, or a quoted literal
abbrev pub is_too_long : SenderKind → Bool
is_too_long (Entry Group) = false
is_too_long (Entry (ItemKind i)) = is_longer_than_number i.picture.category i
is_too_long (Literal (Quoted text)) = nat_lt most_digits (length text)
is_too_long (Literal c) = false

-- The move of the sender to the receiver breaks the rule: the table doesn't have it (M6), its literal isn't as the receiver asks (M7), or an
-- alphanumeric sender of more than 31 characters is moved to a numeric or numeric edited item (M10).
abbrev pub is_refused : Refusal → SenderKind → Kind → Bool
is_refused refusal.NotAllowed s to = not (may_move s to)
is_refused refusal.Literal (Entry kind) to = false
is_refused refusal.Literal (Literal c) to = is_wrong_literal c to
is_refused refusal.TooLong s to = kind_shows_number to && is_too_long s

-- the move breaks no rule
abbrev pub IsAllowed : SenderKind → Kind → Type 0
IsAllowed s to = (r : Refusal) → is_refused r s to ≡ false
