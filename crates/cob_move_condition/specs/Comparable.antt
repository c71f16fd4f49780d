-- Which operands are compared by their values, and which may be compared at all (ANSI X3.23-1985, Nucleus: relation conditions).
use Rattle.std.specs.Prelude.{Bool, true, false, ◌&&◌, ◌||◌, not}
use Rattle.cob_picture.specs.Counts.{scale}
use Rattle.cob_copybook_entry.specs.declared.kinds.Figurative.{Figurative}
use Rattle.cob_copybook_entry.specs.declared.kinds.Figurative.TheVariants.{Space, Zero, HighValue, LowValue, Quote}
use Rattle.cob_copybook_entry.specs.Described.{PlainValue, Numeric, Quoted, Figure, Repeated}
use Rattle.cob_copybook_entry.specs.Kinds.{is_display}
use Rattle.cob_copybook_tree.specs.declared.node.Item.{Item}
use Rattle.cob_copybook_tree.specs.declared.node.Kind.TheVariants.{Group, Item as ItemKind}
use Rattle.cob_copybook_tree.specs.Resolving.{is_number}
use Rattle.cob_move_receive.specs.Sent.{Sent}
use Rattle.cob_move_receive.specs.Sent as sent
use Rattle.cob_move_receive.specs.Table.{SenderKind, Entry, Literal, has_fraction}

-- what is known of an operand before a record comes
abbrev pub kind_of_sent : Sent → SenderKind
kind_of_sent (sent.Entry kind bytes reading) = Entry kind
kind_of_sent (sent.Literal c) = Literal c

-- ZERO is a number, and no other figurative constant
abbrev pub is_number_figure : Figurative → Bool
is_number_figure Zero = true
is_number_figure Space = false
is_number_figure HighValue = false
is_number_figure LowValue = false
is_number_figure Quote = false

-- a constant is a number: a numeric literal, or ZERO
abbrev pub is_number_constant : PlainValue → Bool
is_number_constant (Numeric sign negative digits scale) = true
is_number_constant (Quoted text) = false
is_number_constant (Figure f) = is_number_figure f
is_number_constant (Repeated text) = false

-- an operand is a number: an item that is numeric and not edited, or such a constant
abbrev pub is_number_operand : SenderKind → Bool
is_number_operand (Entry Group) = false
is_number_operand (Entry (ItemKind i)) = is_number i
is_number_operand (Literal c) = is_number_constant c

-- both are, and so they are compared by their values, whatever their usages
abbrev pub compares_numbers : SenderKind → SenderKind → Bool
compares_numbers a b = is_number_operand a && is_number_operand b

-- an operand is a group
abbrev pub is_group_operand : SenderKind → Bool
is_group_operand (Entry Group) = true
is_group_operand (Entry (ItemKind i)) = false
is_group_operand (Literal c) = false

-- an operand is an entry
abbrev pub is_entry_operand : SenderKind → Bool
is_entry_operand (Entry kind) = true
is_entry_operand (Literal c) = false

-- a number whose digits are characters, each with a byte, and none behind the point
abbrev pub is_whole_display : Item → Bool
is_whole_display i = is_display i.usage && not (has_fraction (scale i.picture.positions))

-- a constant has characters: a number has none for a sign or a point
abbrev pub has_characters_constant : PlainValue → Bool
has_characters_constant (Numeric sign negative digits scale) = not sign && not (has_fraction scale)
has_characters_constant (Quoted text) = true
has_characters_constant (Figure f) = true
has_characters_constant (Repeated text) = true

-- an operand has characters beside a group, or beside anything else: a number that isn't whole and DISPLAY has none but beside a group
abbrev pub has_characters_beside : Bool → SenderKind → Bool
has_characters_beside group (Entry Group) = true
has_characters_beside group (Entry (ItemKind i)) = group || (not (is_number i) || is_whole_display i)
has_characters_beside group (Literal c) = has_characters_constant c

-- both have characters beside each other
abbrev pub have_characters : SenderKind → SenderKind → Bool
have_characters a b = has_characters_beside (is_group_operand b) a && has_characters_beside (is_group_operand a) b

-- Two operands may be compared: one of them is an entry, and both are numbers or have characters.
abbrev pub may_compare : SenderKind → SenderKind → Bool
may_compare a b = (is_entry_operand a || is_entry_operand b) && (compares_numbers a b || have_characters a b)
