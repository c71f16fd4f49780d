-- Which moves there are: the table of categories.
use Rattle.std.specs.Prelude.{zero, suc, ℤ, pos, negsuc, Bool, true, false, if◌then◌else◌}
use Rattle.cob_picture.specs.Counts.{scale}
use Rattle.cob_picture.specs.declared.category.Category.{Category}
use Rattle.cob_picture.specs.declared.category.Category.TheVariants.{Alphabetic, Numeric, Alphanumeric, AlphanumericEdited, NumericEdited}
use Rattle.cob_copybook_entry.specs.declared.kinds.Figurative.{Figurative}
use Rattle.cob_copybook_entry.specs.declared.kinds.Figurative.TheVariants.{Space, Zero, HighValue, LowValue, Quote}
use Rattle.cob_copybook_entry.specs.Described.{PlainValue, plain_value, Numeric as NumericLiteral, Quoted, Figure, Repeated}
use Rattle.cob_copybook_tree.specs.declared.node.Kind.{Kind}
use Rattle.cob_copybook_tree.specs.declared.node.Kind.TheVariants.{Group, Item as ItemKind}
use Rattle.cob_copybook_tree.specs.declared.node.Item.{Item}
use Rattle.cob_move_receive.specs.declared.table.Receivers.{Receivers}
use Rattle.cob_move_receive.specs.declared.table.SenderKind as code
use Rattle.cob_move_receive.specs.declared.table.SenderKind.TheVariants as code_kind

-- What is known of a sender before a record comes: it is an entry that is a group or this item, or this literal or figurative constant.
pub data SenderKind : Type 0 where
  Entry : Kind → SenderKind
  Literal : PlainValue → SenderKind

-- what the code's value stands for
abbrev pub sender_kind : code.SenderKind → SenderKind
sender_kind (code_kind.Entry kind) = Entry kind.now
sender_kind (code_kind.Constant value) = Literal (plain_value value.now)

-- a number has places behind the point
abbrev pub has_fraction : ℤ → Bool
has_fraction (pos zero) = false
has_fraction (pos (suc k)) = true
has_fraction (negsuc k) = false

-- a line of the table: whether the sender may be moved to an alphabetic item, to an alphanumeric one (edited or not), and to a numeric one (edited or not)
abbrev pub receivers_if : Bool → Bool → Bool → Receivers
receivers_if alphabetic alphanumeric numeric = record { alphabetic = alphabetic; alphanumeric = alphanumeric; numeric = numeric }

-- The table by the sender's category. A number is moved to characters only where it has no fraction.
--                                                              alphabetic  alphanumeric  numeric
abbrev pub receivers_under : Category → Bool → Receivers
receivers_under Alphabetic fraction = receivers_if true true false
receivers_under Alphanumeric fraction = receivers_if true true true
receivers_under AlphanumericEdited fraction = receivers_if true true false
receivers_under Numeric fraction = if fraction
    then receivers_if false false true
    else receivers_if false true true
receivers_under NumericEdited fraction = receivers_if false true true

-- the category of an item: BLANK WHEN ZERO makes a numeric one numeric edited
abbrev pub category_with : Category → Bool → Category
category_with Numeric blank = if blank then NumericEdited else Numeric
category_with Alphabetic blank = Alphabetic
category_with Alphanumeric blank = Alphanumeric
category_with AlphanumericEdited blank = AlphanumericEdited
category_with NumericEdited blank = NumericEdited

-- the line of an item
abbrev pub item_receivers : Item → Receivers
item_receivers i = receivers_under (category_with i.picture.category i.blank) (has_fraction (scale i.picture.positions))

-- The line of a figurative constant: ZERO is the number 0, and isn't moved to alphabetic items; the others aren't moved to numbers.
--                                                              alphabetic  alphanumeric  numeric
abbrev pub figure_receivers : Figurative → Receivers
figure_receivers Zero = receivers_if false true true
figure_receivers Space = receivers_if true true false
figure_receivers HighValue = receivers_if true true false
figure_receivers LowValue = receivers_if true true false
figure_receivers Quote = receivers_if true true false

-- The line of a constant: a numeric literal is a number, a quoted one alphanumeric, and ALL with a literal like a figurative constant.
abbrev pub constant_receivers : PlainValue → Receivers
constant_receivers (NumericLiteral sign negative digits scale) = receivers_under Numeric (has_fraction scale)
constant_receivers (Quoted text) = receivers_under Alphanumeric false
constant_receivers (Figure f) = figure_receivers f
constant_receivers (Repeated text) = receivers_if true true false

-- the column of a receiver's category
abbrev pub has_receiver : Receivers → Category → Bool
has_receiver line Alphabetic = line.alphabetic
has_receiver line Alphanumeric = line.alphanumeric
has_receiver line AlphanumericEdited = line.alphanumeric
has_receiver line Numeric = line.numeric
has_receiver line NumericEdited = line.numeric

-- the line of an entry has the category; that of a group has each
abbrev pub entry_may_move : Kind → Category → Bool
entry_may_move Group category = true
entry_may_move (ItemKind i) category = has_receiver (item_receivers i) category

-- The sender may be moved to the receiver: where a group is on either side, and else where the table says so.
abbrev pub may_move : SenderKind → Kind → Bool
may_move s Group = true
may_move (Literal c) (ItemKind r) = has_receiver (constant_receivers c) r.picture.category
may_move (Entry kind) (ItemKind r) = entry_may_move kind r.picture.category
