-- What entries inherit, and what their counts' names refer to.
use Rattle.std.specs.Prelude.{ℕ, ◌+◌, Bool, true, false, ◌&&◌, not, List, slice_index_or, Option, Some, None, unwrap_or}
use Rattle.cob_picture.specs.Positions.{PlainPicture}
use Rattle.cob_picture.specs.Counts.{signed}
use Rattle.cob_picture.specs.declared.category.Category.{Category}
use Rattle.cob_picture.specs.declared.category.Category.TheVariants.{Alphabetic, Numeric, Alphanumeric, AlphanumericEdited, NumericEdited}
use Rattle.cob_copybook_entry.specs.declared.kinds.Usage.{Usage}
use Rattle.cob_copybook_entry.specs.declared.kinds.Usage.TheVariants.{Display}
use Rattle.cob_copybook_entry.specs.declared.kinds.Sign.{Sign}
use Rattle.cob_copybook_entry.specs.Kinds.{is_display}
use Rattle.cob_copybook_entry.specs.Described as described
use Rattle.cob_copybook_entry.specs.Described.{PlainEntry}
use Rattle.cob_copybook_tree.specs.declared.node.ResolvedOccurs.{ResolvedOccurs}
use Rattle.cob_copybook_tree.specs.declared.node.ResolvedOccurs.TheVariants.{Once, Fixed, Varying}
use Rattle.cob_copybook_tree.specs.declared.node.Item.{Item}
use Rattle.cob_copybook_tree.specs.declared.node.Kind.{Kind}
use Rattle.cob_copybook_tree.specs.declared.node.Kind.TheVariants.{Group, Item as ItemKind}
use Rattle.cob_copybook_tree.specs.Forests.{Forest, NoEntries, AnEntry, entries_in}
use Rattle.cob_copybook_tree.specs.Nodes.{Resolved}

-- an entry's own clause, else that of the nearest group that has one
abbrev pub inherited : {A : Type 0} → Option A → Option A → Option A
inherited above None = above
inherited above (Some own) = Some own

-- the category of numbers that aren't edited
abbrev pub is_numeric : Category → Bool
is_numeric Numeric = true
is_numeric Alphabetic = false
is_numeric Alphanumeric = false
is_numeric AlphanumericEdited = false
is_numeric NumericEdited = false

-- an item that is a number and is not edited: BLANK WHEN ZERO makes a number an edited one
abbrev pub is_number : Item → Bool
is_number i = is_numeric i.picture.category && not i.blank

-- a signed DISPLAY number
abbrev pub keeps_sign : Usage → PlainPicture → Bool
keeps_sign usage p = is_display usage && (is_numeric p.category && signed p.positions)

-- SIGN acts on signed DISPLAY numbers alone
abbrev pub acting : Bool → Option Sign → Option Sign
acting true sign = sign
acting false sign = None

-- an entry with a picture is an item
abbrev pub kind_by_picture : Option PlainPicture → Usage → Option Sign → Bool → Bool → Kind
kind_by_picture None usage sign justified blank = Group
kind_by_picture (Some p) usage sign justified blank = ItemKind (record { picture = p; usage = usage; sign = acting (keeps_sign usage p) sign; justified = justified; blank = blank })

-- how often an entry occurs, where its count has this number; a table that varies but has no count occurs as often as it may at most
abbrev pub times_of : Option described.PlainOccurs → Option ℕ → ResolvedOccurs
times_of None count = Once
times_of (Some (described.Fixed n)) count = Fixed n
times_of (Some (described.Varying least most name qualifiers)) (Some count) = Varying least most count
times_of (Some (described.Varying least most name qualifiers)) None = Fixed most

-- the count of the entry with this number; none where none is told
abbrev pub count_at : List (Option ℕ) → ℕ → Option ℕ
count_at counts number = slice_index_or counts number None

-- an entry with what it inherits, its number, and the number of its count, if it has one
abbrev pub resolved_by : ℕ → Option ℕ → Option Usage → Option Sign → PlainEntry → Resolved
resolved_by number count usage sign e = record {
  number = number;
  level = e.level;
  name = e.name;
  kind = kind_by_picture e.picture (unwrap_or usage Display) sign e.justified e.blank;
  occurs = times_of e.occurs count;
  redefines = e.redefines;
  value = e.value;
}

-- the entries from this number on, beneath groups with this usage and sign; the numbers of counts stand by the numbers of their tables
abbrev pub resolved : List (Option ℕ) → ℕ → Option Usage → Option Sign → Forest PlainEntry → Forest Resolved
resolved counts n usage sign NoEntries = NoEntries
resolved counts n usage sign (AnEntry e children more) =
    AnEntry (resolved_by n (count_at counts n) (inherited usage e.usage) (inherited sign e.sign) e)
    (resolved counts (n + 1) (inherited usage e.usage) (inherited sign e.sign) children)
    (resolved counts (n + 1 + entries_in children) usage sign more)
