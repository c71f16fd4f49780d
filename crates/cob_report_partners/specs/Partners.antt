-- Which entry of the input record an item of the output record receives.
use Rattle.std.specs.Prelude.{◌≡◌, ℕ, ◌<◌, Bool, true, false, ◌==◌, ◌&&◌, bytes_eq, nat_le, nat_lt, not, is_some, List, [], ◌∷◌, ◌++◌, length, map, filter, Option, Some, None}
use Rattle.std.specs.Borrow.{Bor}
use Rattle.cob_copybook_names.specs.declared.bearer.Bearer.{Bearer as Listed}
use Rattle.cob_copybook_names.specs.Listed.{texts}
use Rattle.cob_copybook_names.specs.Naming.{Bearer}
use Rattle.cob_copybook_tree.specs.declared.node.Kind.{Kind}
use Rattle.cob_copybook_tree.specs.declared.node.Kind.TheVariants.{Group, Item as ItemKind}
use Rattle.cob_move_data.specs.declared.operands.Side.{Side}
use Rattle.cob_move_data.specs.declared.operands.Side.TheVariants.{In, Out}
use Rattle.cob_move_names.specs.Pairs.{same_names}
use Rattle.cob_picture.specs.Positions.{shows_number}
use Rattle.cob_report_partners.specs.Entries.{DraftEntry, draft_entry, listed_bearer}
use Rattle.cob_report_partners.specs.Groups.{below_record, is_below, names_there, shared_above}
use Rattle.cob_report_partners.specs.declared.entries.DraftEntry.{DraftEntry as ListedEntry}
use Rattle.cob_report_partners.specs.declared.partners.Partner.{Partner}
use Rattle.cob_report_partners.specs.declared.partners.Partner.TheVariants as partner
use Rattle.cob_report_partners.specs.declared.partners.Sought.{Sought}
use Rattle.cob_report_partners.specs.declared.partners.Sought.TheVariants as sought
use Rattle.cob_report_partners.specs.declared.records.BothRecords.{BothRecords}

-- both entries have a name, and it is one
abbrev pub share_name : Option (List ℕ) → Option (List ℕ) → Bool
share_name None b = false
share_name (Some a) None = false
share_name (Some a) (Some b) = bytes_eq a b

-- the entry is of the input record
abbrev pub is_input : Side → Bool
is_input In = true
is_input Out = false

-- the entries of the input record
abbrev pub input_bearers : BothRecords → List (Bearer DraftEntry)
input_bearers r = map listed_bearer r.inputs.items

-- and those of the output record
abbrev pub output_bearers : BothRecords → List (Bearer DraftEntry)
output_bearers r = map listed_bearer r.outputs.items

-- and those of both
abbrev pub all_bearers : BothRecords → List (Bearer DraftEntry)
all_bearers r = input_bearers r ++ output_bearers r

-- how qualifiers are to agree: whole, or as far as both records have groups of their names
pub data Agreement : Type 0 where
  Whole : Agreement
  Shared : Agreement

-- The qualifiers of an item of the output record and of an entry of the input record agree: they are the same; or they are the same as far as they are
-- there, those left out that no group of the other record has as its name.
abbrev pub agree : Agreement → BothRecords → List (List ℕ) → List (List ℕ) → Bool
agree Whole r to from = same_names to from
agree Shared r to from = same_names (names_there (input_bearers r) to) (names_there (output_bearers r) from)

-- an entry of the input record stands below it and in no redefinition, and has the name of an item
abbrev pub is_namesake : Bearer DraftEntry → Bearer DraftEntry → Bool
is_namesake to b = is_input b.entry.side && (b.entry.own && (is_below b.above && share_name to.name b.name))

-- An entry may be a partner: it is of the input record, stands below it and in no redefinition, and has the name; and the qualifiers of the two agree,
-- the nearest first, FILLER and the records left out.
abbrev pub may_be_partner : Agreement → BothRecords → Bearer DraftEntry → Bearer DraftEntry → Bool
may_be_partner how r to b = is_namesake to b && agree how r (below_record to.above) (below_record b.above)

-- those that may be a partner
abbrev pub fitting : Agreement → BothRecords → Bearer DraftEntry → List (Bearer DraftEntry) → List (Bearer DraftEntry)
fitting how r to bs = filter (λ b. may_be_partner how r to b) bs

-- the first list, and where it is empty the other
abbrev pub or_others : {A : Type 0} → List A → List A → List A
or_others [] others = others
or_others (x ∷ xs) others = x ∷ xs

-- The candidates: those whose qualifiers are the same, and where there are none those whose qualifiers are the same as far as they are there.
abbrev pub candidates_for : BothRecords → Bearer DraftEntry → List (Bearer DraftEntry)
candidates_for r to = or_others (fitting Whole r to (input_bearers r)) (fitting Shared r to (input_bearers r))

-- an entry is this one
abbrev pub is_this_one : ℕ → Option ℕ → Bool
is_this_one number None = false
is_this_one number (Some other) = other == number

-- an entry is a redefinition of the sender, or stands in one, and has the name of an item
abbrev pub redefines_sender : DraftEntry → Bearer DraftEntry → Bearer DraftEntry → Bool
redefines_sender sender to b = is_this_one sender.number b.entry.redefined && share_name to.name b.name

-- The candidates for an item that stands beneath what receives the sender: those of its name in redefinitions of the sender, and where there are none those
-- that it has else.
abbrev pub candidates_within : BothRecords → DraftEntry → Bearer DraftEntry → List (Bearer DraftEntry)
candidates_within r sender to = or_others (filter (λ b. redefines_sender sender to b) (input_bearers r)) (candidates_for r to)

-- an entry stands beneath another one of its record
abbrev pub is_beneath : DraftEntry → DraftEntry → Bool
is_beneath group e = nat_lt group.number e.number && nat_le e.number group.last

-- both are so, or neither is
abbrev pub are_same : Bool → Bool → Bool
are_same true b = b
are_same false b = not b

-- both are items, and both are numbers (also edited ones), or neither is
abbrev pub are_alike : Kind → Kind → Bool
are_alike Group b = false
are_alike (ItemKind i) Group = false
are_alike (ItemKind i) (ItemKind j) = are_same (shows_number i.picture.category) (shows_number j.picture.category)

-- an item with a name stands beneath a group and in no redefinition, and is a number where another item is
abbrev pub is_item_beneath : DraftEntry → Bearer DraftEntry → Bearer DraftEntry → Bool
is_item_beneath group to b = b.entry.own && (is_some b.name && (is_beneath group b.entry && are_alike b.entry.kind to.entry.kind))

-- those of the input record
abbrev pub items_beneath : BothRecords → DraftEntry → Bearer DraftEntry → List (Bearer DraftEntry)
items_beneath r group to = filter (λ b. is_item_beneath group to b) (input_bearers r)

-- the one candidate that there is, or that there is none, or several
abbrev pub IsOnly : Partner → List (Bearer DraftEntry) → Type 0
IsOnly partner.Missing bs = bs ≡ []
IsOnly (partner.One b) bs = bs ≡ listed_bearer b.now ∷ []
IsOnly partner.Several bs = 1 < length bs

-- an entry that was found, as a list
abbrev pub found_bearer : Option (Bor (Listed ListedEntry)) → List (Bearer DraftEntry)
found_bearer None = []
found_bearer (Some b) = listed_bearer b.now ∷ []

-- the entry of the input record is sought
abbrev pub is_sought : Sought → BothRecords → Bearer DraftEntry → Bearer DraftEntry → Bool
is_sought sought.Whole r to b = may_be_partner Whole r to b
is_sought (sought.Shared names) r to b = is_namesake to b && same_names (texts names.now) (names_there (output_bearers r) (below_record b.above))
is_sought (sought.Within sender) r to b = redefines_sender (draft_entry sender.now) to b
is_sought (sought.Beneath group) r to b = is_item_beneath (draft_entry group.now) to b

-- the answer says of an entry of the input record that it is sought, with the names of groups above it that groups of the output record have
abbrev pub TellsSought : Sought → (to from : Bearer DraftEntry) → List (List ℕ) → Bool → Type 0
TellsSought s to from shared answer =
    (r : BothRecords) → shared ≡ shared_above (output_bearers r) from → answer ≡ is_sought s r to from

-- those that are sought
abbrev pub those_sought : Sought → BothRecords → Bearer DraftEntry → List (Bearer DraftEntry) → List (Bearer DraftEntry)
those_sought s r to bs = filter (λ b. is_sought s r to b) bs
