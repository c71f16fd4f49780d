-- The entries of a record as written, as they may be named.
use Rattle.std.specs.Prelude.{ℕ, ◌+◌, Bool, ◌||◌, is_some, List, [], ◌∷◌, ◌++◌, Option}
use Rattle.cob_picture.specs.Positions.{PlainPicture}
use Rattle.cob_copybook_entry.specs.Described.{PlainEntry, plain_entry}
use Rattle.cob_copybook_tree.specs.Forests.{Forest, NoEntries, AnEntry, entries_in}
use Rattle.cob_copybook_names.specs.declared.bearer.Bearer.{Bearer as Listed}
use Rattle.cob_copybook_names.specs.declared.listing.NumberedEntry.{NumberedEntry as ListedEntry}
use Rattle.cob_copybook_names.specs.Listed.{bearer_by}
use Rattle.cob_copybook_names.specs.Naming.{Bearer, with_name}

-- what is known of an entry besides its names: its number, whether it is, or is held by, a table, its picture, and BLANK WHEN ZERO
pub record NumberedEntry : Type 0 where
  pub number : ℕ
  pub in_table : Bool
  pub picture : Option PlainPicture
  pub blank : Bool

-- an entry of this number that is, or isn't, in a table
abbrev pub numbered_entry : Bool → ℕ → PlainEntry → NumberedEntry
numbered_entry in_table n e = record { number = n; in_table = in_table; picture = e.picture; blank = e.blank }

-- an entry of this number, beneath groups of these names; whether it is in a table is told
abbrev pub bearer_at : List (List ℕ) → Bool → ℕ → PlainEntry → Bearer NumberedEntry
bearer_at above in_table n e = record { name = e.name; above = above; entry = numbered_entry in_table n e }

-- the entries from this number on, in order, beneath groups of these names, in a table or not; a group that is FILLER adds no name
abbrev pub bearers : List (List ℕ) → Bool → ℕ → Forest PlainEntry → List (Bearer NumberedEntry)
bearers above in_table n NoEntries = []
bearers above in_table n (AnEntry e children more) =
    bearer_at above (in_table || is_some e.occurs) n e
    ∷ (bearers (with_name e.name above) (in_table || is_some e.occurs) (n + 1) children ++ bearers above in_table (n + 1 + entries_in children) more)

-- a listed entry without where it lies in memory
abbrev pub known_entry : ListedEntry → NumberedEntry
known_entry e = numbered_entry e.in_table e.number (plain_entry e.entry.now)

-- likewise with its names
abbrev pub bearer_of : Listed ListedEntry → Bearer NumberedEntry
bearer_of b = bearer_by known_entry b

-- the clauses of a listed entry
abbrev pub entry_of : Listed ListedEntry → PlainEntry
entry_of b = plain_entry b.entry.entry.now
