-- Entries that are listed behind others.
use Rattle.std.specs.Prelude.{◌≡◌, ℕ, Bool, List, [], ◌∷◌, ◌++◌, length, map}
use Rattle.cob_copybook_entry.specs.Described.{PlainEntry}
use Rattle.cob_copybook_names.specs.declared.bearer.Bearer.{Bearer as Listed}
use Rattle.cob_copybook_names.specs.declared.listing.NumberedEntry.{NumberedEntry as ListedEntry}
use Rattle.cob_copybook_names.specs.Naming.{Bearer}
use Rattle.cob_copybook_names.specs.Entries.{NumberedEntry, bearer_at, bearer_of}

-- these are listed behind those before
abbrev pub ListsBearers : List (Listed ListedEntry) → List (Listed ListedEntry) → List (Bearer NumberedEntry) → Type 0
ListsBearers before after more = map bearer_of after ≡ map bearer_of before ++ more

-- an entry is listed behind those before, beneath groups of these names, as one of the number that is next, in a table or not
abbrev pub ListsBearer : List (List ℕ) → Bool → PlainEntry → (before after : List (Listed ListedEntry)) → Type 0
ListsBearer above in_table e before after = ListsBearers before after (bearer_at above in_table (length before) e ∷ [])
