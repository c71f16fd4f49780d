-- The words of a record under another name.
use Rattle.std.specs.Prelude.{◌≡◌, Bool, true, false, not, ◌&&◌, ◌||◌, codes, if◌then◌else◌, ℕ, List, [], ◌∷◌}
use Rattle.cob_source.specs.Tokens.{Lexeme}
use Rattle.cob_copybook_clauses.specs.Entries.{is_word_kind, starts_clause}
use Rattle.cob_copybook_clauses.specs.Terms.{word_class}
use Rattle.cob_copybook_record.specs.OneRecord.{is_record_level, is_text_of}

-- the word with this text, where it stands
abbrev pub with_text : List ℕ → Lexeme → Lexeme
with_text text w = record w { text = text }

-- OF or IN, behind which a qualifier stands
abbrev pub is_of : Lexeme → Bool
is_of w = is_text_of (codes "OF") w || is_text_of (codes "IN") w

-- no further qualifier comes first
abbrev pub ends_qualifiers : List Lexeme → Bool
ends_qualifiers [] = true
ends_qualifiers (w ∷ ws) = not (is_of w)

-- a word behind OF or IN, or not, with these behind it: the last of qualifiers that is the record's old name is its new one
abbrev pub requalified_word : (old new : List ℕ) → Bool → Lexeme → List Lexeme → Lexeme
requalified_word old new qualifies w ws = if qualifies && (is_text_of old w && ends_qualifiers ws) then with_text new w else w

-- the words behind the name of a record; the first stands behind OF or IN, or not
abbrev pub requalified : (old new : List ℕ) → Bool → List Lexeme → List Lexeme
requalified old new qualifies [] = []
requalified old new qualifies (w ∷ ws) = requalified_word old new qualifies w ws ∷ requalified old new (is_of w) ws

-- what stands behind the level of an entry is its name, or FILLER: a word that begins no clause
abbrev pub is_entry_name : Lexeme → Bool
is_entry_name w = is_word_kind w.kind && not (starts_clause (word_class w))

-- The words behind the level of a record with this as its name, in the place of the one that it has, or of FILLER or of none. A name that an OCCURS clause
-- counts by may have the record's own as its last qualifier, which is the new one then too.
abbrev pub named_behind : List ℕ → Lexeme → List Lexeme → List Lexeme
named_behind name level [] = []
named_behind name level (w ∷ ws) = if is_entry_name w then with_text name w ∷ requalified w.text name false ws else with_text name level ∷ w ∷ ws

-- The words of a record with this as its name. Words that do not begin with level 01 stay as they are.
abbrev pub with_record_name : List ℕ → List Lexeme → List Lexeme
with_record_name name [] = []
with_record_name name (level ∷ ws) = if is_record_level level then level ∷ named_behind name level ws else level ∷ ws
