-- The words of one record in a text that describes several.
use Rattle.std.specs.Prelude.{◌≡◌, ◌≢◌, ◌⊎◌, Bool, true, false, ◌&&◌, ◌||◌, bytes_eq, codes, if◌then◌else◌, ℕ, List, [], ◌∷◌}
use Rattle.cob_source.specs.declared.token.TokenKind.{TokenKind}
use Rattle.cob_source.specs.declared.token.TokenKind.TheVariants as kind
use Rattle.cob_source.specs.Tokens.{Lexeme}
use Rattle.cob_copybook_clauses.specs.Clauses.{IsNameWord}
use Rattle.cob_copybook_clauses.specs.Entries.{is_word_kind}
use Rattle.cob_copybook_record.specs.declared.level.RecordPart.{RecordPart}
use Rattle.cob_copybook_record.specs.declared.level.RecordPart.TheVariants.{Entries, Renamings}

-- the word has this text
abbrev pub is_text_of : List ℕ → Lexeme → Bool
is_text_of text w = is_word_kind w.kind && bytes_eq w.text text

-- level 01, that of a record
abbrev pub is_record_level : Lexeme → Bool
is_record_level w = is_text_of (codes "01") w || is_text_of (codes "1") w

-- level 01, or level 77, that of an item by itself: what is described before it and from it on are two
abbrev pub is_top_level : Lexeme → Bool
is_top_level w = is_record_level w || is_text_of (codes "77") w

-- A level with which a part of a record ends: its entries before level 66 entries, which give some of them another name; both before the next level 01 or 77.
abbrev pub ends_part : RecordPart → Lexeme → Bool
ends_part Entries w = is_top_level w || is_text_of (codes "66") w
ends_part Renamings w = is_top_level w

-- a period: a sentence begins behind it
abbrev pub is_period_kind : TokenKind → Bool
is_period_kind kind.Word = false
is_period_kind kind.Literal = false
is_period_kind kind.Stop = true

-- a record of this name comes first
abbrev pub is_record_named : List ℕ → List Lexeme → Bool
is_record_named name [] = false
is_record_named name (level ∷ []) = false
is_record_named name (level ∷ named ∷ ws) = is_record_level level && is_text_of name named

-- the words from the first record of this name on, where a sentence begins with the first word, or not
abbrev pub from_record : List ℕ → Bool → List Lexeme → List Lexeme
from_record name starts [] = []
from_record name starts (w ∷ ws) = if starts && is_record_named name (w ∷ ws) then w ∷ ws else from_record name (is_period_kind w.kind) ws

-- the words of a part, up to the first sentence that ends it
abbrev pub words_of_part : RecordPart → Bool → List Lexeme → List Lexeme
words_of_part part starts [] = []
words_of_part part starts (w ∷ ws) = if starts && ends_part part w then [] else w ∷ words_of_part part (is_period_kind w.kind) ws

-- the words from that sentence on
abbrev pub words_behind_part : RecordPart → Bool → List Lexeme → List Lexeme
words_behind_part part starts [] = []
words_behind_part part starts (w ∷ ws) = if starts && ends_part part w then w ∷ ws else words_behind_part part (is_period_kind w.kind) ws

-- a level 66 entry comes first: its name, RENAMES, and the name of an entry; what stands behind that isn't looked at
abbrev pub IsRenamingFirst : List Lexeme → Type 0
IsRenamingFirst [] = ⊥
IsRenamingFirst (level ∷ []) = ⊥
IsRenamingFirst (level ∷ named ∷ []) = ⊥
IsRenamingFirst (level ∷ named ∷ renames ∷ []) = ⊥
IsRenamingFirst (level ∷ named ∷ renames ∷ entry ∷ ws) =
    (is_text_of (codes "66") level ≡ true) × IsNameWord named × (is_text_of (codes "RENAMES") renames ≡ true) × IsNameWord entry

-- each sentence is a level 66 entry, the last too ended by a period
abbrev pub AreRenamings : Bool → List Lexeme → Type 0
AreRenamings starts [] = starts ≡ true
AreRenamings true (w ∷ ws) = IsRenamingFirst (w ∷ ws) × AreRenamings (is_period_kind w.kind) ws
AreRenamings false (w ∷ ws) = AreRenamings (is_period_kind w.kind) ws

-- The entries of a record, and level 66 entries alone behind them, up to the next level 01 or 77. The first word begins the record. Level 66 entries take no
-- bytes, and are passed over.
pub record AreEntriesBefore (words own : List Lexeme) : Type 0 where
  pub own_are : own ≡ words_of_part Entries false words
  pub renamings : AreRenamings true (words_of_part Renamings true (words_behind_part Entries false words))

-- The words of the record of this name: the text has one of that name.
pub record AreWordsOfRecord (name : List ℕ) (words own : List Lexeme) : Type 0 where
  pub named : from_record name true words ≢ []
  pub alone : from_record name false (from_record name true words) ≡ []
  pub entries : AreEntriesBefore (from_record name true words) own

-- the description of a file comes first: FD, or SD
abbrev pub describes_file : List Lexeme → Bool
describes_file [] = false
describes_file (w ∷ ws) = is_text_of (codes "FD") w || is_text_of (codes "SD") w

-- the words behind the description of a file, up to whose end no level 01 or 77 begins a sentence; or all where none comes first
abbrev pub behind_file : List Lexeme → List Lexeme
behind_file ws = if describes_file ws then words_behind_part Renamings false ws else ws

-- The entries of the one record of a text, and level 66 entries alone behind them to its end.
pub record AreSoleEntries (words own : List Lexeme) : Type 0 where
  pub own_are : own ≡ words_of_part Entries false words
  pub renamings : AreRenamings true (words_behind_part Entries false words)

-- The words that are meant where no record is named: the entries of the one record of a text; or all behind the description of a file, where it has more.
abbrev pub AreSoleWords : List Lexeme → List Lexeme → Type 0
AreSoleWords words own = AreSoleEntries (behind_file words) own ⊎ (((entries : List Lexeme) → AreSoleEntries (behind_file words) entries → ⊥) × (own ≡ behind_file words))
