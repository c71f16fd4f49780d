-- What holds of records in one text whatever their words are.
use Rattle.std.specs.Prelude.{◌≡◌, true, false, ℕ, List, [], ◌∷◌}
use Rattle.cob_source.specs.Tokens.{Lexeme}
use Rattle.cob_copybook_record.specs.declared.record.NoRecord.{NoRecord}
use Rattle.cob_copybook_record.specs.declared.level.RecordPart.TheVariants.{Entries}
use Rattle.cob_copybook_record.specs.OneRecord.{AreSoleEntries, AreWordsOfRecord, is_record_level, is_record_named, words_behind_part}
use Rattle.cob_copybook_record.specs.RecordName.{with_record_name}
use Rattle.cob_copybook_record.specs.Refusals.{IsNoRecord}

-- law: words in which no second record, level 66 or level 77 begins stay as they are
abbrev pub SoleWordsStay : Type 0
SoleWordsStay = (ws : List Lexeme) → words_behind_part Entries false ws ≡ [] → AreSoleEntries ws ws

-- law: a text that has a record of a name is not refused
abbrev pub FoundIsNotRefused : Type 0
FoundIsNotRefused = (name : List ℕ) (ws own : List Lexeme) (why : NoRecord) → AreWordsOfRecord name ws own → IsNoRecord why name ws → ⊥

-- law: words that begin a record, with at least one behind its level, begin one of the name that they are given
abbrev pub GivenNameIsBorne : Type 0
GivenNameIsBorne = (name : List ℕ) (level w : Lexeme) (ws : List Lexeme) → is_record_level level ≡ true → is_record_named name (with_record_name name (level ∷ w ∷ ws)) ≡ true
