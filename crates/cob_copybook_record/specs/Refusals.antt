-- Why a text has no record of a name.
use Rattle.std.specs.Prelude.{◌≡◌, ◌≢◌, true, false, ℕ, List, []}
use Rattle.cob_source.specs.Tokens.{Lexeme}
use Rattle.cob_copybook_record.specs.declared.record.NoRecord.{NoRecord}
use Rattle.cob_copybook_record.specs.declared.record.NoRecord.TheVariants as no_record
use Rattle.cob_copybook_record.specs.declared.level.RecordPart.TheVariants.{Entries, Renamings}
use Rattle.cob_copybook_record.specs.OneRecord.{AreRenamings, from_record, words_behind_part, words_of_part}

-- no record has the name, several have it, or what stands between its entries and the next level 01 or 77 are no level 66 entries
abbrev pub IsNoRecord : NoRecord → List ℕ → List Lexeme → Type 0
IsNoRecord no_record.Unknown name words = from_record name true words ≡ []
IsNoRecord no_record.Ambiguous name words = from_record name false (from_record name true words) ≢ []
IsNoRecord no_record.Renaming name words = AreRenamings true (words_of_part Renamings true (words_behind_part Entries false (from_record name true words))) → ⊥
