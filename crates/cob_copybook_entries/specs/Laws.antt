-- What follows from the definitions, said as laws.
use Rattle.std.specs.Prelude.{◌≡◌, List}
use Rattle.cob_source.specs.Tokens.{Lexeme}
use Rattle.cob_copybook_entry.specs.Described.{PlainEntry}
use Rattle.cob_copybook_entry.specs.declared.fault.BookRule.{BookRule}
use Rattle.cob_copybook_entry.specs.declared.fault.BookRule.TheVariants.{Memory}
use Rattle.cob_copybook_entries.specs.Books.{AreEntriesOf, BreaksEntryRule}

-- words are one list of entries at most
abbrev pub OneListOfEntries : Type 0
OneListOfEntries = (ws : List Lexeme) (a b : List PlainEntry) → AreEntriesOf ws a → AreEntriesOf ws b → a ≡ b

-- words that are entries break no rule on words
abbrev pub EntriesBreakNoRule : Type 0
EntriesBreakNoRule = (ws : List Lexeme) (ds : List PlainEntry) (r : BookRule) → AreEntriesOf ws ds → BreaksEntryRule r ws → r ≡ Memory
