-- What one sentence adds to the entries.
use Rattle.std.specs.Prelude.{◌≡◌, ◌⊎◌, true, false, List, [], ◌∷◌, ◌++◌, length, map, Option, Some, None, IsSome, Result, OnOk, IfErr}
use Rattle.cob_source.specs.Tokens.{Lexeme}
use Rattle.cob_copybook_clauses.specs.Entries.{is_condition}
use Rattle.cob_copybook_entry.specs.declared.entry.Entry.{Entry}
use Rattle.cob_copybook_entry.specs.declared.fault.BookRule.{BookRule}
use Rattle.cob_copybook_entry.specs.declared.fault.BookRule.TheVariants as rule
use Rattle.cob_limits.specs.Limits.{most_entries}
use Rattle.cob_copybook_entry.specs.Described.{PlainEntry, plain_entry}
use Rattle.cob_copybook_entries.specs.Books.{HasNoLeftOut, IsConditionEntry, IsEntry, BreaksSentence}

-- a level 88 entry adds nothing, a data entry itself
abbrev pub IsAdded : List Lexeme → Option PlainEntry → Type 0
IsAdded s None = (is_condition s ≡ true) × IsConditionEntry s
IsAdded s (Some d) = (is_condition s ≡ false) × IsEntry s d

-- nothing that is left out by name stands in the sentence, and it adds this
abbrev pub Adds : List Lexeme → Option PlainEntry → Type 0
Adds s d = HasNoLeftOut s × IsAdded s d

-- what is added, as a list
abbrev pub listed : Option PlainEntry → List PlainEntry
listed None = []
listed (Some d) = d ∷ []

-- Why behind these entries another can't be put: memory was refused; none stands before a level 88 entry; or there are as many as
-- there may be.
abbrev pub IsPlaceFault : BookRule → List PlainEntry → Option PlainEntry → Type 0
IsPlaceFault r ds None = (r ≡ rule.Grammar) × (ds ≡ [])
IsPlaceFault r ds (Some d) = (r ≡ rule.Memory) ⊎ ((r ≡ rule.TooMany) × (length ds ≡ most_entries))

-- memory was refused, or the sentence breaks the rule, or can't be put there
abbrev pub IsSentenceFault : BookRule → List PlainEntry → List Lexeme → Type 0
IsSentenceFault r ds s = (r ≡ rule.Memory) ⊎ (BreaksSentence r s ⊎ ((d : Option PlainEntry) × Adds s d × IsPlaceFault r ds d))

-- The entries after are those before, and behind them what the sentence adds: an entry, or none, but not where none stands before.
abbrev pub AddsSentence : List Lexeme → (before after : List Entry) → Type 0
AddsSentence s before after =
    (d : Option PlainEntry)
    × Adds s d
    × (map plain_entry after ≡ map plain_entry before ++ listed d)
    × (map plain_entry before ≡ [] → IsSome d)

-- A sentence that adds this is put behind the entries before; or memory was refused, or it can't be put there.
abbrev pub PutsBehind : Option PlainEntry → Result (Unit {0}) BookRule → (before after : List Entry) → Type 0
PutsBehind d answer before after =
    OnOk answer (map plain_entry after ≡ map plain_entry before ++ listed d)
    × IfErr answer (λ r. (r ≡ rule.Memory) ⊎ IsPlaceFault r (map plain_entry before) d)
