-- What is known of a text's entries, and how its words' faults are its own.
use Rattle.std.proofs.Common.{◌≡◌, refl, sym, subst, ℕ, List, [], ◌∷◌, Bool, true, false, inl, inr}
use Rattle.cob_source.specs.Tokens.{Lexeme}
use Rattle.cob_source.specs.Words.{AreWordsOf, WordsAreOne}
use Rattle.cob_source.specs.declared.fault.SourceRule.{SourceRule}
use Rattle.cob_copybook_entry.specs.declared.fault.BookRule.{BookRule}
use Rattle.cob_copybook_entry.specs.declared.fault.BookRule.TheVariants as rule
use Rattle.cob_copybook_entry.specs.Described.{PlainEntry}
use Rattle.cob_copybook_entries.specs.Books.{AreEntriesOf, BreaksBy, OneBreaks, BreaksEntryRule}
use Rattle.cob_copybook.specs.declared.role.Role.{Role}
use Rattle.cob_copybook.specs.Books.{HasEntries, with_record, IsTextRefusal, IsMemory}

no_source_by : (b : Bool) (r : SourceRule) (s : List Lexeme) → BreaksBy b (rule.Source r) s → ⊥
no_source_by true r s h = h
no_source_by false r s h = h.2

no_source : (r : SourceRule) (ss : List (List Lexeme)) → OneBreaks (rule.Source r) ss → ⊥
no_source r [] h = h
no_source r (s ∷ ss) (inl h) = no_source_by _ r s h.1
no_source r (s ∷ ss) (inr h) = no_source r ss h

-- a rule that the words break is broken by the text
pub told : (r : BookRule) (line : ℕ) (text : List ℕ) (ws : List Lexeme) → AreWordsOf text ws → (r ≡ rule.Memory → line ≡ 0) → BreaksEntryRule r ws → IsTextRefusal r line text
told (rule.Source r) line text ws are none h = absurd (no_source r _ h)
told rule.Memory line text ws are none h = none refl
told r line text ws are none h = (ws, are, h)

-- the entries of words that are a text's are the text's
pub entries_among : (one : WordsAreOne) (role : Role) (text : List ℕ) (ws : List Lexeme) (ds : List PlainEntry) → AreWordsOf text ws → HasEntries role text ds
    → (es : List PlainEntry) × AreEntriesOf ws es × (ds ≡ with_record role es)
entries_among one role text ws ds are has = (has.entries, subst (λ (v : List Lexeme). AreEntriesOf v has.entries) (one text has.words ws has.are_words are) has.are_entries, has.with)

pub memory : (r : BookRule) → r ≡ rule.Memory → IsMemory r
memory r e = subst IsMemory (sym e) tt
