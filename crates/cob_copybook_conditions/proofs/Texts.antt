-- How the faults of a text's words are those of reading its condition-names.
use Rattle.std.proofs.Common.{◌≡◌, refl, subst, ℕ, List, [], ◌∷◌, Bool, true, false, inl, inr}
use Rattle.cob_source.specs.Tokens.{Lexeme}
use Rattle.cob_source.specs.Words.{AreWordsOf, WordsAreOne}
use Rattle.cob_source.specs.declared.fault.SourceRule.{SourceRule}
use Rattle.cob_copybook_entry.specs.declared.fault.BookRule.{BookRule}
use Rattle.cob_copybook_entry.specs.declared.fault.BookRule.TheVariants as rule
use Rattle.cob_copybook_entries.specs.Books.{AreEntriesOf, BreaksBy, OneBreaks, BreaksEntryRule}
use Rattle.cob_copybook_entry.specs.Described.{PlainEntry}
use Rattle.cob_copybook_clauses.specs.Entries.{sentences}
use Rattle.cob_copybook_conditions.specs.Names.{AreConditionNamesOf, AreNamesIn, PlainConditionName, first_number}
use Rattle.cob_copybook_conditions.specs.Refusals.{IsNamesRefusal}

no_source_by : (b : Bool) (r : SourceRule) (s : List Lexeme) → BreaksBy b (rule.Source r) s → ⊥
no_source_by true r s h = h
no_source_by false r s h = h.2

no_source : (r : SourceRule) (ss : List (List Lexeme)) → OneBreaks (rule.Source r) ss → ⊥
no_source r [] h = h
no_source r (s ∷ ss) (inl h) = no_source_by _ r s h.1
no_source r (s ∷ ss) (inr h) = no_source r ss h

-- a rule that the words break is one for which the text is refused
pub told : (r : BookRule) (line : ℕ) (text : List ℕ) (ws : List Lexeme) → AreWordsOf text ws → (r ≡ rule.Memory → line ≡ 0) → BreaksEntryRule r ws → IsNamesRefusal r line text
told (rule.Source r) line text ws are none h = absurd (no_source r _ h)
told rule.Memory line text ws are none h = none refl
told r line text ws are none h = (ws, are, h)

-- where the text has condition-names, words that are the text's are entries
pub entries_of_words : (one : WordsAreOne) (text : List ℕ) (ws : List Lexeme) (ns : List PlainConditionName) (has : AreConditionNamesOf text ns) → AreWordsOf text ws → AreEntriesOf ws has.entries
entries_of_words one text ws ns has are = subst (λ (v : List Lexeme). AreEntriesOf v has.entries) (one text has.words ws has.are_words are) has.are_entries

-- what the text's words and entries say are the text's condition-names
pub names_found : (text : List ℕ) (ws : List Lexeme) (ds : List PlainEntry) (first : ℕ) (ns : List PlainConditionName) → AreWordsOf text ws → AreEntriesOf ws ds → first ≡ first_number ds
    → AreNamesIn first (sentences ws).ended ns → AreConditionNamesOf text ns
names_found text ws ds first ns are entries number said = record {
  words = ws;
  entries = ds;
  are_words = are;
  are_entries = entries;
  said = subst (λ (i : ℕ). AreNamesIn i (sentences ws).ended ns) number said;
}
