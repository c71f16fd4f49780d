-- How the reading of the words ends, well or with a fault.
use Rattle.std.proofs.Common.{◌≡◌, ◌⊎◌, ◌+◌, ◌<◌, ◌≤◌, Bool, true, false, List, [], ◌∷◌, ◌++◌, length, Option, Some, None, refl, ap, sym, ◌∙◌, subst, inl, inr, arith, append-nil, length-append}
use Rattle.std.proofs.lemmas.Bool.{true≢false}
use Rattle.std.proofs.lemmas.List.{length-map}
use Rattle.std.proofs.lemmas.List.Sums.{sum_by-cons}
use Rattle.cob_source.specs.declared.token.Token.{Token}
use Rattle.cob_source.specs.Tokens.{Lexeme, lexeme, lexemes}
use Rattle.cob_source.specs.declared.token.TokenKind.TheVariants as kind
use Rattle.cob_copybook_clauses.proofs.CutLemmas.{cut, ends}
use Rattle.cob_copybook_clauses.specs.Entries.{Sentences, sentences, is_condition, HasNoStop}
use Rattle.cob_copybook_entry.specs.declared.fault.BookRule.{BookRule}
use Rattle.cob_copybook_entry.specs.declared.fault.BookRule.TheVariants as rule
use Rattle.cob_limits.specs.Limits.{most_entries}
use Rattle.cob_copybook_entry.specs.Described.{PlainEntry}
use Rattle.cob_copybook_entries.specs.Books.{AreDescribed, AreEntriesOf, BeginsWithData, BeginsWithCondition, BreaksBy, BreaksEntryRule, OneBreaks, data_entries}
use Rattle.cob_copybook_entries.specs.Adds.{Adds, IsAdded, IsPlaceFault, IsSentenceFault, listed}
use Rattle.cob_copybook_entries.proofs.Reading.{SoFar, IsFirst, one, one_is, sentence_adds}

-- A sentence stands at the front of the words, and these are left behind it.
abbrev pub IsFront : List Lexeme → List Lexeme → List Lexeme → Type 0
IsFront rest s behind = (stop : Lexeme) × (stop.kind ≡ kind.Stop) × HasNoStop s × (rest ≡ s ++ stop ∷ behind)

pub front_cut : (rest s behind : List Lexeme) → IsFront rest s behind → IsFirst rest s behind
front_cut rest s behind h = subst (λ (ws : List Lexeme). IsFirst ws s behind) (sym h.3) (cut s behind h.0 h.1 h.2)

-- fewer words are left
pub shorter : (ts ss bs : List Token) → IsFront (lexemes ts) (lexemes ss) (lexemes bs) → length bs < length ts
shorter ts ss bs h =
    let all : length (lexemes ts) ≡ length (lexemes ss) + length (h.0 ∷ lexemes bs) = ap length h.3 ∙ length-append (lexemes ss) (h.0 ∷ lexemes bs) in
    omega (arith, all, length-map ts lexeme, length-map bs lexeme)

-- rules that no sentence breaks
by_none : (b : Bool) (s : List Lexeme) → BreaksBy b rule.NoEntry s → ⊥
by_none true s h = h
by_none false s h = h.2

by_many : (b : Bool) (s : List Lexeme) → BreaksBy b rule.TooMany s → ⊥
by_many true s h = h
by_many false s h = h.2

no_empty : (ss : List (List Lexeme)) → OneBreaks rule.NoEntry ss → ⊥
no_empty [] h = h
no_empty (s ∷ ss) (inl h) = by_none (is_condition s) s h.1
no_empty (s ∷ ss) (inr h) = no_empty ss h

not_many : (ss : List (List Lexeme)) → OneBreaks rule.TooMany ss → ⊥
not_many [] h = h
not_many (s ∷ ss) (inl h) = by_many (is_condition s) s h.1
not_many (s ∷ ss) (inr h) = not_many ss h

-- what one of the sentences breaks, the words break
one_broken : (r : BookRule) (ws : List Lexeme) → OneBreaks r (sentences ws).ended → BreaksEntryRule r ws
one_broken (rule.Source f) ws h = h
one_broken rule.NoEntry ws h = absurd (no_empty (sentences ws).ended h)
one_broken rule.Grammar ws h = inr (inr h)
one_broken rule.Level ws h = h
one_broken (rule.Picture f) ws h = h
one_broken rule.Usage ws h = h
one_broken rule.Sign ws h = h
one_broken rule.Redefinition ws h = h
one_broken rule.Table ws h = h
one_broken rule.Count ws h = h
one_broken rule.Value ws h = h
one_broken rule.Placement ws h = h
one_broken (rule.LeftOut word) ws h = h
one_broken rule.Name ws h = h
one_broken rule.TooLong ws h = h
one_broken rule.TooMany ws h = absurd (not_many (sentences ws).ended h)
one_broken rule.Memory ws h = tt

as_broken : (r s : BookRule) (ws : List Lexeme) → r ≡ s → BreaksEntryRule s ws → BreaksEntryRule r ws
as_broken r s ws e h = subst (λ (t : BookRule). BreaksEntryRule t ws) (sym e) h

-- what a sentence that can't be put there breaks, the words break
place_broken : (r : BookRule) (ws rest behind s : List Lexeme) (ds : List PlainEntry) (d : Option PlainEntry) → SoFar ws rest ds
    → (sentences rest).ended ≡ s ∷ (sentences behind).ended → IsAdded s d → IsPlaceFault r ds d → BreaksEntryRule r ws
place_broken r ws rest behind s ds None far ended added h =
    let first : BeginsWithCondition (sentences rest).ended = subst BeginsWithCondition (sym ended) added.0 in
    as_broken r rule.Grammar ws h.0 (inr (inl (subst (λ (v : List Lexeme). BeginsWithCondition (sentences v).ended) (far.first h.1) first)))
place_broken r ws rest behind s ds (Some d) far ended added (inl m) = as_broken r rule.Memory ws m tt
place_broken r ws rest behind s ds (Some d) far ended added (inr h) =
    let later : data_entries (sentences rest).ended ≡ one s + data_entries (sentences behind).ended = ap data_entries ended ∙ sum_by-cons one s (sentences behind).ended in
    as_broken r rule.TooMany ws h.0 (omega (arith, far.count, later, one_is s (Some d) added, h.1))

-- a sentence's fault is one of the words
pub sentence_broken : (r : BookRule) (ws rest behind s : List Lexeme) (ds : List PlainEntry) → SoFar ws rest ds
    → IsFirst rest s behind → IsSentenceFault r ds s → BreaksEntryRule r ws
sentence_broken r ws rest behind s ds far is (inl m) = as_broken r rule.Memory ws m tt
sentence_broken r ws rest behind s ds far is (inr (inl h)) =
    one_broken r ws (far.breaks r (subst (OneBreaks r) (sym (is.0)) (inl h)))
sentence_broken r ws rest behind s ds far is (inr (inr h)) =
    place_broken r ws rest behind s ds h.0 far (is.0) h.1.1 h.2

-- of words that are entries a sentence is refused for want of memory alone
place_only : (r : BookRule) (ws rest behind s : List Lexeme) (ds all more : List PlainEntry) (d : Option PlainEntry) → SoFar ws rest ds
    → (sentences rest).ended ≡ s ∷ (sentences behind).ended → BeginsWithData (sentences ws).ended → length all ≤ most_entries
    → IsAdded s d → all ≡ ds ++ (listed d ++ more) → IsPlaceFault r ds d → r ≡ rule.Memory
place_only r ws rest behind s ds all more None far ended data_first few added is h =
    let at : BeginsWithData (sentences rest).ended = subst (λ (v : List Lexeme). BeginsWithData (sentences v).ended) (sym (far.first h.1)) data_first in
    let here : is_condition s ≡ false = subst BeginsWithData ended at in
    let e : true ≡ false = sym added.0 ∙ here in
    absurd (true≢false e)
place_only r ws rest behind s ds all more (Some d) far ended data_first few added is (inl m) = m
place_only r ws rest behind s ds all more (Some d) far ended data_first few added is (inr h) =
    let total : length all ≡ length ds + length (d ∷ more) = ap length is ∙ length-append ds (d ∷ more) in
    absurd (omega (arith, total, few, h.1))

pub sentence_only : (r : BookRule) (ws rest behind s : List Lexeme) (ds all : List PlainEntry) → SoFar ws rest ds
    → IsFirst rest s behind
    → ((d : Option PlainEntry) → Adds s d → (r ≡ rule.Memory) ⊎ IsPlaceFault r ds d)
    → AreEntriesOf ws all → r ≡ rule.Memory
sentence_only r ws rest behind s ds all far is fault entries =
    let ended = is.0 in
    let back = far.only all entries.entries in
    let at : AreDescribed (s ∷ (sentences behind).ended) back.0 = subst (λ ss. AreDescribed ss back.0) ended back.1 in
    let added = sentence_adds (is_condition s) s back.0 at.1.0 refl at.1.1 in
    elim (fault added.0 (at.0, added.1)) [
      | inl m ↦ m
      | inr h ↦ place_only r ws rest behind s ds all at.1.0 added.0 far ended entries.begins entries.few added.1 (back.2 ∙ ap (λ t. ds ++ t) added.2) h
    ]

-- words behind the last period
pub open_end : (ws rest : List Lexeme) (ds : List PlainEntry) → SoFar ws rest ds → HasNoStop rest → (sentences ws).open_end ≡ rest
open_end ws rest ds far none = far.left ∙ ap (λ (ss : Sentences). ss.open_end) (ends rest none)

pub not_empty : (ts : List Token) → (length ts ≡ 0 → ⊥) → lexemes ts ≡ [] → ⊥
not_empty [] some e = some refl
not_empty (t ∷ ts) some e = cc

-- no word is left
pub all_read : (ws : List Lexeme) (ds : List PlainEntry) → SoFar ws [] ds → (ws ≡ [] → ⊥) → AreEntriesOf ws ds
all_read ws ds far some = record {
  ended = far.left;
  begins = first ds far;
  entries = subst (AreDescribed (sentences ws).ended) (append-nil ds) (far.found [] refl);
  few = far.few;
}
  where
    first : (ds : List PlainEntry) → SoFar ws [] ds → BeginsWithData (sentences ws).ended
    first [] far = absurd (some (sym (far.first refl)))
    first (d ∷ ds) far = far.begins (omega arith)
