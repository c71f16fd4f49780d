-- What is read so far of the words, and what is left.
use Rattle.std.proofs.Common.{◌≡◌, ℕ, ◌+◌, ◌<◌, ◌≤◌, Bool, true, false, cond, List, [], ◌∷◌, ◌++◌, length, Option, Some, None, refl, ap, sym, ◌∙◌, subst, inr, arith, append_assoc, length-append}
use Rattle.std.specs.Prelude.{not, IsSome}
use Rattle.std.proofs.lemmas.Bool.{false≢true}
use Rattle.std.proofs.lemmas.List.Sums.{sum_by-cons}
use Rattle.cob_source.specs.Tokens.{Lexeme}
use Rattle.cob_copybook_clauses.specs.Entries.{sentences, is_condition}
use Rattle.cob_copybook_entry.specs.declared.fault.BookRule.{BookRule}
use Rattle.cob_limits.specs.Limits.{most_entries}
use Rattle.cob_copybook_entry.specs.Described.{PlainEntry}
use Rattle.cob_copybook_entries.specs.Books.{IsSentence, AreDescribed, BeginsWithData, OneBreaks, data_entries}
use Rattle.cob_copybook_entries.specs.Adds.{Adds, IsAdded, listed}

-- These entries are read, and the words `rest` are left: what is in the rest is in all, and all is what is read and what is in the
-- rest.
pub record SoFar (ws rest : List Lexeme) (ds : List PlainEntry) : Type 0 where
  pub found : (more : List PlainEntry) → AreDescribed (sentences rest).ended more → AreDescribed (sentences ws).ended (ds ++ more)
  pub only : (all : List PlainEntry) → AreDescribed (sentences ws).ended all → (more : List PlainEntry) × AreDescribed (sentences rest).ended more × (all ≡ ds ++ more)
  pub left : (sentences ws).open_end ≡ (sentences rest).open_end
  pub breaks : (r : BookRule) → OneBreaks r (sentences rest).ended → OneBreaks r (sentences ws).ended
  pub count : data_entries (sentences ws).ended ≡ length ds + data_entries (sentences rest).ended
  pub first : ds ≡ [] → rest ≡ ws
  pub begins : 0 < length ds → BeginsWithData (sentences ws).ended
  pub few : length ds ≤ most_entries

pub begins : (ws : List Lexeme) (ds : List PlainEntry) → ds ≡ [] → SoFar ws ws ds
begins ws [] e = record {
  found = λ more h. h;
  only = λ all h. (all, h, refl);
  left = refl;
  breaks = λ r h. h;
  count = omega arith;
  first = λ e. refl;
  begins = λ lt. absurd (omega (arith, lt));
  few = omega arith;
}
begins ws (d ∷ ds) e = absurd cc

-- how many data entries a sentence is
abbrev pub one : List Lexeme → ℕ
one s = cond (not (is_condition s)) 1 0

pub one_is : (s : List Lexeme) (d : Option PlainEntry) → IsAdded s d → one s ≡ length (listed d)
one_is s None h = ap (λ b. cond (not b) 1 0) h.0
one_is s (Some d) h = ap (λ b. cond (not b) 1 0) h.0

-- what the first sentence adds stands before what the others do
described_found : (s : List Lexeme) (ss : List (List Lexeme)) (d : Option PlainEntry) (more : List PlainEntry) → Adds s d → AreDescribed ss more → AreDescribed (s ∷ ss) (listed d ++ more)
described_found s ss None more h rest =
    (h.0, (more, subst (λ b. IsSentence b s more more) (sym h.1.0) (h.1.1, refl), rest))
described_found s ss (Some d) more h rest =
    (h.0, (more, subst (λ b. IsSentence b s (d ∷ more) more) (sym h.1.0) (d, h.1.1, refl), rest))

-- what a sentence is, it adds
pub sentence_adds : (b : Bool) (s : List Lexeme) (ds more : List PlainEntry) → is_condition s ≡ b → IsSentence b s ds more → (d : Option PlainEntry) × IsAdded s d × (ds ≡ listed d ++ more)
sentence_adds true s ds more e h = (None, (e, h.0), h.1)
sentence_adds false s ds more e h = (Some h.0, (e, h.1), h.2)

-- the sentence is the first of the rest, and these words are left behind it
abbrev pub IsFirst : List Lexeme → List Lexeme → List Lexeme → Type 0
IsFirst rest s behind = ((sentences rest).ended ≡ s ∷ (sentences behind).ended) × ((sentences rest).open_end ≡ (sentences behind).open_end)

begins_now : (ws rest behind s : List Lexeme) (ds : List PlainEntry) (d : Option PlainEntry) → SoFar ws rest ds
    → (sentences rest).ended ≡ s ∷ (sentences behind).ended → IsAdded s d → (ds ≡ [] → IsSome d) → BeginsWithData (sentences ws).ended
begins_now ws rest behind s (e ∷ ds) d far ended added some = far.begins (omega arith)
begins_now ws rest behind s [] None far ended added some = absurd (false≢true (some refl))
begins_now ws rest behind s [] (Some d) far ended added some =
    subst (λ (v : List Lexeme). BeginsWithData (sentences v).ended) (far.first refl) (subst BeginsWithData (sym ended) added.0)

no_more : (ds : List PlainEntry) (d : Option PlainEntry) → (ds ≡ [] → IsSome d) → ds ++ listed d ≡ [] → ⊥
no_more [] None some e = absurd (false≢true (some refl))
no_more [] (Some d) some e = cc
no_more (x ∷ ds) d some e = cc

-- one more sentence is read
pub goes_on : (ws rest behind s : List Lexeme) (ds now : List PlainEntry) → SoFar ws rest ds
    → IsFirst rest s behind
    → (d : Option PlainEntry) × Adds s d × (now ≡ ds ++ listed d) × (ds ≡ [] → IsSome d)
    → ((d : Option PlainEntry) → Adds s d → now ≡ ds ++ listed d)
    → length now ≤ most_entries
    → SoFar ws behind now
goes_on ws rest behind s ds now far is h same few =
    let d = h.0 in
    let ended = is.0 in
    record {
      found = λ more rest_is.
          let all = far.found (listed d ++ more) (subst (λ ss. AreDescribed ss (listed d ++ more)) (sym ended) (described_found s (sentences behind).ended d more h.1 rest_is)) in
          subst (AreDescribed (sentences ws).ended) (sym (ap (λ t. t ++ more) h.2 ∙ append_assoc ds (listed d) more)) all;
      only = λ all all_is.
          let back = far.only all all_is in
          let at : AreDescribed (s ∷ (sentences behind).ended) back.0 = subst (λ ss. AreDescribed ss back.0) ended back.1 in
          let more = at.1.0 in
          let added = sentence_adds (is_condition s) s back.0 more refl at.1.1 in
          (more, at.1.2, back.2 ∙ ap (λ t. ds ++ t) added.2 ∙ sym (append_assoc ds (listed added.0) more) ∙ ap (λ t. t ++ more) (sym (same added.0 (at.0, added.1))));
      left = far.left ∙ is.1;
      breaks = λ r later. far.breaks r (subst (OneBreaks r) (sym ended) (inr later));
      count =
          let total : data_entries (sentences rest).ended ≡ one s + data_entries (sentences behind).ended = ap data_entries ended ∙ sum_by-cons one s (sentences behind).ended in
          let own : length now ≡ length ds + length (listed d) = ap length h.2 ∙ length-append ds (listed d) in
          omega (arith, far.count, total, own, one_is s d h.1.1);
      first = λ none. absurd (no_more ds d h.3 (sym h.2 ∙ none));
      begins = λ lt. begins_now ws rest behind s ds d far ended h.1.1 h.3;
      few = few;
    }
