-- The loop over the sentences of a text.
use Rattle.std.proofs.Common.{◌≡◌, ℕ, ◌+◌, ◌<◌, ◌≤◌, Bool, true, false, List, [], ◌∷◌, ◌++◌, length, Option, Some, None, refl, sym, subst, ap, ◌∙◌, arith, append_assoc, append-nil, length-append}
use Rattle.std.proofs.lemmas.List.{length-map}
use Rattle.cob_source.specs.Tokens.{Lexeme, lexeme, lexemes}
use Rattle.cob_source.specs.declared.token.Token.{Token}
use Rattle.cob_copybook_clauses.specs.Entries.{FirstSentence, HasNoStop, Sentences, is_condition, sentences}
use Rattle.cob_copybook_clauses.proofs.CutLemmas.{cut, ends}
use Rattle.cob_copybook_conditions.specs.Names.{AreNamesBehind, AreNamesIn, PlainConditionName, last_entry_by, with_said}
use Rattle.cob_copybook_conditions.specs.Reading.{AddsName}

-- the sentence is the first of the rest, and these words are left behind it
pub first_ended : (rest s behind : List Lexeme) → FirstSentence s rest behind → (sentences rest).ended ≡ s ∷ (sentences behind).ended
first_ended rest s behind h =
    subst (λ (ws : List Lexeme). (sentences ws).ended ≡ s ∷ (sentences behind).ended) (sym h.3) (cut s behind h.0 h.1 h.2).0

-- words without a Stop are no sentence
pub none_ended : (rest : List Lexeme) → HasNoStop rest → (sentences rest).ended ≡ []
none_ended rest none = ap (λ (ss : Sentences). ss.ended) (ends rest none)

-- fewer words are left
pub shorter : (ts ss bs : List Token) → FirstSentence (lexemes ss) (lexemes ts) (lexemes bs) → length bs < length ts
shorter ts ss bs h =
    let all : length (lexemes ts) ≡ length (lexemes ss) + length (h.0 ∷ lexemes bs) = ap length h.3 ∙ length-append (lexemes ss) (h.0 ∷ lexemes bs) in
    omega (arith, all, length-map ts lexeme, length-map bs lexeme)

-- these names are said so far, and behind them what the words `rest` say
pub record SoFar (entry : ℕ) (ws rest : List Lexeme) (last : ℕ) (ns : List PlainConditionName) : Type 0 where
  pub found : (more : List PlainConditionName) → AreNamesBehind last (sentences rest).ended more → AreNamesBehind entry (sentences ws).ended (ns ++ more)
  pub few : last + length rest ≤ entry + length ws

pub begins : (entry last : ℕ) (ws : List Lexeme) (ns : List PlainConditionName) → last ≡ entry → ns ≡ [] → SoFar entry ws ws last ns
begins entry last ws [] e none = record {
  found = λ more h. subst (λ (i : ℕ). AreNamesBehind i (sentences ws).ended more) e h;
  few = omega (arith, e);
}
begins entry last ws (n ∷ ns) e none = absurd cc

said_before : (said : Option PlainConditionName) (more : List PlainConditionName) → with_said said more ≡ with_said said [] ++ more
said_before None more = refl
said_before (Some n) more = refl

last_few : (c : Bool) (last : ℕ) → last_entry_by c last ≤ last + 1
last_few true last = omega arith
last_few false last = omega arith

pub goes_on : (entry : ℕ) (ws rest behind s : List Lexeme) (last now : ℕ) (ns names : List PlainConditionName) → SoFar entry ws rest last ns → FirstSentence s rest behind
    → AddsName last s now ns names → SoFar entry ws behind now names
goes_on entry ws rest behind s last now ns names far is (said, says, number, same) = record {
  found = λ more h.
      let here : AreNamesBehind (last_entry_by (is_condition s) last) (sentences behind).ended more = subst (λ (i : ℕ). AreNamesBehind i (sentences behind).ended more) number h in
      let all : AreNamesBehind last (sentences rest).ended (with_said said more) =
      subst (λ (ss : List (List Lexeme)). AreNamesBehind last ss (with_said said more)) (sym (first_ended rest s behind is)) (said, more, says, here, refl) in
      subst (AreNamesBehind entry (sentences ws).ended)
      (ap (λ (t : List PlainConditionName). ns ++ t) (said_before said more) ∙ sym (append_assoc ns (with_said said []) more) ∙ ap (λ (t : List PlainConditionName). t ++ more) (sym same))
      (far.found (with_said said more) all);
  few =
      let total : length rest ≡ length s + length (is.0 ∷ behind) = ap length is.3 ∙ length-append s (is.0 ∷ behind) in
      omega (arith, far.few, total, number, last_few (is_condition s) last);
}

pub ends_so : (entry : ℕ) (ws rest : List Lexeme) (last : ℕ) (ns : List PlainConditionName) → SoFar entry ws rest last ns → HasNoStop rest → AreNamesBehind entry (sentences ws).ended ns
ends_so entry ws rest last ns far none =
    subst (AreNamesBehind entry (sentences ws).ended) (append-nil ns)
    (far.found [] (subst (λ (ss : List (List Lexeme)). AreNamesBehind last ss []) (sym (none_ended rest none)) refl))

-- ---- all sentences

pub in_first : (first : ℕ) (words s behind : List Lexeme) (ns : List PlainConditionName) → FirstSentence s words behind → AreNamesBehind first (sentences behind).ended ns
    → AreNamesIn first (sentences words).ended ns
in_first first words s behind ns is h = subst (λ (ss : List (List Lexeme)). AreNamesIn first ss ns) (sym (first_ended words s behind is)) h

pub in_none : (first : ℕ) (words : List Lexeme) (ns : List PlainConditionName) → HasNoStop words → AreNamesBehind first (sentences words).ended ns → AreNamesIn first (sentences words).ended ns
in_none first words ns none h =
    let e = none_ended words none in
    let same : ns ≡ [] = subst (λ (ss : List (List Lexeme)). AreNamesBehind first ss ns) e h in
    subst (λ (ss : List (List Lexeme)). AreNamesIn first ss ns) (sym e) same

pub shorter_still : (ts ss bs : List Token) → FirstSentence (lexemes ss) (lexemes ts) (lexemes bs) → length bs ≤ length ts
shorter_still ts ss bs h = omega (arith, shorter ts ss bs h)
