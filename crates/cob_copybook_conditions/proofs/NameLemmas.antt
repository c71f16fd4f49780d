-- The condition-name of one level 88 entry, put together of its parts.
use Rattle.std.proofs.Common.{◌≡◌, ℕ, ◌+◌, ◌-◌, ◌<◌, Bool, true, false, List, [], ◌∷◌, ◌++◌, length, take, drop, Some, None, map, refl, sym, subst, ap, ◌∙◌, arith, append-nil}
use Rattle.std.proofs.lemmas.List.{drop-map, length-map, take_rest}
use Rattle.cob_source.specs.Tokens.{Lexeme, lexeme, lexemes}
use Rattle.cob_source.specs.declared.token.Token.{Token}
use Rattle.cob_copybook_clauses.specs.declared.term.WordClass.TheVariants as term
use Rattle.cob_copybook_clauses.specs.Clauses.{IsOrAre}
use Rattle.cob_copybook_clauses.specs.Entries.{IsCondition, is_condition}
use Rattle.cob_copybook_clauses.specs.Names.{IsName}
use Rattle.cob_copybook_clauses.specs.Reading.{EachCutNeither, StandInFront}
use Rattle.cob_copybook_clauses.proofs.ClauseLemmas.{no_are, no_is}
use Rattle.cob_copybook_conditions.specs.Written.{WrittenSpan}
use Rattle.cob_copybook_conditions.specs.Names.{AreSpansOf, IsConditionNameOf, PlainConditionName, PlainSpan, SaysBy, SaysName, last_entry_by, plain_span}
use Rattle.cob_copybook_conditions.specs.declared.spans.Span.{Span}
use Rattle.cob_copybook_conditions.specs.Reading.{AddsName, AreSpansMeant, IsNamedCondition}
use Rattle.cob_copybook_conditions.proofs.Ones.{same_front, values_meant}
use Rattle.cob_copybook_conditions.proofs.SpanLemmas.{spans_not_first}

-- the words behind the third of a level 88 entry are those behind VALUE
behind_value : (ts : List Token) (name : List ℕ) (is : IsCondition (lexemes ts) name) → is.more ≡ lexemes (take (length ts - 3) (drop 3 ts))
behind_value ts name is = sym (ap (drop 3) is.words) ∙ drop-map lexeme 3 ts ∙ ap lexemes (sym (take_rest ts 3))

pub named_found : (ts : List Token) (name text : List ℕ) → IsCondition (lexemes ts) text → IsName text → name ≡ text → IsNamedCondition (lexemes ts) name (lexemes (take (length ts - 3) (drop 3 ts)))
named_found ts name text is legal e =
    subst (λ (n : List ℕ). IsNamedCondition (lexemes ts) n (lexemes (take (length ts - 3) (drop 3 ts)))) (sym e) (record { is = is; legal = legal; behind = behind_value ts text is })

-- a level 88 entry is named once
pub named_once : (ws : List Lexeme) (a b : List ℕ) (more others : List Lexeme) → IsNamedCondition ws a more → IsNamedCondition ws b others → (a ≡ b) × (more ≡ others)
named_once ws a b more others p q =
    let front = same_front ws a b p.is q.is in (front.name, sym p.behind ∙ front.behind ∙ q.behind)

pub named_of : (last : ℕ) (ws : List Lexeme) (n : PlainConditionName) (h : IsConditionNameOf last ws n) → IsNamedCondition ws h.written.name h.is.up_to_value.more
named_of last ws n h = record { is = h.is.up_to_value; legal = h.is.legal; behind = refl }

-- the words that are left without IS or ARE are those of the values
pub list_there : (last : ℕ) (ws more vs : List Lexeme) (name : List ℕ) (n : PlainConditionName) → IsNamedCondition ws name more → IsConditionNameOf last ws n
    → EachCutNeither IsOrAre term.Is term.Are more (λ left. vs ≡ left) → AreSpansMeant n.values vs
list_there last ws more vs name n named h cut =
    let meant = values_meant last ws n h in
    let once = named_once ws name h.written.name more h.is.up_to_value.more named (named_of last ws n h) in
    let own = cut h.is.noise h.is.own h.is.or_are (spans_not_first term.Is n.values h.is.own no_is meant) (spans_not_first term.Are n.values h.is.own no_are meant) (once.1 ∙ h.is.words) in
    subst (AreSpansMeant n.values) (sym own) meant

as_many : (us : List WrittenSpan) (ss : List PlainSpan) → AreSpansOf us ss → length us ≡ length ss
as_many [] [] h = refl
as_many (u ∷ us) (s ∷ ss) h = let more : length us ≡ length ss = as_many us ss h.1 in omega (arith, more)
as_many [] (s ∷ ss) h = absurd h
as_many (u ∷ us) [] h = absurd h

-- a condition-name has values
pub some_values : (last : ℕ) (ws : List Lexeme) (n : PlainConditionName) → IsConditionNameOf last ws n → n.values ≡ [] → ⊥
some_values last ws n h e =
    let many : length h.written.values ≡ length n.values = as_many h.written.values n.values h.values in
    let none : length n.values ≡ 0 = ap length e in
    omega (arith, many, none, h.is.some)

-- a name and values are a condition-name
pub named_values : (last : ℕ) (ws more vs : List Lexeme) (name : List ℕ) (ss : List PlainSpan) → IsNamedCondition ws name more → StandInFront IsOrAre more vs → AreSpansMeant ss vs → 0 < length ss
    → IsConditionNameOf last ws (record { entry = last; name = name; values = ss })
named_values last ws more vs name ss named (noise, or_are, e) are some =
    let many : length are.written ≡ length ss = as_many are.written ss are.mean in
    record {
      written = record { name = name; values = are.written };
      is = record {
        up_to_value = named.is;
        noise = noise;
        own = vs;
        legal = named.legal;
        or_are = or_are;
        values = are.are;
        some = omega (arith, many, some);
        words = named.behind ∙ e;
      };
      behind = refl;
      name = refl;
      values = are.mean;
    }

pub no_values : (vs : List Span) → length vs ≡ 0 → map plain_span vs ≡ []
no_values [] e = refl
no_values (v ∷ vs) e = absurd (omega (arith, e))

pub values_there : (vs : List Span) → (length vs ≡ 0 → ⊥) → 0 < length (map plain_span vs)
values_there vs some = let many = length-map vs plain_span in omega (arith, some, many)

-- ---- what a sentence adds

pub adds_entry : (last : ℕ) (s : List Lexeme) (ns : List PlainConditionName) → is_condition s ≡ false → AddsName last s (last + 1) ns ns
adds_entry last s ns e = (None, subst (λ (b : Bool). SaysBy b last s None) (sym e) refl, subst (λ (b : Bool). last + 1 ≡ last_entry_by b last) (sym e) refl, sym (append-nil ns))

pub adds_none : (last : ℕ) (s : List Lexeme) (ns : List PlainConditionName) → is_condition s ≡ true → SaysName last s None → AddsName last s last ns ns
adds_none last s ns e says = (None, subst (λ (b : Bool). SaysBy b last s None) (sym e) says, subst (λ (b : Bool). last ≡ last_entry_by b last) (sym e) refl, sym (append-nil ns))

pub adds_name : (last : ℕ) (s : List Lexeme) (n : PlainConditionName) (before after : List PlainConditionName) → is_condition s ≡ true → SaysName last s (Some n) → after ≡ before ++ n ∷ []
    → AddsName last s last before after
adds_name last s n before after e says same =
    (Some n, subst (λ (b : Bool). SaysBy b last s (Some n)) (sym e) says, subst (λ (b : Bool). last ≡ last_entry_by b last) (sym e) refl, same)
