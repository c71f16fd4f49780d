-- A text has one list of condition-names at most.
use Rattle.std.proofs.Common.{◌≡◌, ℕ, Bool, true, false, List, [], ◌∷◌, ◌++◌, Option, Some, None, refl, sym, subst, ap, ◌∙◌, inl, inr}
use Rattle.cob_source.specs.Tokens.{Lexeme}
use Rattle.cob_source.specs.Words.{WordsAreOne}
use Rattle.cob_copybook_entry.specs.Described.{PlainEntry}
use Rattle.cob_copybook_clauses.specs.declared.term.WordClass.TheVariants as term
use Rattle.cob_copybook_clauses.specs.Clauses.{IsOrAre}
use Rattle.cob_copybook_clauses.specs.Entries.{IsCondition, is_condition, sentences}
use Rattle.cob_copybook_clauses.specs.Reading.{NotFirstWord}
use Rattle.cob_copybook_clauses.proofs.ClauseLemmas.{no_are, no_is}
use Rattle.cob_copybook_entries.specs.Books.{AreEntriesOf}
use Rattle.cob_copybook_entries.specs.Laws.{OneListOfEntries}
use Rattle.cob_copybook_conditions.specs.Names.{AreNamesBehind, AreNamesIn, IsConditionNameOf, PlainConditionName, PlainSpan, SaysBy, SaysName, first_number, last_entry_by, with_said}
use Rattle.cob_copybook_conditions.specs.Laws.{OneListOfConditionNames}
use Rattle.cob_copybook_conditions.specs.Reading.{AreSpansMeant}
use Rattle.cob_copybook_conditions.proofs.SpanLemmas.{spans_not_first, spans_one}

-- ---- the entry up to VALUE

pub record SameFront (a b : List ℕ) (more others : List Lexeme) : Type 0 where
  pub name : a ≡ b
  pub behind : more ≡ others

pub same_front : (ws : List Lexeme) (a b : List ℕ) (p : IsCondition ws a) (q : IsCondition ws b) → SameFront a b p.more q.more
same_front ws a b p q =
    let words : p.level ∷ (p.named ∷ (p.value ∷ p.more)) ≡ q.level ∷ (q.named ∷ (q.value ∷ q.more)) = sym p.words ∙ q.words in
    let named : p.named ≡ q.named = cc in
    let behind : p.more ≡ q.more = cc in
    record { name = sym p.name_is.same ∙ ap (λ (w : Lexeme). w.text) named ∙ q.name_is.same; behind = behind }

-- IS or ARE, and words that begin with neither
pub is_or_are_cut : (n m a b : List Lexeme) → IsOrAre n → IsOrAre m → NotFirstWord term.Is a → NotFirstWord term.Are a → NotFirstWord term.Is b → NotFirstWord term.Are b → n ++ a ≡ m ++ b → a ≡ b
is_or_are_cut [] [] a b p q f f2 g g2 e = e
is_or_are_cut [] (w ∷ []) a b p (inl q) f f2 g g2 e = absurd (subst (NotFirstWord term.Is) e f q)
is_or_are_cut [] (w ∷ []) a b p (inr q) f f2 g g2 e = absurd (subst (NotFirstWord term.Are) e f2 q)
is_or_are_cut [] (w ∷ v ∷ m) a b p q f f2 g g2 e = absurd q
is_or_are_cut (w ∷ []) [] a b (inl p) q f f2 g g2 e = absurd (subst (NotFirstWord term.Is) (sym e) g p)
is_or_are_cut (w ∷ []) [] a b (inr p) q f f2 g g2 e = absurd (subst (NotFirstWord term.Are) (sym e) g2 p)
is_or_are_cut (w ∷ []) (v ∷ []) a b p q f f2 g g2 e = cc
is_or_are_cut (w ∷ []) (v ∷ u ∷ m) a b p q f f2 g g2 e = absurd q
is_or_are_cut (w ∷ x ∷ n) m a b p q f f2 g g2 e = absurd p

-- ---- one name

pub values_meant : (last : ℕ) (ws : List Lexeme) (n : PlainConditionName) (h : IsConditionNameOf last ws n) → AreSpansMeant n.values h.is.own
values_meant last ws n h = record { written = h.written.values; are = h.is.values; mean = h.values }

same_values : (last : ℕ) (ws : List Lexeme) (n m : PlainConditionName) (h : IsConditionNameOf last ws n) (k : IsConditionNameOf last ws m)
    → h.is.up_to_value.more ≡ k.is.up_to_value.more → n.values ≡ m.values
same_values last ws n m h k e =
    let p = values_meant last ws n h in
    let q = values_meant last ws m k in
    let own : h.is.own ≡ k.is.own = is_or_are_cut h.is.noise k.is.noise h.is.own k.is.own h.is.or_are k.is.or_are
    (spans_not_first term.Is n.values h.is.own no_is p) (spans_not_first term.Are n.values h.is.own no_are p)
    (spans_not_first term.Is m.values k.is.own no_is q) (spans_not_first term.Are m.values k.is.own no_are q) (sym h.is.words ∙ e ∙ k.is.words) in
    spans_one n.values m.values h.is.own k.is.own own p q

abbrev told : ℕ → List ℕ → List PlainSpan → PlainConditionName
told entry name values = record { entry = entry; name = name; values = values }

same_name : (n m : PlainConditionName) → n.entry ≡ m.entry → n.name ≡ m.name → n.values ≡ m.values → n ≡ m
same_name n m entry name values =
    ap (λ (i : ℕ). told i n.name n.values) entry ∙ ap (λ (cs : List ℕ). told m.entry cs n.values) name ∙ ap (λ (vs : List PlainSpan). told m.entry m.name vs) values

name_one : (last : ℕ) (ws : List Lexeme) (n m : PlainConditionName) → IsConditionNameOf last ws n → IsConditionNameOf last ws m → n ≡ m
name_one last ws n m h k =
    let front = same_front ws h.written.name k.written.name h.is.up_to_value k.is.up_to_value in
    same_name n m (h.behind ∙ sym k.behind) (h.name ∙ front.name ∙ sym k.name) (same_values last ws n m h k front.behind)

-- ---- all names

said_one : (last : ℕ) (ws : List Lexeme) (a b : Option PlainConditionName) → SaysName last ws a → SaysName last ws b → a ≡ b
said_one last ws None None h k = refl
said_one last ws None (Some m) h k = absurd (h m k)
said_one last ws (Some n) None h k = absurd (k n h)
said_one last ws (Some n) (Some m) h k = ap (λ (x : PlainConditionName). Some x) (name_one last ws n m h k)

by_one : (c : Bool) (last : ℕ) (ws : List Lexeme) (a b : Option PlainConditionName) → SaysBy c last ws a → SaysBy c last ws b → a ≡ b
by_one true last ws a b h k = said_one last ws a b h k
by_one false last ws a b h k = h ∙ sym k

behind_one : (last : ℕ) (ss : List (List Lexeme)) (ns ms : List PlainConditionName) → AreNamesBehind last ss ns → AreNamesBehind last ss ms → ns ≡ ms
behind_one last [] ns ms h k = h ∙ sym k
behind_one last (s ∷ ss) ns ms (said, more, says, others, e) (dias, rest, yas, srehto, i) =
    e
    ∙ ap (λ (o : Option PlainConditionName). with_said o more) (by_one (is_condition s) last s said dias says yas)
    ∙ ap (with_said dias) (behind_one (last_entry_by (is_condition s) last) ss more rest others srehto)
    ∙ sym i

in_one : (first : ℕ) (ss : List (List Lexeme)) (ns ms : List PlainConditionName) → AreNamesIn first ss ns → AreNamesIn first ss ms → ns ≡ ms
in_one first [] ns ms h k = h ∙ sym k
in_one first (s ∷ ss) ns ms h k = behind_one first ss ns ms h k

-- words that are the same, with the same entries, say the same names
moved : (ws vs : List Lexeme) (ds es : List PlainEntry) (ns : List PlainConditionName) → ws ≡ vs → ds ≡ es
    → AreNamesIn (first_number ds) (sentences ws).ended ns → AreNamesIn (first_number es) (sentences vs).ended ns
moved ws vs ds es ns e i h =
    subst (λ (xs : List PlainEntry). AreNamesIn (first_number xs) (sentences vs).ended ns) i (subst (λ (us : List Lexeme). AreNamesIn (first_number ds) (sentences us).ended ns) e h)

pub one_list_of_names : WordsAreOne → OneListOfEntries → OneListOfConditionNames
one_list_of_names one one_list text ns ms h k =
    let words : h.words ≡ k.words = one text h.words k.words h.are_words k.are_words in
    let here : AreEntriesOf k.words h.entries = subst (λ (ws : List Lexeme). AreEntriesOf ws h.entries) words h.are_entries in
    let entries : h.entries ≡ k.entries = one_list k.words h.entries k.entries here k.are_entries in
    in_one (first_number k.entries) (sentences k.words).ended ns ms (moved h.words k.words h.entries k.entries ns words entries h.said) k.said
