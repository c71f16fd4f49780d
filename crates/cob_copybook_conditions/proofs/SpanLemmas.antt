-- Values one behind another: that words are one list of them at most.
use Rattle.std.proofs.Common.{◌≡◌, ◌+◌, ◌<◌, List, [], ◌∷◌, ◌++◌, length, refl, sym, subst, ap, ◌∙◌, arith, append_assoc, append-nil, length-append}
use Rattle.cob_source.specs.Tokens.{Lexeme, lexemes}
use Rattle.cob_source.specs.declared.token.Token.{Token}
use Rattle.cob_copybook_entry.specs.Described.{PlainValue}
use Rattle.cob_copybook_clauses.specs.declared.term.WordClass.{WordClass}
use Rattle.cob_copybook_clauses.specs.Reading.{NotFirstWord, StandInFront}
use Rattle.cob_copybook_clauses.specs.Written.{WrittenValue}
use Rattle.cob_copybook_clauses.proofs.ClauseLemmas.{NoConstant, constant_not_first}
use Rattle.cob_copybook_entries.specs.Meaning.{IsConstantOf}
use Rattle.cob_copybook_conditions.specs.Written.{WrittenSpan, One as WrittenOne, FromTo as WrittenFromTo}
use Rattle.cob_copybook_conditions.specs.Entries.{AreSpansWritten, IsListedValue, IsSpanWritten, IsThroughWord}
use Rattle.cob_copybook_conditions.specs.Names.{AreSpansOf, IsSpanOf, PlainSpan, One, FromTo}
use Rattle.cob_copybook_conditions.specs.Reading.{AreSpansMeant, IsSpanMeant, IsValueMeant, NotThroughFirst}
use Rattle.cob_copybook_conditions.proofs.Values.{value_cut, value_no_through, value_some}

-- ---- one value, or two with THROUGH between them

-- two values with THROUGH between them, and what is behind
pub through_apart : (n first : List Lexeme) (through : Lexeme) (last a : List Lexeme) → n ≡ first ++ through ∷ last → n ++ a ≡ first ++ through ∷ (last ++ a)
through_apart n first through last a e = ap (λ (t : List Lexeme). t ++ a) e ∙ append_assoc first (through ∷ last) a

meant : (v : WrittenValue) (c : PlainValue) (ws : List Lexeme) → IsListedValue v ws → IsConstantOf v c → IsValueMeant c ws
meant v c ws is means = record { written = v; is = is; means = means }

span_cut_by : (u v : WrittenSpan) (s t : PlainSpan) (n m a b : List Lexeme) → IsSpanWritten u n → IsSpanWritten v m → IsSpanOf u s → IsSpanOf v t
    → NotThroughFirst a → NotThroughFirst b → n ++ a ≡ m ++ b → (s ≡ t) × (a ≡ b)
span_cut_by (WrittenOne u) (WrittenOne v) (One c) (One d) n m a b p q h k f g e =
    let r = value_cut c d n m a b (meant u c n p h) (meant v d m q k) e in (ap One r.0, r.1)
span_cut_by (WrittenOne u) (WrittenFromTo v w) (One c) (FromTo d i) n m a b p (first, last, through, is, between, ends, words) h k f g e =
    let r = value_cut c d n first a (through ∷ (last ++ b)) (meant u c n p h) (meant v d first is k.0) (e ∙ through_apart m first through last b words) in
    absurd (subst NotThroughFirst r.1 f between)
span_cut_by (WrittenFromTo u w) (WrittenOne v) (FromTo c i) (One d) n m a b (first, last, through, is, between, ends, words) q h k f g e =
    let r = value_cut c d first m (through ∷ (last ++ a)) b (meant u c first is h.0) (meant v d m q k) (sym (through_apart n first through last a words) ∙ e) in
    absurd (subst NotThroughFirst (sym r.1) g between)
span_cut_by (WrittenFromTo u w) (WrittenFromTo v x) (FromTo c i) (FromTo d j) n m a b (first, last, through, is, between, ends, words) (front, back, thru, si, in_between, stops, others) h k f g e =
    let r = value_cut c d first front (through ∷ (last ++ a)) (thru ∷ (back ++ b)) (meant u c first is h.0) (meant v d front si k.0)
    (sym (through_apart n first through last a words) ∙ e ∙ through_apart m front thru back b others) in
    let tail : last ++ a ≡ back ++ b = let both = r.1 in cc in
    let l = value_cut i j last back a b (meant w i last ends h.1) (meant x j back stops k.1) tail in
    (ap (λ (y : PlainValue). FromTo y i) r.0 ∙ ap (λ (y : PlainValue). FromTo d y) l.0, l.1)
span_cut_by (WrittenOne u) v (FromTo c i) t n m a b p q h k f g e = absurd h
span_cut_by (WrittenFromTo u w) v (One c) t n m a b p q h k f g e = absurd h
span_cut_by u (WrittenOne v) s (FromTo d j) n m a b p q h k f g e = absurd k
span_cut_by u (WrittenFromTo v x) s (One d) n m a b p q h k f g e = absurd k

pub span_cut : (s t : PlainSpan) (n m a b : List Lexeme) → IsSpanMeant s n → IsSpanMeant t m → NotThroughFirst a → NotThroughFirst b → n ++ a ≡ m ++ b → (s ≡ t) × (a ≡ b)
span_cut s t n m a b p q f g e = span_cut_by p.written q.written s t n m a b p.is q.is p.means q.means f g e

-- with which word it begins
span_no_through : (u : WrittenSpan) (ws more : List Lexeme) → IsSpanWritten u ws → NotThroughFirst (ws ++ more)
span_no_through (WrittenOne v) ws more is = value_no_through v ws more is
span_no_through (WrittenFromTo v w) ws more (first, last, through, is, between, ends, words) =
    subst NotThroughFirst (sym (through_apart ws first through last more words)) (value_no_through v first (through ∷ (last ++ more)) is)

span_not_first : (t : WordClass) (u : WrittenSpan) (ws more : List Lexeme) → NoConstant t → IsSpanWritten u ws → NotFirstWord t (ws ++ more)
span_not_first t (WrittenOne v) ws more out is = constant_not_first t v ws more out is.0
span_not_first t (WrittenFromTo v w) ws more out (first, last, through, is, between, ends, words) =
    subst (NotFirstWord t) (sym (through_apart ws first through last more words)) (constant_not_first t v first (through ∷ (last ++ more)) out is.0)

-- it has a word
span_some : (u : WrittenSpan) (ws : List Lexeme) → IsSpanWritten u ws → 0 < length ws
span_some (WrittenOne v) ws is = value_some v ws is
span_some (WrittenFromTo v w) ws (first, last, through, is, between, ends, words) =
    let total : length ws ≡ length first + length (through ∷ last) = ap length words ∙ length-append first (through ∷ last) in
    omega (arith, total, value_some v first is)

pub span_shorter : (s : PlainSpan) (words more : List Lexeme) → StandInFront (IsSpanMeant s) words more → length more < length words
span_shorter s words more (ws, is, e) =
    let total : length words ≡ length ws + length more = ap length e ∙ length-append ws more in
    omega (arith, total, span_some is.written ws is.is)

-- ---- the reader of one value, or of two with THROUGH between them

pub one_meant : (c : PlainValue) (ws : List Lexeme) → IsValueMeant c ws → IsSpanMeant (One c) ws
one_meant c ws is = record { written = WrittenOne is.written; is = is.is; means = is.means }

pub both_meant : (c d : PlainValue) (first : List Lexeme) (through : Lexeme) (last : List Lexeme) → IsValueMeant c first → IsThroughWord through → IsValueMeant d last
    → IsSpanMeant (FromTo c d) (first ++ through ∷ last)
both_meant c d first through last is between ends = record {
  written = WrittenFromTo is.written ends.written;
  is = (first, last, through, is.is, between, ends.is, refl);
  means = (is.means, ends.means);
}

pub through_words : (words behind after rest first : List Lexeme) (through : Lexeme) (last : List Lexeme) → words ≡ first ++ behind → behind ≡ through ∷ after → after ≡ last ++ rest
    → words ≡ (first ++ through ∷ last) ++ rest
through_words words behind after rest first through last e f g =
    e ∙ ap (λ (t : List Lexeme). first ++ t) (f ∙ ap (λ (t : List Lexeme). through ∷ t) g) ∙ sym (through_apart (first ++ through ∷ last) first through last rest refl)

-- the reader of a value answers the only one
abbrev pub OnlyValue : List Lexeme → PlainValue → List Lexeme → Type 0
OnlyValue words v behind = (c : PlainValue) (ws more : List Lexeme) → IsValueMeant c ws → words ≡ ws ++ more → (v ≡ c) × (behind ≡ more)

-- THROUGH stands in front, before these words
abbrev pub IsThroughBefore : List Lexeme → List Lexeme → Type 0
IsThroughBefore behind after = (w : Lexeme) × IsThroughWord w × (behind ≡ w ∷ after)

-- a value stands in front
pub record ValueInFront (words : List Lexeme) : Type 0 where
  pub value : PlainValue
  pub own : List Lexeme
  pub rest : List Lexeme
  pub is : IsValueMeant value own
  pub words_are : words ≡ own ++ rest

value_in_front_by : (u : WrittenSpan) (s : PlainSpan) (ws more : List Lexeme) → IsSpanWritten u ws → IsSpanOf u s → ValueInFront (ws ++ more)
value_in_front_by (WrittenOne v) (One c) ws more is means = record { value = c; own = ws; rest = more; is = meant v c ws is means; words_are = refl }
value_in_front_by (WrittenFromTo v w) (FromTo c d) ws more (first, last, through, is, between, ends, e) means = record {
  value = c;
  own = first;
  rest = through ∷ (last ++ more);
  is = meant v c first is means.0;
  words_are = through_apart ws first through last more e;
}
value_in_front_by (WrittenOne v) (FromTo c d) ws more is means = absurd means
value_in_front_by (WrittenFromTo v w) (One c) ws more is means = absurd means

pub value_in_front : (s : PlainSpan) (ws more : List Lexeme) → IsSpanMeant s ws → ValueInFront (ws ++ more)
value_in_front s ws more is = value_in_front_by is.written s ws more is.is is.means

-- no THROUGH stands behind the value
alone_by : (words behind : List Lexeme) (v : PlainValue) (u : WrittenSpan) (s : PlainSpan) (ws more : List Lexeme) → OnlyValue words v behind
    → ((w : Lexeme) (after : List Lexeme) → IsThroughWord w → behind ≡ w ∷ after → ⊥) → IsSpanWritten u ws → IsSpanOf u s → words ≡ ws ++ more → (One v ≡ s) × (behind ≡ more)
alone_by words behind v (WrittenOne x) (One c) ws more only none is means e = let r = only c ws more (meant x c ws is means) e in (ap One r.0, r.1)
alone_by words behind v (WrittenFromTo x y) (FromTo c d) ws more only none (first, last, through, is, between, ends, f) means e =
    let r = only c first (through ∷ (last ++ more)) (meant x c first is means.0) (e ∙ through_apart ws first through last more f) in
    absurd (none through (last ++ more) between r.1)
alone_by words behind v (WrittenOne x) (FromTo c d) ws more only none is means e = absurd means
alone_by words behind v (WrittenFromTo x y) (One c) ws more only none is means e = absurd means

pub alone : (words behind : List Lexeme) (v : PlainValue) → OnlyValue words v behind → ((w : Lexeme) (after : List Lexeme) → IsThroughWord w → behind ≡ w ∷ after → ⊥)
    → (s : PlainSpan) (ws more : List Lexeme) → IsSpanMeant s ws → words ≡ ws ++ more → (One v ≡ s) × (behind ≡ more)
alone words behind v only none s ws more is e = alone_by words behind v is.written s ws more only none is.is is.means e

-- THROUGH stands behind the value: what stands in front are two values
pub record Ends (s : PlainSpan) (v : PlainValue) (after more : List Lexeme) : Type 0 where
  pub value : PlainValue
  pub own : List Lexeme
  pub is : IsValueMeant value own
  pub both : FromTo v value ≡ s
  pub words : after ≡ own ++ more

ends_by : (words behind after : List Lexeme) (v : PlainValue) (u : WrittenSpan) (s : PlainSpan) (ws more : List Lexeme) → OnlyValue words v behind → IsThroughBefore behind after
    → IsSpanWritten u ws → IsSpanOf u s → NotThroughFirst more → words ≡ ws ++ more → Ends s v after more
ends_by words behind after v (WrittenOne x) (One c) ws more only (w, is_through, f) is means not e =
    let r = only c ws more (meant x c ws is means) e in absurd (subst NotThroughFirst (sym r.1 ∙ f) not is_through)
ends_by words behind after v (WrittenFromTo x y) (FromTo c d) ws more only (w, is_through, f) (first, last, through, is, between, ends, g) means not e =
    let r = only c first (through ∷ (last ++ more)) (meant x c first is means.0) (e ∙ through_apart ws first through last more g) in
    let tail : after ≡ last ++ more = let both : w ∷ after ≡ through ∷ (last ++ more) = sym f ∙ r.1 in cc in
    record { value = d; own = last; is = meant y d last ends means.1; both = ap (λ (z : PlainValue). FromTo z d) r.0; words = tail }
ends_by words behind after v (WrittenOne x) (FromTo c d) ws more only between is means not e = absurd means
ends_by words behind after v (WrittenFromTo x y) (One c) ws more only between is means not e = absurd means

pub through_ends : (words behind after : List Lexeme) (v : PlainValue) → OnlyValue words v behind → IsThroughBefore behind after
    → (s : PlainSpan) (ws more : List Lexeme) → IsSpanMeant s ws → NotThroughFirst more → words ≡ ws ++ more → Ends s v after more
through_ends words behind after v only between s ws more is not e = ends_by words behind after v is.written s ws more only between is.is is.means not e

-- ---- values one behind another

pub no_spans : (ws : List Lexeme) → ws ≡ [] → AreSpansMeant [] ws
no_spans ws e = record { written = []; are = e; mean = tt }

pub with_span : (s : PlainSpan) (ss : List PlainSpan) (ws own rest : List Lexeme) → IsSpanMeant s own → AreSpansMeant ss rest → ws ≡ own ++ rest → AreSpansMeant (s ∷ ss) ws
with_span s ss ws own rest is more e = record {
  written = is.written ∷ more.written;
  are = (own, rest, is.is, more.are, e);
  mean = (is.means, more.mean);
}

no_words_by : (us : List WrittenSpan) (ws : List Lexeme) → AreSpansWritten us ws → AreSpansOf us [] → ws ≡ []
no_words_by [] ws are mean = are
no_words_by (u ∷ us) ws are mean = absurd mean

pub no_words : (ws : List Lexeme) → AreSpansMeant [] ws → ws ≡ []
no_words ws h = no_words_by h.written ws h.are h.mean

-- the first of them, and the others
pub record Apart (s : PlainSpan) (ss : List PlainSpan) (ws : List Lexeme) : Type 0 where
  pub own : List Lexeme
  pub rest : List Lexeme
  pub first : IsSpanMeant s own
  pub others : AreSpansMeant ss rest
  pub words : ws ≡ own ++ rest

apart_by : (us : List WrittenSpan) (s : PlainSpan) (ss : List PlainSpan) (ws : List Lexeme) → AreSpansWritten us ws → AreSpansOf us (s ∷ ss) → Apart s ss ws
apart_by [] s ss ws are mean = absurd mean
apart_by (u ∷ us) s ss ws (own, rest, is, are, e) mean = record {
  own = own;
  rest = rest;
  first = record { written = u; is = is; means = mean.0 };
  others = record { written = us; are = are; mean = mean.1 };
  words = e;
}

pub apart : (s : PlainSpan) (ss : List PlainSpan) (ws : List Lexeme) → AreSpansMeant (s ∷ ss) ws → Apart s ss ws
apart s ss ws h = apart_by h.written s ss ws h.are h.mean

pub spans_no_through : (ss : List PlainSpan) (ws : List Lexeme) → AreSpansMeant ss ws → NotThroughFirst ws
spans_no_through [] ws h = subst NotThroughFirst (sym (no_words ws h)) tt
spans_no_through (s ∷ ss) ws h =
    let p = apart s ss ws h in subst NotThroughFirst (sym p.words) (span_no_through p.first.written p.own p.rest p.first.is)

pub spans_not_first : (t : WordClass) (ss : List PlainSpan) (ws : List Lexeme) → NoConstant t → AreSpansMeant ss ws → NotFirstWord t ws
spans_not_first t [] ws out h = subst (NotFirstWord t) (sym (no_words ws h)) tt
spans_not_first t (s ∷ ss) ws out h =
    let p = apart s ss ws h in subst (NotFirstWord t) (sym p.words) (span_not_first t p.first.written p.own p.rest out p.first.is)

pub some_words : (s : PlainSpan) (ss : List PlainSpan) (ws : List Lexeme) → AreSpansMeant (s ∷ ss) ws → ws ≡ [] → ⊥
some_words s ss ws h none =
    let p = apart s ss ws h in
    let total : length ws ≡ length p.own + length p.rest = ap length p.words ∙ length-append p.own p.rest in
    let zero : length ws ≡ 0 = ap length none in
    omega (arith, total, zero, span_some p.first.written p.own p.first.is)

-- words are one list of values at most
pub spans_one : (ss ts : List PlainSpan) (ws vs : List Lexeme) → ws ≡ vs → AreSpansMeant ss ws → AreSpansMeant ts vs → ss ≡ ts
spans_one [] [] ws vs e h k = refl
spans_one [] (t ∷ ts) ws vs e h k = absurd (some_words t ts vs k (sym e ∙ no_words ws h))
spans_one (s ∷ ss) [] ws vs e h k = absurd (some_words s ss ws h (e ∙ no_words vs k))
spans_one (s ∷ ss) (t ∷ ts) ws vs e h k =
    let p = apart s ss ws h in
    let q = apart t ts vs k in
    let r = span_cut s t p.own q.own p.rest q.rest p.first q.first (spans_no_through ss p.rest p.others) (spans_no_through ts q.rest q.others) (sym p.words ∙ e ∙ q.words) in
    ap (λ (x : PlainSpan). x ∷ ss) r.0 ∙ ap (λ (xs : List PlainSpan). t ∷ xs) (spans_one ss ts p.rest q.rest r.1 p.others q.others)

-- ---- the loop over them

-- these values are read, and the words `rest` are left: what the rest means, all means behind them, and nothing else
pub record SoFar (ws rest : List Lexeme) (ss : List PlainSpan) : Type 0 where
  pub found : (more : List PlainSpan) → AreSpansMeant more rest → AreSpansMeant (ss ++ more) ws
  pub only : (all : List PlainSpan) → AreSpansMeant all ws → (more : List PlainSpan) × AreSpansMeant more rest × (all ≡ ss ++ more)

pub begins : (ws : List Lexeme) (ss : List PlainSpan) → ss ≡ [] → SoFar ws ws ss
begins ws [] e = record { found = λ more h. h; only = λ all h. (all, h, refl) }
begins ws (s ∷ ss) e = absurd cc

-- the reader of one answers the only one
abbrev pub Only : List Lexeme → PlainSpan → List Lexeme → Type 0
Only rest s more = (t : PlainSpan) (ws after : List Lexeme) → IsSpanMeant t ws → NotThroughFirst after → rest ≡ ws ++ after → (s ≡ t) × (more ≡ after)

one_more : (s : PlainSpan) (rest behind : List Lexeme) (more : List PlainSpan) → (rest ≡ [] → ⊥) → Only rest s behind → AreSpansMeant more rest
    → (others : List PlainSpan) × AreSpansMeant others behind × (more ≡ s ∷ others)
one_more s rest behind [] some only h = absurd (some (no_words rest h))
one_more s rest behind (t ∷ others) some only h =
    let p = apart t others rest h in
    let o = only t p.own p.rest p.first (spans_no_through others p.rest p.others) p.words in
    (others, subst (AreSpansMeant others) (sym o.1) p.others, ap (λ (x : PlainSpan). x ∷ others) (sym o.0))

pub goes_on : (ws rest behind : List Lexeme) (ss now : List PlainSpan) (s : PlainSpan) → SoFar ws rest ss → (rest ≡ [] → ⊥)
    → StandInFront (IsSpanMeant s) rest behind → Only rest s behind → now ≡ ss ++ s ∷ [] → SoFar ws behind now
goes_on ws rest behind ss now s far some (own, is, e) only same = record {
  found = λ more h.
      subst (λ (t : List PlainSpan). AreSpansMeant t ws) (sym (ap (λ (t : List PlainSpan). t ++ more) same ∙ append_assoc ss (s ∷ []) more))
      (far.found (s ∷ more) (with_span s more rest own behind is h e));
  only = λ all h.
      let back = far.only all h in
      let o = one_more s rest behind back.0 some only back.1 in
      (o.0, o.1, back.2 ∙ ap (λ (t : List PlainSpan). ss ++ t) o.2 ∙ sym (append_assoc ss (s ∷ []) o.0) ∙ ap (λ (t : List PlainSpan). t ++ o.0) (sym same));
}

-- no value stands here
stuck_at : (rest : List Lexeme) (more : List PlainSpan) → (rest ≡ [] → ⊥) → ((t : PlainSpan) (ws after : List Lexeme) → IsSpanMeant t ws → NotThroughFirst after → rest ≡ ws ++ after → ⊥)
    → AreSpansMeant more rest → ⊥
stuck_at rest [] some none h = some (no_words rest h)
stuck_at rest (t ∷ others) some none h = let p = apart t others rest h in none t p.own p.rest p.first (spans_no_through others p.rest p.others) p.words

pub stuck : (ws rest : List Lexeme) (ss : List PlainSpan) → SoFar ws rest ss → (rest ≡ [] → ⊥)
    → ((t : PlainSpan) (ws after : List Lexeme) → IsSpanMeant t ws → NotThroughFirst after → rest ≡ ws ++ after → ⊥) → (all : List PlainSpan) → AreSpansMeant all ws → ⊥
stuck ws rest ss far some none all h = let back = far.only all h in stuck_at rest back.0 some none back.1

pub no_left : (ts : List Token) → length ts ≡ 0 → lexemes ts ≡ []
no_left [] e = refl
no_left (t ∷ ts) e = absurd (omega (arith, e))

pub ends_found : (ws rest : List Lexeme) (ss : List PlainSpan) → SoFar ws rest ss → rest ≡ [] → AreSpansMeant ss ws
ends_found ws rest ss far none = subst (λ (t : List PlainSpan). AreSpansMeant t ws) (append-nil ss) (far.found [] (no_spans rest none))

pub ends_only : (ws rest : List Lexeme) (ss : List PlainSpan) → SoFar ws rest ss → rest ≡ [] → (all : List PlainSpan) → AreSpansMeant all ws → ss ≡ all
ends_only ws rest ss far none all h = spans_one ss all ws ws refl (ends_found ws rest ss far none) h
