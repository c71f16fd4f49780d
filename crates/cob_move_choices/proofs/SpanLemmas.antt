-- Values that words list.
use Rattle.std.proofs.Common.{◌≡◌, List, [], ◌∷◌, ◌++◌, codes, refl, sym, ap, ◌∙◌, append-nil, inl, inr}
use Rattle.cob_copybook_clauses.specs.declared.term.WordClass.TheVariants as term
use Rattle.cob_copybook_clauses.specs.Reading.{NotFirstWord}
use Rattle.cob_copybook_clauses.specs.Terms.{term_of_kind, term_of_word, word_class}
use Rattle.cob_copybook_clauses.specs.Written.{WrittenValue}
use Rattle.cob_copybook_clauses.proofs.OneLemmas.{constant_cut}
use Rattle.cob_copybook_entry.specs.Kinds.{usage_word}
use Rattle.cob_move_data.specs.Moves.{Sender}
use Rattle.cob_move_names.specs.Candidates.{Candidate}
use Rattle.cob_move_names.specs.Laws.{OneNamed}
use Rattle.cob_move_statements.specs.Written.{SentConstant}
use Rattle.cob_move_tests.specs.Spans.{FromTo, One, Span}
use Rattle.cob_move_tests.proofs.OneLemmas.{one_operand}
use Rattle.cob_source.specs.Tokens.{Lexeme}
use Rattle.cob_source.specs.declared.token.TokenKind.{TokenKind}
use Rattle.cob_move_choices.specs.Values.{FromToWritten, IsSpanOf, IsSpanWritten, IsThru, IsValueWritten, OneWritten, WrittenSpan}

-- ---- THRU

thru_word : term_of_word (codes "THRU") ≡ term.Plain
unfolding term_of_word usage_word
thru_word = refl

through_word : term_of_word (codes "THROUGH") ≡ term.Plain
unfolding term_of_word usage_word
through_word = refl

-- it is no reserved word of entries and moves
pub thru_plain : (w : Lexeme) → IsThru w → word_class w ≡ term.Plain
thru_plain w (inl is) = ap (λ (k : TokenKind). term_of_kind k w.text) is.word ∙ ap term_of_word is.same ∙ thru_word
thru_plain w (inr is) = ap (λ (k : TokenKind). term_of_kind k w.text) is.word ∙ ap term_of_word is.same ∙ through_word

-- what begins with it may follow a value
pub thru_follows : (thru : Lexeme) (to : List Lexeme) → IsThru thru → NotFirstWord term.Of (thru ∷ to) × NotFirstWord term.OpenBracket (thru ∷ to)
thru_follows thru to is = (
  λ h. let never : term.Plain ≡ term.Of = sym (thru_plain thru is) ∙ h in cc,
  λ h. let never : term.Plain ≡ term.OpenBracket = sym (thru_plain thru is) ∙ h in cc,
)

-- ---- values are written in one way

nothing_is : {A : Type 0} (x : A) (xs : List A) → [] ≡ x ∷ xs → ⊥
nothing_is x xs e = cc

same_tail : {A : Type 0} (x y : A) (xs ys : List A) → x ∷ xs ≡ y ∷ ys → xs ≡ ys
same_tail x y xs ys e = cc

pub value_cut : (v w : WrittenValue) (n m a b : List Lexeme) → IsValueWritten v n → IsValueWritten w m → n ++ a ≡ m ++ b → (v ≡ w) × (a ≡ b)
value_cut v w n m a b h k e = constant_cut v w n m a b h.0.0 k.0.0 e

-- a value isn't two with THRU between them
never_both : (v x y : WrittenValue) (ws : List Lexeme) → IsValueWritten v ws → IsSpanWritten (FromToWritten x y) ws → ⊥
never_both v x y ws h (from, to, thru, first, is, last, e) = nothing_is thru to (value_cut v x ws from [] (thru ∷ to) h first (append-nil ws ∙ e)).1

pub one_span : (w x : WrittenSpan) (ws : List Lexeme) → IsSpanWritten w ws → IsSpanWritten x ws → w ≡ x
one_span (OneWritten v) (OneWritten x) ws h k = ap (λ (z : WrittenValue). OneWritten z) (value_cut v x ws ws [] [] h k refl).0
one_span (OneWritten v) (FromToWritten x y) ws h k = absurd (never_both v x y ws h k)
one_span (FromToWritten v u) (OneWritten x) ws h k = absurd (never_both x v u ws k h)
one_span (FromToWritten v u) (FromToWritten x y) ws (from, to, thru, first, is, last, e) (front, tail, through, start, it, end, f) =
    let one : (v ≡ x) × (thru ∷ to ≡ through ∷ tail) = value_cut v x from front (thru ∷ to) (through ∷ tail) first start (sym e ∙ f) in
    let rest : to ≡ tail = same_tail thru through to tail one.1 in
    let two : u ≡ y = (value_cut u y to tail [] [] last end (ap (λ (t : List Lexeme). t ++ []) rest)).0 in
    ap (λ (z : WrittenValue). FromToWritten z u) one.0 ∙ ap (λ (z : WrittenValue). FromToWritten x z) two

-- ---- and mean one span

pub one_span_of : OneNamed → (all : List Candidate) (w : WrittenSpan) (u v : Span) → IsSpanOf all w u → IsSpanOf all w v → u ≡ v
one_span_of law all (OneWritten x) u v (a, is, e) (b, it, f) = e ∙ ap (λ (z : Sender). One z) (one_operand law all (SentConstant x) a b is it) ∙ sym f
one_span_of law all (FromToWritten x y) u v (a, b, is, last, e) (c, d, it, end, f) =
    e ∙ ap (λ (z : Sender). FromTo z b) (one_operand law all (SentConstant x) a c is it)
    ∙ ap (λ (z : Sender). FromTo c z) (one_operand law all (SentConstant y) b d last end) ∙ sym f
