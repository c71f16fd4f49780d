-- The words of one value: with which word they begin, and that they are cut off in one way.
use Rattle.std.proofs.Common.{◌≡◌, ℕ, ◌<◌, ◌≤◌, List, [], ◌∷◌, ◌++◌, codes, false, length, sym, subst, ap, ◌∙◌, inl, inr, arith, Some, None}
use Rattle.cob_source.specs.Tokens.{Lexeme}
use Rattle.cob_decimal.specs.Literals.{Literal}
use Rattle.cob_copybook_entry.specs.Described.{PlainValue, Numeric, Quoted as QuotedMeant, Figure as FigureMeant, Repeated as RepeatedMeant}
use Rattle.cob_copybook_clauses.specs.declared.term.WordClass.TheVariants as term
use Rattle.cob_copybook_clauses.specs.Terms.{term_of_kind, word_class}
use Rattle.cob_copybook_clauses.specs.Clauses.{IsConstant, IsFree, figurative_of}
use Rattle.cob_copybook_clauses.specs.Written.{WrittenValue, Word, Quoted, Figure, Repeated}
use Rattle.cob_copybook_clauses.proofs.OneLemmas.{constant_cut}
use Rattle.cob_copybook_entries.specs.Meaning.{IsConstantOf}
use Rattle.cob_copybook_entries.specs.Parts.{IsLiteralOf, IsUnsigned}
use Rattle.cob_copybook_entries.proofs.Literals.{literal_only}
use Rattle.cob_copybook_entries.proofs.OneList.{one_constant}
use Rattle.cob_copybook_conditions.specs.Entries.{IsListedValue, IsLiteralWord, IsThroughWord}
use Rattle.cob_copybook_conditions.specs.Reading.{IsValueMeant, NotThroughFirst}

-- ---- THROUGH is no literal

no_digit : (c : ℕ) (cs : List ℕ) → 65 ≤ c → IsUnsigned false (c ∷ cs) → ⊥
no_digit c cs high (inl h) = omega (arith, high, h.0)
no_digit c cs high (inr h) = omega (arith, high, h.1.0)

through_no_literal : (l : Literal) → IsLiteralOf l (codes "THROUGH") → ⊥
through_no_literal l h = no_digit 84 (72 ∷ 82 ∷ 79 ∷ 85 ∷ 71 ∷ 72 ∷ []) (omega arith) (literal_only (codes "THROUGH") l h)

thru_no_literal : (l : Literal) → IsLiteralOf l (codes "THRU") → ⊥
thru_no_literal l h = no_digit 84 (72 ∷ 82 ∷ 85 ∷ []) (omega arith) (literal_only (codes "THRU") l h)

-- a word that is a numeric literal isn't THROUGH
literal_no_through : (text : List ℕ) (l : Literal) (w : Lexeme) → IsLiteralOf l text → IsFree text w → IsThroughWord w → ⊥
literal_no_through text l w is free (inl h) = through_no_literal l (subst (IsLiteralOf l) (sym free.same ∙ h.same) is)
literal_no_through text l w is free (inr h) = thru_no_literal l (subst (IsLiteralOf l) (sym free.same ∙ h.same) is)

-- a word of another class isn't THROUGH
plain : (w : Lexeme) → IsThroughWord w → word_class w ≡ term.Plain
plain w (inl h) = h.free
plain w (inr h) = h.free

-- ---- with which word a value begins

pub value_no_through : (v : WrittenValue) (ws more : List Lexeme) → IsListedValue v ws → NotThroughFirst (ws ++ more)
value_no_through (Word text) ws more ((w, free, e), (l, is)) = subst (λ (x : List Lexeme). NotThroughFirst (x ++ more)) (sym e) (literal_no_through text l w is free)
value_no_through (Quoted text) ws more ((w, k, s, e), other) =
    subst (λ (x : List Lexeme). NotThroughFirst (x ++ more)) (sym e) (λ h. let both : term.Literal ≡ term.Plain = sym (ap (λ k. term_of_kind k w.text) k) ∙ plain w h in cc)
value_no_through (Figure f) ws more (([], w, n, is, e), other) =
    subst (λ (x : List Lexeme). NotThroughFirst (x ++ more)) (sym e) (λ h. let both : Some f ≡ None = sym is ∙ ap figurative_of (plain w h) in cc)
value_no_through (Figure f) ws more ((a ∷ [], w, n, is, e), other) =
    subst (λ (x : List Lexeme). NotThroughFirst (x ++ more)) (sym e) (λ h. let both : term.All ≡ term.Plain = sym n ∙ plain a h in cc)
value_no_through (Figure f) ws more ((a ∷ b ∷ all, w, n, is, e), other) = absurd n
value_no_through (Repeated text) ws more ((a, w, is, k, s, e), other) =
    subst (λ (x : List Lexeme). NotThroughFirst (x ++ more)) (sym e) (λ h. let both : term.All ≡ term.Plain = sym is ∙ plain a h in cc)

-- ---- a value has a word

constant_some : (v : WrittenValue) (ws : List Lexeme) → IsConstant v ws → 0 < length ws
constant_some (Word text) ws (w, free, e) = subst (λ (x : List Lexeme). 0 < length x) (sym e) (omega arith)
constant_some (Quoted text) ws (w, k, s, e) = subst (λ (x : List Lexeme). 0 < length x) (sym e) (omega arith)
constant_some (Figure f) ws ([], w, n, is, e) = subst (λ (x : List Lexeme). 0 < length x) (sym e) (omega arith)
constant_some (Figure f) ws (a ∷ all, w, n, is, e) = subst (λ (x : List Lexeme). 0 < length x) (sym e) (omega arith)
constant_some (Repeated text) ws (a, w, is, k, s, e) = subst (λ (x : List Lexeme). 0 < length x) (sym e) (omega arith)

pub value_some : (v : WrittenValue) (ws : List Lexeme) → IsListedValue v ws → 0 < length ws
value_some v ws is = constant_some v ws is.0

-- ---- what a constant means, and how it is cut off

-- a constant that means something is a numeric literal where it is a word
pub literal_word : (v : WrittenValue) (c : PlainValue) → IsConstantOf v c → IsLiteralWord v
literal_word (Word text) (Numeric signed negative digits scale) (l, is, written, sign, value) = (l, (record { whole = is.whole; fraction = is.fraction; some = is.some }, written))
literal_word (Word text) (QuotedMeant cs) h = absurd h
literal_word (Word text) (FigureMeant f) h = absurd h
literal_word (Word text) (RepeatedMeant cs) h = absurd h
literal_word (Quoted text) c h = tt
literal_word (Figure f) c h = tt
literal_word (Repeated text) c h = tt

-- a value in front is one, and so is what is behind it
pub value_cut : (c d : PlainValue) (n m a b : List Lexeme) → IsValueMeant c n → IsValueMeant d m → n ++ a ≡ m ++ b → (c ≡ d) × (a ≡ b)
value_cut c d n m a b p q e =
    let r = constant_cut p.written q.written n m a b p.is.0 q.is.0 e in
    (one_constant q.written c d (subst (λ (w : WrittenValue). IsConstantOf w c) r.0 p.means) q.means, r.1)
