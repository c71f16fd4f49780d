-- Lemmas on the constants of VALUE clauses.
use Rattle.std.proofs.Common.{◌≡◌, ℕ, ◌+◌, ◌<◌, ℤ, List, [], ◌∷◌, ◌++◌, refl, ap, sym, ◌∙◌, subst, arith, Bool, true, false, IsTrue, ◌↔◌, Option, Some, None}
use Rattle.std.specs.Prelude.{is_some}
use Rattle.std.proofs.lemmas.Bool.Decides.{nat_tests}
use Rattle.cob_decimal.specs.Decimal.{number_of}
use Rattle.cob_decimal.specs.Literals.{Literal, IsLiteral, IsValueOf, literal_text, sign_text, fraction_text, characters}
use Rattle.cob_decimal.proofs.LiteralLemmas.{one_literal}
use Rattle.cob_copybook_clauses.specs.Written.{Word}
use Rattle.cob_copybook_entry.specs.Described.{PlainValue, Numeric, Quoted, Figure, Repeated}
use Rattle.cob_copybook_entries.specs.Meaning.{IsConstantOf}
use Rattle.cob_copybook_entries.specs.Signs.{begins_with_sign}

no_sign : (d : ℕ) (ds : List ℕ) → begins_with_sign ((d + 48) ∷ ds) ≡ false
no_sign d ds = grind (arith, nat_tests)

-- a literal's text begins with a sign exactly where the literal has one
sign_seen : (s : Option Bool) (whole fraction : List ℕ) → begins_with_sign (sign_text s ++ (characters whole ++ fraction_text fraction)) ≡ is_some s
sign_seen None [] [] = refl
sign_seen None [] (f ∷ fraction) = refl
sign_seen None (d ∷ whole) fraction = no_sign d (characters whole ++ fraction_text fraction)
sign_seen (Some false) whole fraction = refl
sign_seen (Some true) whole fraction = refl

same_truth : (a b : Bool) (P : Type 0) → IsTrue a ↔ P → IsTrue b ↔ P → a ≡ b
same_truth true true P h k = refl
same_truth false false P h k = refl
same_truth true false P h k = sym (k.1 (h.0 refl))
same_truth false true P h k = h.1 (k.0 refl)

-- a literal that is read means the number that was read
pub literal_means : (text : List ℕ) (negative : Bool) (digits : List ℕ) (scale : ℤ)
    → (l : Literal) × IsLiteral l × (text ≡ literal_text l) × IsValueOf l negative digits scale
    → IsConstantOf (Word text) (Numeric (begins_with_sign text) negative digits scale)
literal_means text negative digits scale h =
    let l = h.0 in
    (l, h.1, h.2, ap begins_with_sign h.2 ∙ sign_seen l.sign l.whole l.fraction, h.3)

same_number : (l : Literal) (s t m n : Bool) (ds es : List ℕ) (a b : ℤ) → s ≡ is_some l.sign → t ≡ is_some l.sign → IsValueOf l m ds a → IsValueOf l n es b → Numeric s m ds a ≡ Numeric t n es b
same_number l s t m n ds es a b hs ht h k =
    let signs : s ≡ t = hs ∙ sym ht in
    let digits : ds ≡ es = h.as_written ∙ sym k.as_written in
    let minus : m ≡ n = same_truth m n _ h.minus (subst (λ (xs : List ℕ). IsTrue n ↔ ((l.sign ≡ Some true) × (0 < number_of xs))) (sym digits) k.minus) in
    let scales : a ≡ b = h.point ∙ sym k.point in
    cc

-- a word means one constant
pub one_numeric : (text : List ℕ) (s m : Bool) (ds : List ℕ) (a : ℤ) (c : PlainValue) → IsConstantOf (Word text) (Numeric s m ds a) → IsConstantOf (Word text) c → Numeric s m ds a ≡ c
one_numeric text s m ds a (Numeric t n es b) h k =
    let same : h.0 ≡ k.0 = one_literal h.0 k.0 h.1 k.1 (sym h.2 ∙ k.2) in
    same_number h.0 s t m n ds es a b h.3 (subst (λ (l : Literal). t ≡ is_some l.sign) (sym same) k.3) h.4 (subst (λ (l : Literal). IsValueOf l n es b) (sym same) k.4)
one_numeric text s m ds a (Quoted cs) h k = absurd k
one_numeric text s m ds a (Figure f) h k = absurd k
one_numeric text s m ds a (Repeated cs) h k = absurd k
