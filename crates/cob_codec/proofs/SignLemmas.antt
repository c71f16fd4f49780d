-- Lemmas on signs and digits.
use Rattle.std.proofs.Common.{◌≡◌, ℕ, ◌<◌, ◌==◌, ◌||◌, if◌then◌else◌, List, [], ◌∷◌, length, get_or, refl, sym, ap, ◌∙◌, arith, suc, zero, Bool, true, false, IsTrue, Option, Some, None, ◌↔◌}
use Rattle.std.specs.Prelude.{IfSome, IfNone, IsSomeAnd}
use Rattle.cob_decimal.specs.Decimal.{IsDigits, number_of}
use Rattle.cob_codec.specs.Sign.{sign_meaning, sign_code, IsSigned, IsHeld}

-- a digit of digits
pub digit_small : (ds : List ℕ) (k : ℕ) → IsDigits ds → k < length ds → get_or ds k 0 < 10
digit_small [] k valid lt = absurd (omega arith)
digit_small (d ∷ ds) zero valid lt = valid.0
digit_small (d ∷ ds) (suc k) valid lt = digit_small ds k valid.1 (omega arith)

-- only a signed item has a minus
pub minus_is_signed : (signed : Bool) (code : ℕ) → sign_meaning signed code ≡ Some true → IsTrue signed
minus_is_signed true code meaning = refl
minus_is_signed false code meaning = unsigned (code == 0xA || code == 0xC || code == 0xE || code == 0xF) meaning
  where
    unsigned : (plus : Bool) → (if plus then Some false else None) ≡ Some true → IsTrue false
    unsigned true e = absurd (cc)
    unsigned false e = absurd (cc)

-- the code that is written says the sign
pub code_meaning : (signed negative : Bool) → (IsTrue negative → IsTrue signed) → sign_meaning signed (sign_code signed negative) ≡ Some negative
code_meaning true true h = refl
code_meaning true false h = refl
code_meaning false true h = let no : IsTrue false = h refl in absurd (cc)
code_meaning false false h = refl

pub code_small : (signed negative : Bool) → sign_code signed negative < 16
code_small true true = omega arith
code_small true false = omega arith
code_small false negative = omega arith

-- one sign and one list of digits make one number
pub same_sign : (a b m : Bool) (P : Type 0) → IsTrue a ↔ (IsTrue m × P) → IsTrue b ↔ (IsTrue m × P) → a ≡ b
same_sign true true m P p q = refl
same_sign false false m P p q = refl
same_sign true false m P p q = sym (q.1 (p.0 refl))
same_sign false true m P p q = p.1 (q.0 refl)

pub same_some : (x y : Bool) → Some x ≡ Some y → x ≡ y
same_some x y e = cc

-- two readings of one sign code and of the same digits agree
pub one_sign : (signed : Bool) (code c : ℕ) (a b m n : Bool) (ds es : List ℕ) → code ≡ c → ds ≡ es → sign_meaning signed code ≡ Some m → sign_meaning signed c ≡ Some n → IsSigned m ds a → IsSigned n es b → a ≡ b
one_sign signed code c a b m n ds es same_code same_digits meaning other p q =
    let same : m ≡ n = same_some m n (sym meaning ∙ ap (sign_meaning signed) same_code ∙ other) in
    same_sign a b n (0 < number_of es) (rw (← same_digits, ← same) p) q

-- what a sign that was read makes of digits can be held
pub held : (count : ℕ) (signed minus negative : Bool) (code : ℕ) (ds : List ℕ) → length ds ≡ count → IsDigits ds → sign_meaning signed code ≡ Some minus → IsSigned minus ds negative → IsHeld count signed negative ds
held count signed minus negative code ds count_is valid meaning sign = record {
  count_is = count_is;
  valid = valid;
  minus = λ h. minus_is_signed signed code (meaning ∙ ap (λ b. Some b) (sign.0 h).0);
  nonzero = λ h. (sign.0 h).1;
}

-- a number that is held keeps its sign
pub held_sign : (negative : Bool) (ds : List ℕ) → (IsTrue negative → 0 < number_of ds) → IsSigned negative ds negative
held_sign negative ds nonzero = (λ h. (h, nonzero h), λ h. h.0)

-- what is known of a value that is found, and where nothing is found
pub some_from : {X : Type 0} (result : Option X) (P Q : X → Type 0) → IfSome result P → ((x : X) → P x → Q x) → IfSome result Q
some_from None P Q found same = found
some_from (Some x) P Q found same = same x found

pub none_from : {X : Type 0} (result : Option X) (A B : Type 0) → IfNone result A → (A → B) → IfNone result B
none_from None A B none same = same none
none_from (Some x) A B none same = none

-- what is found, and that nothing is left out where nothing is found, make an exact answer
pub only_from : {X : Type 0} (result : Option X) (P Q : X → Type 0) (nothing : Type 0) → IfSome result P → IfNone result nothing → (nothing → ⊥) → ((x : X) → P x → Q x) → IsSomeAnd result Q
only_from None P Q nothing found none never same = never none
only_from (Some x) P Q nothing found none never same = same x found
