-- The number that digits spell, computed.
use Rattle.std.proofs.Common.{◌≡◌, ℕ, ◌<◌, ◌≤◌, Bool, true, false, ◌&&◌, nat_le, nat_lt, if◌then◌else◌, List, [], ◌∷◌, length, Option, Some, None, refl, sym, ap, ◌∙◌, rules}
use Rattle.std.specs.List.{list_all}
use Rattle.cob_copybook_entries.specs.Meaning.{IsIntegerText}
use Rattle.cob_decimal.specs.Decimal.{number_of}
use Rattle.cob_decimal.specs.Literals.{AreDigits, digits_in}
use Rattle.cob_move_loops.specs.Turns.{is_decimal_digit, whole_in}

digit_true : (c : ℕ) → 48 ≤ c → c < 58 → is_decimal_digit c ≡ true
digit_true c low high = search rules

digit_low : (c : ℕ) → is_decimal_digit c ≡ true → 48 ≤ c
digit_low c e = search rules

digit_high : (c : ℕ) → is_decimal_digit c ≡ true → c < 58
digit_high c e = search rules

both_true : (a b : Bool) → a ≡ true → b ≡ true → (a && b) ≡ true
both_true a b p q = search rules

first_true : (a b : Bool) → (a && b) ≡ true → a ≡ true
first_true true b e = refl
first_true false b e = e

second_true : (a b : Bool) → (a && b) ≡ true → b ≡ true
second_true true b e = e
second_true false b e = let never : false ≡ true = e in absurd cc

all_digits : (text : List ℕ) → AreDigits text → list_all is_decimal_digit text ≡ true
all_digits [] h = refl
all_digits (c ∷ cs) h = both_true (is_decimal_digit c) (list_all is_decimal_digit cs) (digit_true c h.0.0 h.0.1) (all_digits cs h.1)

are_digits : (text : List ℕ) → list_all is_decimal_digit text ≡ true → AreDigits text
are_digits [] e = tt
are_digits (c ∷ cs) e =
    let first : is_decimal_digit c ≡ true = first_true (is_decimal_digit c) (list_all is_decimal_digit cs) e in
    ((digit_low c first, digit_high c first), are_digits cs (second_true (is_decimal_digit c) (list_all is_decimal_digit cs) e))

-- whether a text is one to nine digits
abbrev is_whole : List ℕ → Bool
is_whole text = nat_lt 0 (length text) && (nat_le (length text) 9 && list_all is_decimal_digit text)

below_true : (a b : ℕ) → a < b → nat_lt a b ≡ true
below_true a b h = search rules

most_true : (a b : ℕ) → a ≤ b → nat_le a b ≡ true
most_true a b h = search rules

true_below : (a b : ℕ) → nat_lt a b ≡ true → a < b
true_below a b e = search rules

true_most : (a b : ℕ) → nat_le a b ≡ true → a ≤ b
true_most a b e = search rules

whole_true : (text : List ℕ) (n : ℕ) → IsIntegerText 9 text n → is_whole text ≡ true
whole_true text n is =
    both_true (nat_lt 0 (length text)) (nat_le (length text) 9 && list_all is_decimal_digit text) (below_true 0 (length text) is.some)
    (both_true (nat_le (length text) 9) (list_all is_decimal_digit text) (most_true (length text) 9 is.few) (all_digits text is.digits))

true_whole : (text : List ℕ) → is_whole text ≡ true → IsIntegerText 9 text (number_of (digits_in text))
true_whole text e =
    let behind = second_true (nat_lt 0 (length text)) (nat_le (length text) 9 && list_all is_decimal_digit text) e in record {
      digits = are_digits text (second_true (nat_le (length text) 9) (list_all is_decimal_digit text) behind);
      some = true_below 0 (length text) (first_true (nat_lt 0 (length text)) (nat_le (length text) 9 && list_all is_decimal_digit text) e);
      few = true_most (length text) 9 (first_true (nat_le (length text) 9) (list_all is_decimal_digit text) behind);
      value = refl;
    }

some_if : (b : Bool) (v : ℕ) → b ≡ true → (if b then Some v else None) ≡ Some v
some_if true v e = refl
some_if false v e = let never : false ≡ true = e in absurd cc

none_if : (b : Bool) (v : ℕ) → (b ≡ true → ⊥) → (if b then Some v else None) ≡ None
none_if true v never = absurd (never refl)
none_if false v never = refl

-- a reader's answer is the number
pub whole_is : (text : List ℕ) (o : Option ℕ) → ((n : ℕ) → o ≡ Some n → IsIntegerText 9 text n) → ((n : ℕ) → IsIntegerText 9 text n → o ≡ Some n) → o ≡ whole_in text
whole_is text (Some n) found only =
    let is = found n refl in
    ap Some is.value ∙ sym (some_if (is_whole text) (number_of (digits_in text)) (whole_true text n is))
whole_is text None found only =
    sym (none_if (is_whole text) (number_of (digits_in text)) (λ e. let same : None ≡ Some (number_of (digits_in text)) = only (number_of (digits_in text)) (true_whole text e) in cc))
