-- Numeric literals of any number of digits.
use Rattle.std.proofs.Common.{◌≡◌, inl, inr, ℕ, ◌+◌, ◌-◌, ◌<◌, ◌≤◌, List, [], ◌∷◌, ◌++◌, length, refl, ap, sym, subst, ◌∙◌, arith, Bool, true, false, Option, Some, None}
use Rattle.std.specs.Prelude.{◌==◌}
use Rattle.std.proofs.lemmas.Bool.{eqb-true}
use Rattle.std.proofs.lemmas.Bool.Decides.{nat_tests}
use Rattle.cob_decimal.specs.Decimal.{IsDigits}
use Rattle.cob_decimal.specs.Literals.{Literal, sign_text, fraction_text, characters, AreDigits, digits_in}
use Rattle.cob_copybook_entries.specs.Parts.{IsLiteralOf, sign_of, behind_sign, IsUnsigned}

-- there is a digit, unless one was read before
abbrev HasSome : Bool → ℕ → Type 0
HasSome true n = Unit {0}
HasSome false n = 0 < n

-- the text is digits, and those behind a point
record AreParts (some : Bool) (text : List ℕ) : Type 0 where
  pub whole : List ℕ
  pub fraction : List ℕ
  pub whole_digits : IsDigits whole
  pub fraction_digits : IsDigits fraction
  pub has_some : HasSome some (length whole + length fraction)
  pub spelled : text ≡ characters whole ++ fraction_text fraction

digits_read : (cs : List ℕ) → AreDigits cs → IsDigits (digits_in cs)
digits_read [] h = tt
digits_read (c ∷ cs) h = (omega (arith, h.0.0, h.0.1), digits_read cs h.1)

written_again : (cs : List ℕ) → AreDigits cs → characters (digits_in cs) ≡ cs
written_again [] h = refl
written_again (c ∷ cs) h =
    let head : c - 48 + 48 ≡ c = omega (arith, h.0.0) in
    let rest : characters (digits_in cs) ≡ cs = written_again cs h.1 in
    cc

digits_written : (ds : List ℕ) → IsDigits ds → AreDigits (characters ds)
digits_written [] h = tt
digits_written (d ∷ ds) h = ((omega arith, omega (arith, h.0)), digits_written ds h.1)

point_first : (some : Bool) (c : ℕ) (cs : List ℕ) → c ≡ 46 → 0 < length cs → AreDigits cs → AreParts some (c ∷ cs)
point_first some c [] e more h = absurd (omega (arith, more))
point_first some c (d ∷ ds) e more h = record {
  whole = [];
  fraction = digits_in (d ∷ ds);
  whole_digits = tt;
  fraction_digits = digits_read (d ∷ ds) h;
  has_some = has some;
  spelled = ap (λ (x : ℕ). x ∷ (d ∷ ds)) e ∙ ap (λ (t : List ℕ). 46 ∷ t) (sym (written_again (d ∷ ds) h));
}
  where
    has : (b : Bool) → HasSome b (0 + length (digits_in (d ∷ ds)))
    has true = tt
    has false = omega arith

digit_first : (some : Bool) (c : ℕ) (cs : List ℕ) → 48 ≤ c → c < 58 → AreParts true cs → AreParts some (c ∷ cs)
digit_first some c cs low high p =
    let head : c ≡ c - 48 + 48 = omega (arith, low) in
    record {
      whole = (c - 48) ∷ p.whole;
      fraction = p.fraction;
      whole_digits = (omega (arith, low, high), p.whole_digits);
      fraction_digits = p.fraction_digits;
      has_some = has some;
      spelled = ap (λ (x : ℕ). x ∷ cs) head ∙ ap (λ (t : List ℕ). (c - 48 + 48) ∷ t) p.spelled;
    }
  where
    has : (b : Bool) → HasSome b (length ((c - 48) ∷ p.whole) + length p.fraction)
    has true = tt
    has false = omega arith

-- what is read has parts
parts_read : (some : Bool) (text : List ℕ) → IsUnsigned some text → AreParts some text
parts_read true [] h = record { whole = []; fraction = []; whole_digits = tt; fraction_digits = tt; has_some = tt; spelled = refl }
parts_read false [] h = absurd cc
parts_read some (c ∷ cs) (inl h) = point_first some c cs h.0 h.1.0 h.1.1
parts_read some (c ∷ cs) (inr h) = digit_first some c cs h.0 h.1.0 (parts_read true cs h.1.1)

-- what has parts is read
unsigned_from : (some : Bool) (whole fraction : List ℕ) → IsDigits whole → IsDigits fraction → HasSome some (length whole + length fraction) → IsUnsigned some (characters whole ++ fraction_text fraction)
unsigned_from true [] [] w f h = refl
unsigned_from false [] [] w f h = absurd (omega (arith, h))
unsigned_from some [] (d ∷ ds) w f h = inl (refl, (omega arith, digits_written (d ∷ ds) f))
unsigned_from some (d ∷ ds) fraction w f h = inr (omega arith, (omega (arith, w.0), unsigned_from true ds fraction w.1 f tt))

-- a text is its sign, and what stands behind it
sign_apart : (text : List ℕ) → text ≡ sign_text (sign_of text) ++ behind_sign text
sign_apart [] = refl
sign_apart (c ∷ cs) = go (c == 43) (c == 45) refl refl
  where
    go : (x y : Bool) → (c == 43) ≡ x → (c == 45) ≡ y → c ∷ cs ≡ sign_text (sign_of (c ∷ cs)) ++ behind_sign (c ∷ cs)
    go true y ex ey = rw ex (ap (λ (k : ℕ). k ∷ cs) (eqb-true _ _ ex))
    go false true ex ey = rw (ex, ey) (ap (λ (k : ℕ). k ∷ cs) (eqb-true _ _ ey))
    go false false ex ey = rw (ex, ey) refl

digit_kept : (d : ℕ) (cs : List ℕ) → behind_sign ((d + 48) ∷ cs) ≡ (d + 48) ∷ cs
digit_kept d cs =
    let plus : ((d + 48) == 43) ≡ false = grind (arith, nat_tests) in
    let minus : ((d + 48) == 45) ≡ false = grind (arith, nat_tests) in
    rw (plus, minus) refl

pub sign_off : (s : Option Bool) (whole fraction : List ℕ) → behind_sign (sign_text s ++ (characters whole ++ fraction_text fraction)) ≡ characters whole ++ fraction_text fraction
sign_off None [] [] = refl
sign_off None [] (f ∷ fraction) = refl
sign_off None (d ∷ whole) fraction = digit_kept d (characters whole ++ fraction_text fraction)
sign_off (Some false) whole fraction = refl
sign_off (Some true) whole fraction = refl

pub literal_from : (text : List ℕ) → IsUnsigned false (behind_sign text) → (l : Literal) × IsLiteralOf l text
literal_from text h =
    let p = parts_read false (behind_sign text) h in (
      record { sign = sign_of text; whole = p.whole; fraction = p.fraction },
      (
        record { whole = p.whole_digits; fraction = p.fraction_digits; some = p.has_some },
        sign_apart text ∙ ap (λ (t : List ℕ). sign_text (sign_of text) ++ t) p.spelled,
      ),
    )

pub literal_only : (text : List ℕ) (l : Literal) → IsLiteralOf l text → IsUnsigned false (behind_sign text)
literal_only text l h =
    subst (IsUnsigned false) (sym (ap behind_sign h.1 ∙ sign_off l.sign l.whole l.fraction)) (unsigned_from false l.whole l.fraction h.0.whole h.0.fraction h.0.some)
