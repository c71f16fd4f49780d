-- Lemmas on reading numbers by any zones.
use Rattle.std.proofs.Common.{◌≡◌, inl, inr, ℕ, ◌+◌, ◌/◌, ◌%◌, ◌<◌, ◌==◌, ◌&&◌, List, [], ◌∷◌, length, map, get_or, refl, sym, ap, ◌∙◌, arith, suc, zero, Bool, true, false, IsTrue, ◌↔◌}
use Rattle.std.specs.Prelude.{replicate}
use Rattle.std.specs.List.{list_all}
use Rattle.std.proofs.lemmas.Bool.{eqb-true, eq-eqb}
use Rattle.std.proofs.lemmas.List.{length-map, get_or-map}
use Rattle.cob_decimal.specs.Decimal.{IsDigits}
use Rattle.cob_codec.specs.AnyZones.{AreFilled, IsFilled, IsPackedByAnyZones}
use Rattle.cob_codec.specs.Packed.{IsPacked}
use Rattle.cob_codec.specs.Zoned.{low_digit}
use Rattle.cob_codec.proofs.SignLemmas.{digit_small}

-- a low half of bytes whose low halves are digits
pub low_small : (bytes : List ℕ) (k : ℕ) → IsDigits (map low_digit bytes) → k < length bytes → get_or bytes k 0 % 16 < 10
low_small bytes k valid lt =
    let here : get_or (map low_digit bytes) k 0 ≡ get_or bytes k 0 % 16 = get_or-map low_digit bytes k 0 0 lt in
    let small : get_or (map low_digit bytes) k 0 < 10 = digit_small (map low_digit bytes) k valid (omega (arith, length-map bytes low_digit)) in
    omega arith

both_true : (a b : Bool) → (a && b) ≡ true → (a ≡ true) × (b ≡ true)
both_true true b e = (refl, e)
both_true false b e = absurd (cc)

true_both : (a b : Bool) → a ≡ true → b ≡ true → (a && b) ≡ true
true_both true b p q = q
true_both false b p q = p

is_fill : (fill : ℕ) (bs : List ℕ) → list_all (λ b. b == fill) bs ≡ true → bs ≡ replicate (length bs) fill
is_fill fill [] e = refl
is_fill fill (b ∷ bs) e =
    let both = both_true (b == fill) (list_all (λ x. x == fill) bs) e in
    ap (λ x. x ∷ bs) (eqb-true b fill both.0) ∙ ap (λ xs. fill ∷ xs) (is_fill fill bs both.1)

fill_all : (fill n : ℕ) → list_all (λ b. b == fill) (replicate n fill) ≡ true
fill_all fill zero = refl
fill_all fill (suc n) = true_both (fill == fill) (list_all (λ b. b == fill) (replicate n fill)) (eq-eqb fill fill refl) (fill_all fill n)

-- all bytes are this one
pub are_all : (fill : ℕ) (bs : List ℕ) (b : Bool) → b ≡ list_all (λ x. x == fill) bs → IsTrue b ↔ (bs ≡ replicate (length bs) fill)
are_all fill bs b e = (λ h. is_fill fill bs (sym e ∙ h), λ same. e ∙ ap (list_all (λ x. x == fill)) same ∙ fill_all fill (length bs))

not_minus : (negative : Bool) (P : Type 0) → IsTrue negative ↔ (IsTrue false × P) → negative ≡ false
not_minus true P sign = sym (sign.0 refl).0
not_minus false P sign = refl

-- bytes that are filled stand for zero
pub filled_zero : (count : ℕ) (bytes : List ℕ) (negative : Bool) (digits : List ℕ) (P : Type 0) → length bytes ≡ count / 2 + 1 → AreFilled bytes → digits ≡ replicate count 0
    → IsTrue negative ↔ (IsTrue false × P) → IsFilled count bytes negative digits
filled_zero count bytes negative digits P long filled zeros sign = record {
  long = long;
  filled = filled;
  zeros = zeros;
  plus = not_minus negative P sign;
}

-- what a test tells is not so where it fails
pub unless_told : (b : Bool) (P : Type 0) → IsTrue b ↔ P → b ≡ false → P → ⊥
unless_told true P tells fails h = cc
unless_told false P tells fails h = let told : IsTrue false = tells.1 h in cc

-- bytes that are not filled are packed
pub packed_alone : (count : ℕ) (signed : Bool) (bytes : List ℕ) (negative : Bool) (ds : List ℕ) → (AreFilled bytes → ⊥) → IsPackedByAnyZones count signed bytes negative ds
    → IsPacked count signed bytes negative ds
packed_alone count signed bytes negative ds none (inl p) = p
packed_alone count signed bytes negative ds none (inr f) = absurd (none f.filled)
