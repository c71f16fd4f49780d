-- The number that digits spell, and the one of the first of them.
use Rattle.std.proofs.Common.{◌≡◌, ℕ, ◌+◌, ◌-◌, ◌*◌, ◌^◌, ◌<◌, ◌≤◌, List, [], ◌∷◌, ◌++◌, length, take, drop, get_or, ap, sym, subst, ◌∙◌, arith}
use Rattle.std.proofs.lemmas.List.{map-append, take-append-drop, take_more}
use Rattle.std.proofs.Math.Nat.{mul-le-mul_right}
use Rattle.cob_decimal.specs.Decimal.{number_of}
use Rattle.cob_decimal.specs.Literals.{AreDigits, digits_in}
use Rattle.cob_decimal.proofs.DecimalLemmas.{ten_pos}
use Rattle.cob_decimal.proofs.NumberTextLemmas.{number_of-append}

times : (n p : ℕ) → 0 < p → n ≤ n * p
times n p h = let one : 1 ≤ p = omega arith in omega (arith, mul-le-mul_right n one)

-- the first digits spell no greater number
pub at_least : (cs : List ℕ) (i : ℕ) → number_of (digits_in (take i cs)) ≤ number_of (digits_in cs)
at_least cs i =
    let e : number_of (digits_in cs) ≡ number_of (digits_in (take i cs)) * 10 ^ length (digits_in (drop i cs)) + number_of (digits_in (drop i cs)) =
    ap (λ (xs : List ℕ). number_of (digits_in xs)) (sym (take-append-drop i cs)) ∙ ap number_of (map-append (λ c. c - 48) (take i cs) (drop i cs))
    ∙ number_of-append (digits_in (take i cs)) (digits_in (drop i cs)) in
    omega (arith, e, times (number_of (digits_in (take i cs))) (10 ^ length (digits_in (drop i cs))) (ten_pos (length (digits_in (drop i cs)))))

-- one digit more
one_more : (cs : List ℕ) (c : ℕ) → AreDigits cs → 48 ≤ c → c < 58 → AreDigits (cs ++ c ∷ [])
one_more [] c h low high = ((low, high), tt)
one_more (x ∷ cs) c h low high = (h.0, one_more cs c h.1 low high)

pub digits_more : (cs : List ℕ) (i : ℕ) → i < length cs → AreDigits (take i cs) → 48 ≤ get_or cs i 0 → get_or cs i 0 < 58 → AreDigits (take (i + 1) cs)
digits_more cs i lt h low high = subst AreDigits (sym (take_more cs i 0 lt)) (one_more (take i cs) (get_or cs i 0) h low high)
