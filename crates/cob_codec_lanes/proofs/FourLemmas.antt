-- Numbers of four digits, by sums of products.
use Rattle.std.proofs.Common.{◌≡◌, ◌+◌, ◌*◌, ◌%◌, ◌^◌, ◌<◌, ℕ, zero, suc, List, [], ◌∷◌, length, get_or, replicate, refl, ap, arith}
use lib.Lanes.{Each1, pair_sums, zip2}

abbrev pub plus : ℕ → ℕ → ℕ
plus a b = (a + b) % 2 ^ 32

abbrev pub times : ℕ → ℕ → ℕ
times a b = a * b % 2 ^ 32

abbrev pub sums_of_four : List ℕ → List ℕ → List ℕ
sums_of_four v w = pair_sums (pair_sums (zip2 (λ x y. x * y) v w))

-- the weights of the first two of each four digits, and of the last two
abbrev pub fronts : ℕ → List ℕ
fronts zero = []
fronts (suc n) = 50 ∷ 5 ∷ 0 ∷ 0 ∷ fronts n

abbrev pub backs : ℕ → List ℕ
backs zero = []
backs (suc n) = 0 ∷ 0 ∷ 10 ∷ 1 ∷ backs n

abbrev pub made : ℕ → List ℕ → List ℕ
made n v = zip2 plus (zip2 times (sums_of_four v (fronts n)) (replicate n 20)) (sums_of_four v (backs n))

together : (a b c d : ℕ) → a < 256 → b < 256 → c < 256 → d < 256
    → ((a * 50 + b * 5 + (c * 0 + d * 0)) * 20 % 2 ^ 32 + (a * 0 + b * 0 + (c * 10 + d * 1))) % 2 ^ 32 ≡ a * 1000 + b * 100 + c * 10 + d
together a b c d sa sb sc sd = omega arith

pub four_at : (n : ℕ) (v : List ℕ) (i : ℕ) → length v ≡ 4 * n → Each1 (λ x. x < 256) v → i < n
    → get_or (made n v) i 0 ≡ get_or v (4 * i) 0 * 1000 + get_or v (4 * i + 1) 0 * 100 + get_or v (4 * i + 2) 0 * 10 + get_or v (4 * i + 3) 0
four_at zero v i long small lt = absurd (omega (arith, lt))
four_at (suc n) [] i long small lt = absurd (omega (arith, long))
four_at (suc n) (a ∷ []) i long small lt = absurd (omega (arith, long))
four_at (suc n) (a ∷ b ∷ []) i long small lt = absurd (omega (arith, long))
four_at (suc n) (a ∷ b ∷ c ∷ []) i long small lt = absurd (omega (arith, long))
four_at (suc n) (a ∷ b ∷ c ∷ d ∷ v) zero long small lt = together a b c d small.0 small.1.0 small.1.1.0 small.1.1.1.0
four_at (suc n) (a ∷ b ∷ c ∷ d ∷ v) (suc i) long small lt =
    let xs : List ℕ = a ∷ b ∷ c ∷ d ∷ v in
    let e0 : 4 * suc i ≡ suc (suc (suc (suc (4 * i)))) = omega arith in
    let e1 : 4 * suc i + 1 ≡ suc (suc (suc (suc (4 * i + 1)))) = omega arith in
    let e2 : 4 * suc i + 2 ≡ suc (suc (suc (suc (4 * i + 2)))) = omega arith in
    let e3 : 4 * suc i + 3 ≡ suc (suc (suc (suc (4 * i + 3)))) = omega arith in
    let g0 : get_or xs (4 * suc i) 0 ≡ get_or v (4 * i) 0 = ap (λ k. get_or xs k 0) e0 in
    let g1 : get_or xs (4 * suc i + 1) 0 ≡ get_or v (4 * i + 1) 0 = ap (λ k. get_or xs k 0) e1 in
    let g2 : get_or xs (4 * suc i + 2) 0 ≡ get_or v (4 * i + 2) 0 = ap (λ k. get_or xs k 0) e2 in
    let g3 : get_or xs (4 * suc i + 3) 0 ≡ get_or v (4 * i + 3) 0 = ap (λ k. get_or xs k 0) e3 in
    let rest : get_or (made n v) i 0 ≡ get_or v (4 * i) 0 * 1000 + get_or v (4 * i + 1) 0 * 100 + get_or v (4 * i + 2) 0 * 10 + get_or v (4 * i + 3) 0 =
    four_at n v i (omega (arith, long)) small.1.1.1.1 (omega (arith, lt)) in
    omega (arith, g0, g1, g2, g3, rest)

pub length_made : (n : ℕ) (v : List ℕ) → length v ≡ 4 * n → length (made n v) ≡ n
length_made zero [] long = refl
length_made zero (a ∷ v) long = absurd (omega (arith, long))
length_made (suc n) [] long = absurd (omega (arith, long))
length_made (suc n) (a ∷ []) long = absurd (omega (arith, long))
length_made (suc n) (a ∷ b ∷ []) long = absurd (omega (arith, long))
length_made (suc n) (a ∷ b ∷ c ∷ []) long = absurd (omega (arith, long))
length_made (suc n) (a ∷ b ∷ c ∷ d ∷ v) long = ap suc (length_made n v (omega (arith, long)))
