-- Ranks of choices: each number below the product of the sizes is the rank of one list of choices, and of no other.
use Rattle.std.proofs.Common.{◌≡◌, ℕ, ◌+◌, ◌*◌, ◌/◌, ◌%◌, ◌<◌, ◌≤◌, List, [], ◌∷◌, zero, suc, refl, ap, arith, ◌∙◌, length, drop, get_or, ◌++◌, drop-cons, add-one, subst, sym}
use Rattle.std.proofs.Math.ListN.{drop_of_length-le}
use Rattle.std.proofs.Math.Nat.{add-mul-mod_self_left, add-mul-div_left, mod-add-div, mod-lt, div-lt_iff_lt-mul, mod-eq_of_lt, div-eq_of_lt, mul-le-mul_left}
use Rattle.std.proofs.lemmas.List.{append-nil}
use Rattle.cob_test_moves.specs.Choices.{product, AreChoices, rank_of}

-- the choices of a rank
abbrev pub chosen : List ℕ → ℕ → List ℕ
chosen [] _ = []
chosen (size ∷ sizes) rank = (rank % size) ∷ chosen sizes (rank / size)

-- ranks are below the product of the sizes
pub below : (sizes choices : List ℕ) → AreChoices sizes choices → rank_of sizes choices < product sizes
below [] [] h = omega arith
below [] (_ ∷ _) h = absurd h
below (_ ∷ _) [] h = absurd h
below (size ∷ sizes) (choice ∷ choices) h =
    let rest : rank_of sizes choices + 1 ≤ product sizes = omega (arith, below sizes choices h.1) in
    let more : size * (rank_of sizes choices + 1) ≤ size * product sizes = mul-le-mul_left size rest in
    omega (arith, h.0, more)

-- something can be chosen at a place where a rank is left
pub some_size : (size others rank : ℕ) → rank < size * others → 0 < size
some_size zero others rank h = omega (arith, h)
some_size (suc n) others rank h = omega arith

-- what is left of a rank behind its first choice
pub left_below : (size others rank : ℕ) → rank < size * others → rank / size < others
left_below size others rank h =
    let some : 0 < size = some_size size others rank h in
    let turned : rank < others * size = omega (arith, h) in
    grind (arith, div-lt_iff_lt-mul {x = rank} {y = others} some, turned)

-- the choices of a rank are choices
pub are_choices : (sizes : List ℕ) (rank : ℕ) → rank < product sizes → AreChoices sizes (chosen sizes rank)
are_choices [] rank h = tt
are_choices (size ∷ sizes) rank h = (
  mod-lt rank (some_size size (product sizes) rank h),
  are_choices sizes (rank / size) (left_below size (product sizes) rank h),
)

-- the choices of a rank have it
pub ranked : (sizes : List ℕ) (rank : ℕ) → rank < product sizes → rank_of sizes (chosen sizes rank) ≡ rank
ranked [] rank h = omega (arith, h)
ranked (size ∷ sizes) rank h =
    let others : rank_of sizes (chosen sizes (rank / size)) ≡ rank / size
    = ranked sizes (rank / size) (left_below size (product sizes) rank h) in
    rw others (mod-add-div rank size)

-- choices are those of their rank
pub chosen_again : (sizes choices : List ℕ) → AreChoices sizes choices → chosen sizes (rank_of sizes choices) ≡ choices
chosen_again [] [] h = refl
chosen_again [] (_ ∷ _) h = absurd h
chosen_again (_ ∷ _) [] h = absurd h
chosen_again (size ∷ sizes) (choice ∷ choices) h =
    let some : 0 < size = omega (arith, h.0) in
    let first : (choice + size * rank_of sizes choices) % size ≡ choice
    = add-mul-mod_self_left choice size (rank_of sizes choices) ∙ mod-eq_of_lt h.0 in
    let none : choice / size ≡ 0 = div-eq_of_lt h.0 in
    let left : (choice + size * rank_of sizes choices) / size ≡ rank_of sizes choices
    = add-mul-div_left choice (rank_of sizes choices) some ∙ omega (arith, none) in
    rw (first, left) (ap (λ cs. choice ∷ cs) (chosen_again sizes choices h.1))

-- one place of a list of sizes: its choice, and what is left of a rank behind it
pub place : (sizes : List ℕ) (i rank : ℕ) → i < length sizes → rank < product (drop i sizes)
    → (0 < get_or sizes i 0)
    × (rank / get_or sizes i 0 < product (drop (i + 1) sizes))
    × (chosen (drop i sizes) rank ≡ (rank % get_or sizes i 0) ∷ chosen (drop (i + 1) sizes) (rank / get_or sizes i 0))
place sizes i rank inside h =
    let size : ℕ = get_or sizes i 0 in
    let cut : drop i sizes ≡ size ∷ drop (i + 1) sizes = rw (add-one i) (drop-cons sizes i 0 inside) in
    let P : List ℕ → Type 0 = λ ns. rank < product ns in
    let less : rank < size * product (drop (i + 1) sizes) = subst P cut h in (
      some_size size (product (drop (i + 1) sizes)) rank less,
      left_below size (product (drop (i + 1) sizes)) rank less,
      ap (λ ns. chosen ns rank) cut,
    )

-- behind the last place the choices so far are those of the rank
pub ended : (sizes made : List ℕ) (i left rank : ℕ) → length sizes ≤ i
    → made ++ chosen (drop i sizes) left ≡ chosen sizes rank → made ≡ chosen sizes rank
ended sizes made i left rank past h =
    let cut : drop i sizes ≡ [] = drop_of_length-le sizes past in
    sym (append-nil made) ∙ sym (ap (λ ns. made ++ chosen ns left) cut) ∙ h
