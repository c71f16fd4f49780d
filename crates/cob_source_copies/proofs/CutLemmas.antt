-- The parts of a word.
use Rattle.std.proofs.Common.{◌≡◌, ℕ, zero, suc, ◌<◌, true, false, List, [], ◌∷◌, ◌++◌, take, drop, refl, sym, ap, ◌∙◌, arith}
use Rattle.std.specs.List.{AllByRecursion}
use Rattle.std.proofs.lemmas.List.{take-append-drop}
use Rattle.cob_source.specs.Lines.{led_by}
use Rattle.cob_source_copies.specs.TextWords.{divider_first, is_divider, part_with, parts_in}

with_divider : (b : ℕ) (bs : List ℕ) (more : List (List ℕ)) → is_divider b ≡ true → part_with b bs more ≡ (b ∷ []) ∷ more
with_divider b bs more e = rw e refl

before_divider : (b : ℕ) (bs : List ℕ) (more : List (List ℕ)) → is_divider b ≡ false → divider_first bs ≡ true → part_with b bs more ≡ (b ∷ []) ∷ more
before_divider b bs more e f = rw (e, f) refl

within_part : (b : ℕ) (bs : List ℕ) (more : List (List ℕ)) → is_divider b ≡ false → divider_first bs ≡ false → part_with b bs more ≡ led_by b more
within_part b bs more e f = rw (e, f) refl

run_of : (b : ℕ) (a rest : List ℕ) → AllByRecursion (λ c. is_divider c ≡ false) (b ∷ a) → divider_first rest ≡ true → parts_in (b ∷ (a ++ rest)) ≡ (b ∷ a) ∷ parts_in rest
run_of b [] rest all f = before_divider b rest (parts_in rest) all.0 f
run_of b (d ∷ a) rest all f = within_part b (d ∷ (a ++ rest)) (parts_in (d ∷ (a ++ rest))) all.0 all.1.0 ∙ ap (led_by b) (run_of d a rest all.1 f)

-- the first part: the characters before the first divider, or one divider
pub parts_first : (text : List ℕ) (b : ℕ) (after : List ℕ) (n k : ℕ) → text ≡ b ∷ after → AllByRecursion (λ c. is_divider c ≡ false) (take n text) → divider_first (drop n text) ≡ true
    → (n ≡ 0 → k ≡ 1) → (0 < n → k ≡ n) → parts_in text ≡ take k text ∷ parts_in (drop k text)
parts_first [] b after n k e all f z s = absurd cc
parts_first (d ∷ text) b after zero k e all f z s =
    let one : k ≡ 1 = z refl in
    with_divider d text (parts_in text) f ∙ ap (λ (j : ℕ). take j (d ∷ text) ∷ parts_in (drop j (d ∷ text))) (sym one)
parts_first (d ∷ text) b after (suc n) k e all f z s =
    let whole : k ≡ suc n = s (omega arith) in
    ap (λ (t : List ℕ). parts_in (d ∷ t)) (sym (take-append-drop n text)) ∙ run_of d (take n text) (drop n text) all f
    ∙ ap (λ (j : ℕ). take j (d ∷ text) ∷ parts_in (drop j (d ∷ text))) (sym whole)
