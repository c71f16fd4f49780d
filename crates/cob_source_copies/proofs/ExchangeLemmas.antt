-- Text words put for others.
use Rattle.std.proofs.Common.{◌≡◌, ℕ, zero, suc, List, [], ◌∷◌, ◌++◌, drop, refl, sym, ap, ◌∙◌, append_assoc}
use Rattle.cob_source_copies.specs.TextWords.{TextWord}
use Rattle.cob_source_copies.specs.Exchanges.{Replacing, exchanged, first_fitting, part_of_x, put_by}

-- text words that are passed over are left out
pub passed : (rs : List Replacing) (k : ℕ) (vs : List TextWord) → exchanged rs k vs ≡ exchanged rs 0 (drop k vs)
passed rs zero [] = refl
passed rs (suc k) [] = refl
passed rs zero (v ∷ vs) = refl
passed rs (suc k) (v ∷ vs) = passed rs k vs

-- what is exchanged so far, and the rest, are the whole
pub exchanged_more : (rs : List Replacing) (out put vs more behind all : List TextWord) (v : TextWord) → vs ≡ v ∷ more
    → put ≡ out ++ put_by v (first_fitting rs vs) → behind ≡ drop (part_of_x (first_fitting rs vs)) more → out ++ exchanged rs 0 vs ≡ all → put ++ exchanged rs 0 behind ≡ all
exchanged_more rs out put vs more behind all v e made rest so =
    ap (λ (t : List TextWord). t ++ exchanged rs 0 behind) made
    ∙ append_assoc out (put_by v (first_fitting rs vs)) (exchanged rs 0 behind)
    ∙ ap (λ (t : List TextWord). out ++ (put_by v (first_fitting rs vs) ++ exchanged rs 0 t)) rest
    ∙ ap (λ (t : List TextWord). out ++ (put_by v (first_fitting rs vs) ++ t)) (sym (passed rs (part_of_x (first_fitting rs vs)) more))
    ∙ ap (λ (t : List TextWord). out ++ (put_by v (first_fitting rs t) ++ exchanged rs (part_of_x (first_fitting rs t)) more)) e
    ∙ ap (λ (t : List TextWord). out ++ exchanged rs 0 t) (sym e) ∙ so
