-- Lemmas on bytes that are written part by part.
use Rattle.std.proofs.Common.{◌≡◌, ℕ, ◌+◌, ◌-◌, ◌<◌, ◌≤◌, List, [], ◌∷◌, ◌++◌, length, drop, get_or, ap, sym, ◌∙◌, arith}
use Rattle.std.proofs.Math.ListN.{set}
use Rattle.std.proofs.Math.Seq.{set-append_seam}
use Rattle.std.proofs.lemmas.List.{drop_more, drop_all, append-nil}
use borrow.Rule.Slice.PartMut.{put_mid}

-- a first byte, and those after it
pub after_first : (xs ys : List ℕ) (v : ℕ) → length xs ≡ length ys + 1 → put_mid 1 (length (set xs 0 v) - 1) (set xs 0 v) ys ≡ v ∷ ys
after_first [] ys v many = absurd (omega arith)
after_first (x ∷ xs) ys v many =
    let all : length xs ≤ length (v ∷ xs) - 1 = omega arith in
    ap (λ rest. v ∷ (ys ++ rest)) (drop_all (length (v ∷ xs) - 1) xs all) ∙ ap (λ zs. v ∷ zs) (append-nil ys)

-- a last byte behind others
pub last_after : (xs ys : List ℕ) (n v : ℕ) → length ys ≡ n → length xs ≡ n + 1 → set (ys ++ drop n xs) n v ≡ ys ++ v ∷ []
last_after xs ys n v many all =
    let lt : n < length xs = omega arith in
    let le : length xs ≤ n + 1 = omega arith in
    let one : drop n xs ≡ get_or xs n 0 ∷ [] = drop_more xs n 0 lt ∙ ap (λ r. get_or xs n 0 ∷ r) (drop_all (n + 1) xs le) in
    ap (λ r. set (ys ++ r) n v) one ∙ ap (λ k. set (ys ++ get_or xs n 0 ∷ []) k v) (sym many) ∙ set-append_seam ys (get_or xs n 0) [] v
