-- Lines as far as they count.
use Rattle.std.proofs.Common.{◌≡◌, ℕ, ◌+◌, ◌≤◌, Bool, true, false, List, [], ◌∷◌, length, take, drop, refl, arith}
use Rattle.std.specs.Prelude.{Option, None, is_some, ◌==◌, ◌&&◌, not}
use Rattle.std.proofs.lemmas.List.{length-drop, length-take, take_all}
use Rattle.cob_source.specs.Cuts.{open_with}
use Rattle.cob_source.specs.Comments.{greater_first, begins_comment, comment_from, comment_at, written, has_comment_sign}

no_sign : (q : Option ℕ) (gap : Bool) (b : ℕ) (bs : List ℕ) → ((b == 42) && greater_first bs) ≡ false → begins_comment q gap b bs ≡ false
no_sign q gap b bs e = go (not (is_some q)) gap (b == 42) (greater_first bs) e
  where
    go : (x y z w : Bool) → (z && w) ≡ false → (x && y && z && w) ≡ false
    go true true z w e = e
    go true false z w e = refl
    go false y z w e = refl

-- without the two signs no comment begins
pub no_comment : (q : Option ℕ) (gap : Bool) (bs : List ℕ) → has_comment_sign bs ≡ false → comment_from q gap bs ≡ length bs
no_comment q gap [] e = refl
no_comment q gap (b ∷ bs) e = go ((b == 42) && greater_first bs) refl e (λ rest. no_comment (open_with q b) (b == 32) bs rest)
  where
    go : (x : Bool) → ((b == 42) && greater_first bs) ≡ x → has_comment_sign (b ∷ bs) ≡ false → (has_comment_sign bs ≡ false → comment_from (open_with q b) (b == 32) bs ≡ length bs)
        → comment_from q gap (b ∷ bs) ≡ length (b ∷ bs)
    go true s h rest = absurd (let t : true ≡ false = rw s at h in cc)
    go false s h rest =
        let n : begins_comment q gap b bs ≡ false = no_sign q gap b bs s in
        let k : has_comment_sign bs ≡ false = rw s at h in
        let e = rest k in
        rw n (omega (arith, e))

pub all_counts : (line : List ℕ) → has_comment_sign (drop 7 (take 72 line)) ≡ false → written line ≡ take 72 line
all_counts line e =
    let n : comment_at (drop 7 (take 72 line)) ≡ length (drop 7 (take 72 line)) = no_comment None true (drop 7 (take 72 line)) e in
    take_all (7 + comment_at (drop 7 (take 72 line))) (take 72 line) (omega (arith, n, length-drop 7 (take 72 line)))

-- what counts of columns 8 to 72 is no longer than these
pub written_short : (line : List ℕ) → length (drop 7 (written line)) ≤ 65
written_short line =
    omega (arith, length-drop 7 (written line), length-take (7 + comment_at (drop 7 (take 72 line))) (take 72 line), length-take 72 line)
