-- The pairs of one sender, and of all.
use Rattle.std.proofs.Common.{◌≡◌, ℕ, ◌+◌, ◌<◌, List, ◌∷◌, ◌++◌, length, get_or, drop, refl, sym, ap, ◌∙◌, append_assoc}
use Rattle.std.proofs.lemmas.List.{at_drop_more}
use Rattle.cob_move_names.specs.Pairs.{pairs_among, Subordinate, Pair, pairs_from}
use Rattle.cob_move_names.specs.declared.subordinate.Subordinate.{Subordinate as Listed}
use Rattle.cob_move_names.specs.PlainPairs.{subordinates_listed, subordinate}

-- one more sender
pub all_more : (all now new : List Pair) (xs : List Listed) (ys : List Subordinate) (i : ℕ) (x : Listed) → i < length xs → x ≡ get_or xs i x
    → all ≡ now ++ pairs_among (subordinates_listed (drop i xs)) ys → new ≡ now ++ pairs_from ys (subordinate x)
    → all ≡ new ++ pairs_among (subordinates_listed (drop (i + 1) xs)) ys
all_more all now new xs ys i x lt is start added =
    let rest : List Pair = pairs_among (subordinates_listed (drop (i + 1) xs)) ys in
    start
    ∙ ap (λ (t : List Pair). now ++ t) (at_drop_more (λ (zs : List Listed). pairs_among (subordinates_listed zs) ys) xs i x lt
    ∙ ap (λ (z : Listed). pairs_among (subordinate z ∷ subordinates_listed (drop (i + 1) xs)) ys) (sym is))
    ∙ sym (append_assoc now (pairs_from ys (subordinate x)) rest) ∙ ap (λ (t : List Pair). t ++ rest) (sym added)

pub all_front : (all now : List Pair) (xs : List Listed) (ys : List Subordinate) (i : ℕ) (x : Listed) → i < length xs → x ≡ get_or xs i x
    → all ≡ now ++ pairs_among (subordinates_listed (drop i xs)) ys → all ≡ (now ++ pairs_from ys (subordinate x)) ++ pairs_among (subordinates_listed (drop (i + 1) xs)) ys
all_front all now xs ys i x lt is start = all_more all now (now ++ pairs_from ys (subordinate x)) xs ys i x lt is start refl
