-- The first bytes and the last, written one after the other.
use Rattle.std.proofs.Common.{◌≡◌, ◌-◌, ◌+◌, ◌*◌, ◌≤◌, ℕ, List, [], ◌++◌, length, take, drop, sym, ap, ◌∙◌, arith, length-append, length-drop, length-take-le, take-add, take-take}
use Rattle.std.proofs.lemmas.List.{take-append-drop, take-append-le, drop_all}
use Rattle.std.proofs.lemmas.Slice.{take-put_mid, drop-put_mid}
use borrow.Rule.Slice.PartMut.{put_mid}
use Rattle.cob_codec_lanes.proofs.WindowLemmas.{nothing_more}

-- both together are as many bytes as there is room for
pub ends_written : (N n : ℕ) (out bytes front back : List ℕ) → n ≡ length out → N ≤ n → n ≤ 2 * N → n ≤ length bytes
    → front ≡ take N bytes → back ≡ take N (drop (n - N) bytes) → put_mid (n - N) (length (front ++ drop N out) - (n - N)) (front ++ drop N out) back ≡ take n bytes
ends_written N n out bytes front back many least most room first last =
    let a : ℕ = n - N in
    let before : List ℕ = front ++ drop N out in
    let k : ℕ = length before - a in
    let whole : List ℕ = put_mid a k before back in
    let first_long : length front ≡ N = ap length first ∙ length-take-le N bytes (omega arith) in
    let last_long : length back ≡ N = ap length last ∙ length-take-le N (drop a bytes) (omega (arith, length-drop a bytes)) in
    let all : length before ≡ n = omega (arith, length-append front (drop N out), length-drop N out) in
    let written : take n whole ≡ take a before ++ back = take-put_mid a k before back n (omega arith) (omega arith) in
    let rest : drop n whole ≡ drop n before = drop-put_mid a k before back n (omega arith) (omega arith) (omega arith) in
    let none : drop n before ≡ [] = drop_all n before (omega arith) in
    let kept : take a before ≡ take a bytes = take-append-le a front (drop N out) (omega arith) ∙ ap (take a) first ∙ take-take a N bytes (omega arith) in
    let together : a + N ≡ n = omega arith in
    sym (take-append-drop n whole) ∙ ap (λ xs. xs ++ drop n whole) written ∙ ap (λ xs. (take a before ++ back) ++ xs) (rest ∙ none) ∙ nothing_more (take a before ++ back)
    ∙ ap (λ xs. xs ++ back) kept ∙ ap (λ xs. take a bytes ++ xs) last ∙ sym (take-add a N bytes) ∙ ap (λ m. take m bytes) together
