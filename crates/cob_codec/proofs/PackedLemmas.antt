-- Lemmas on half bytes.
use Rattle.std.proofs.Common.{◌≡◌, ℕ, ◌+◌, ◌*◌, ◌/◌, ◌%◌, ◌<◌, ◌≤◌, List, [], ◌∷◌, ◌++◌, length, take, drop, get_or, refl, ap, sym, ◌∙◌, arith, suc, zero, Bool, append_assoc, length-append, length-take-le}
use Rattle.std.specs.Prelude.{replicate}
use Rattle.std.proofs.lemmas.List.{take_more, take_all, length-replicate, append_cancel_left}
use Rattle.cob_decimal.specs.Decimal.{IsDigits}
use Rattle.cob_codec.proofs.PackedLaws.{halves-push, length-joined, Parts, packed_parts}
use Rattle.cob_codec.specs.Packed.{halves, bytes_of_halves, pad_count, packed_halves, IsPacked, IsEnded}

-- both halves of each byte are digits
pub digit_halves : (bs : List ℕ) (k : ℕ) → IsDigits (halves bs) → k < length bs → (get_or bs k 0 / 16 < 10) × (get_or bs k 0 % 16 < 10)
digit_halves [] k valid lt = absurd (omega arith)
digit_halves (b ∷ bs) zero valid lt = (valid.0, valid.1.0)
digit_halves (b ∷ bs) (suc k) valid lt = digit_halves bs k valid.1.1 (omega arith)

-- one more byte of two digits
pub joined_more : (ds : List ℕ) (i : ℕ) → 2 * i + 1 < length ds → bytes_of_halves (take (2 * (i + 1)) ds) ≡ bytes_of_halves (take (2 * i) ds) ++ (get_or ds (2 * i) 0 * 16 + get_or ds (2 * i + 1) 0) ∷ []
joined_more [] i lt = absurd (omega arith)
joined_more (a ∷ []) i lt = absurd (omega arith)
joined_more (a ∷ b ∷ ds) zero lt = refl
joined_more (a ∷ b ∷ ds) (suc i) lt =
    let after : 2 * (suc i + 1) ≡ suc (suc (2 * (i + 1))) = omega arith in
    let before : 2 * suc i ≡ suc (suc (2 * i)) = omega arith in
    let low : 2 * suc i + 1 ≡ suc (suc (2 * i + 1)) = omega arith in
    ap (λ k. bytes_of_halves (take k (a ∷ b ∷ ds))) after
    ∙ ap (λ xs. (a * 16 + b) ∷ xs) (joined_more ds i (omega arith))
    ∙ sym (ap (λ k. bytes_of_halves (take k (a ∷ b ∷ ds)) ++ (get_or (a ∷ b ∷ ds) k 0 * 16 + get_or (a ∷ b ∷ ds) (2 * suc i + 1) 0) ∷ []) before
    ∙ ap (λ k. (a * 16 + b) ∷ (bytes_of_halves (take (2 * i) ds) ++ (get_or ds (2 * i) 0 * 16 + get_or (a ∷ b ∷ ds) k 0) ∷ [])) low)

-- a list is all of it but the last, and the last
pub all_but_last : (xs : List ℕ) (last : ℕ) → length xs ≡ last + 1 → xs ≡ take last xs ++ get_or xs last 0 ∷ []
all_but_last xs last e = sym (take_all (last + 1) xs (omega arith)) ∙ take_more xs last 0 (omega arith)

-- one more pair of half bytes
joined-push : (hs : List ℕ) (a b : ℕ) → length hs % 2 ≡ 0 → bytes_of_halves (hs ++ (a ∷ b ∷ [])) ≡ bytes_of_halves hs ++ (a * 16 + b) ∷ []
joined-push [] a b even = refl
joined-push (x ∷ []) a b even = absurd (omega arith)
joined-push (x ∷ y ∷ hs) a b even = ap (λ xs. (x * 16 + y) ∷ xs) (joined-push hs a b (omega arith))

-- the digits but the last, behind a zero where they are odd in number, and a last byte are the whole item
pub whole_item : (ds : List ℕ) (front code : ℕ) → length ds ≡ front + 1 → bytes_of_halves (replicate (length (take front ds) % 2) 0 ++ take front ds) ++ (get_or ds front 0 * 16 + code) ∷ [] ≡ bytes_of_halves (packed_halves (length ds) ds code)
whole_item ds front code many =
    let fd : List ℕ = take front ds in
    let last : ℕ = get_or ds front 0 in
    let count : length fd ≡ front = length-take-le front ds (omega arith) in
    let zeros : List ℕ = replicate (length fd % 2) 0 in
    let pads : length fd % 2 ≡ pad_count (length ds) = omega arith in
    let even : length (zeros ++ fd) % 2 ≡ 0 = omega (arith, length-append zeros fd, length-replicate {A = ℕ} (length fd % 2) 0) in
    let whole : ds ≡ fd ++ last ∷ [] = all_but_last ds front many in
    sym (joined-push (zeros ++ fd) last code even)
    ∙ ap bytes_of_halves (append_assoc zeros fd (last ∷ code ∷ []))
    ∙ ap (λ xs. bytes_of_halves (zeros ++ xs)) (sym (append_assoc fd (last ∷ []) (code ∷ [])))
    ∙ ap (λ xs. bytes_of_halves (zeros ++ (xs ++ code ∷ []))) (sym whole)
    ∙ ap (λ n. bytes_of_halves (replicate n 0 ++ (ds ++ code ∷ []))) pads

-- how many bytes the digits but the last have
pub front_length : (ds : List ℕ) (front : ℕ) → front ≤ length ds → length (bytes_of_halves (replicate (length (take front ds) % 2) 0 ++ take front ds)) ≡ (front + 1) / 2
front_length ds front within =
    let fd : List ℕ = take front ds in
    let count : length fd ≡ front = length-take-le front ds within in
    omega (arith, length-joined (replicate (length fd % 2) 0 ++ fd), length-append (replicate (length fd % 2) 0) fd, length-replicate {A = ℕ} (length fd % 2) 0)

-- an odd number of digits: the first alone, and then pairs
pub odd_front : (ds : List ℕ) → length ds % 2 ≡ 1 → bytes_of_halves (replicate (length ds % 2) 0 ++ ds) ≡ get_or ds 0 0 ∷ bytes_of_halves (drop 1 ds)
odd_front [] odd = absurd (omega arith)
odd_front (d ∷ ds) odd = ap (λ n. bytes_of_halves (replicate n 0 ++ (d ∷ ds))) odd ∙ ap (λ x. x ∷ bytes_of_halves ds) (alone d)
  where
    alone : (d : ℕ) → 0 * 16 + d ≡ d
    alone d = omega arith

valid-append : (xs ys : List ℕ) → IsDigits xs → IsDigits ys → IsDigits (xs ++ ys)
valid-append [] ys p q = q
valid-append (x ∷ xs) ys p q = (p.0, valid-append xs ys p.1 q)

-- the half bytes of one more byte
pub more_halves : (bs : List ℕ) (i : ℕ) → IsDigits (halves (take i bs)) → i < length bs → get_or bs i 0 / 16 ≤ 9 → get_or bs i 0 % 16 ≤ 9 → (halves (take (i + 1) bs) ≡ halves (take i bs) ++ (get_or bs i 0 / 16 ∷ get_or bs i 0 % 16 ∷ [])) × IsDigits (halves (take (i + 1) bs))
more_halves bs i valid lt high low =
    let b : ℕ = get_or bs i 0 in
    let text : halves (take (i + 1) bs) ≡ halves (take i bs) ++ (b / 16 ∷ b % 16 ∷ []) = ap halves (take_more bs i 0 lt) ∙ halves-push (take i bs) b in
    (text, rw text (valid-append (halves (take i bs)) (b / 16 ∷ b % 16 ∷ []) valid (omega arith, (omega arith, tt))))

-- bytes whose digits in front are known represent nothing where the last byte ends these to nothing
pub not_packed : (count : ℕ) (signed : Bool) (bytes front : List ℕ) (last : ℕ) (fd : List ℕ) → 0 < count → bytes ≡ front ++ last ∷ [] → length front ≡ count / 2 → halves front ≡ replicate (pad_count count) 0 ++ fd → ((negative : Bool) (digits : List ℕ) → IsEnded signed fd last negative digits → ⊥) → (negative : Bool) (digits : List ℕ) → IsPacked count signed bytes negative digits → ⊥
not_packed count signed bytes front last fd some whole long text none negative digits packed =
    let parts : Parts count signed front last negative digits = packed_parts count signed bytes front last negative digits some whole long packed in
    let same : parts.fd ≡ fd = append_cancel_left (replicate (pad_count count) 0) parts.fd fd (sym parts.text ∙ text) in
    none negative digits (rw same at parts.ended)
