-- Bytes that differ, in order.
use Rattle.std.proofs.Common.{◌≡◌, ◌∙◌, ℕ, ◌+◌, ◌<◌, ◌≤◌, ◌==◌, min, true, false, List, [], ◌∷◌, ◌++◌, length, drop, take, get_or, refl, sym, ap, subst, append_assoc, append-nil, arith, inl, inr, ◌⊎◌}
use Rattle.std.proofs.lemmas.List.{drop_all, drop_more, length-append, length-take, take-append-le, take_all}
use Rattle.std.proofs.lemmas.Bool.{cases_lt}
use Rattle.cob_report_compare.specs.Bytes.{AreFirstOfBytes, difference_at_byte, bytes_from, most_told}
use Rattle.cob_report_compare.specs.declared.bytes.ByteDifference.{ByteDifference}
use Rattle.cob_report_compare.specs.declared.bytes.FirstBytes.{FirstBytes}

first_with_room : (all first : List ByteDifference) (x : ByteDifference) → first ≡ take most_told all → length first < most_told → first ++ x ∷ [] ≡ take most_told (all ++ x ∷ [])
first_with_room all first x is room =
    let long : length first ≡ min most_told (length all) = ap length is ∙ length-take most_told all in
    let few : length all < most_told = omega (arith, long, room) in
    ap (λ (xs : List ByteDifference). xs ++ x ∷ []) (is ∙ take_all most_told all (omega (arith, few)))
    ∙ sym (take_all most_told (all ++ x ∷ []) (omega (arith, few, length-append all (x ∷ []))))

first_when_full : (all first : List ByteDifference) (x : ByteDifference) → first ≡ take most_told all → length first ≡ most_told → first ≡ take most_told (all ++ x ∷ [])
first_when_full all first x is full =
    let long : length first ≡ min most_told (length all) = ap length is ∙ length-take most_told all in
    is ∙ sym (take-append-le most_told all (x ∷ []) (omega (arith, long, full)))

pub byte_last : (x : ByteDifference) (a b : FirstBytes) → length a.first.items < most_told → b.first.items ≡ a.first.items ++ x ∷ [] → b.count ≡ a.count + 1
    → (all : List ByteDifference) → AreFirstOfBytes all a → AreFirstOfBytes (all ++ x ∷ []) b
byte_last x a b room items count all is = record {
  first = items ∙ first_with_room all a.first.items x is.first room;
  count = omega (arith, count, is.count, length-append all (x ∷ []));
}

pub byte_none : (x : ByteDifference) (a b : FirstBytes) → length a.first.items ≡ most_told → b.first.items ≡ a.first.items → b.count ≡ a.count + 1
    → (all : List ByteDifference) → AreFirstOfBytes all a → AreFirstOfBytes (all ++ x ∷ []) b
byte_none x a b full items count all is = record {
  first = items ∙ first_when_full all a.first.items x is.first full;
  count = omega (arith, count, is.count, length-append all (x ∷ []));
}

-- a byte that differs, and one that does not
pub noted : (x : ByteDifference) (a b : FirstBytes) → (x.left == x.right) ≡ false → ((all : List ByteDifference) → AreFirstOfBytes all a → AreFirstOfBytes (all ++ x ∷ []) b)
    → (all : List ByteDifference) → AreFirstOfBytes all a → AreFirstOfBytes (all ++ difference_at_byte x) b
noted x a b differ add all is = rw differ (add all is)

pub not_noted : (x : ByteDifference) (a : FirstBytes) → (x.left == x.right) ≡ true → (all : List ByteDifference) → AreFirstOfBytes all a → AreFirstOfBytes (all ++ difference_at_byte x) a
not_noted x a same all is = rw same (subst (λ (bs : List ByteDifference). AreFirstOfBytes bs a) (sym (append-nil all)) is)

-- the bytes that differ so far are told, and those that are left come behind them
pub record BytesSoFar (l r : List ℕ) (offset : ℕ) (told : FirstBytes) : Type 0 where
  pub before : List ByteDifference
  pub first : AreFirstOfBytes before told
  pub whole : before ++ bytes_from offset (drop offset l) (drop offset r) ≡ bytes_from 0 l r

pub no_byte : (l r : List ℕ) (told : FirstBytes) → told.first.items ≡ [] → told.count ≡ 0 → BytesSoFar l r 0 told
no_byte l r told items count = record { before = []; first = record { first = items; count = count }; whole = refl }

pub byte_more : (l r : List ℕ) (offset d e : ℕ) (a b : FirstBytes) → offset < length l → offset < length r
    → ((all : List ByteDifference) → AreFirstOfBytes all a → AreFirstOfBytes (all ++ difference_at_byte (record { offset = offset; left = get_or l offset d; right = get_or r offset e })) b)
    → BytesSoFar l r offset a → BytesSoFar l r (offset + 1) b
byte_more l r offset d e a b left right add so_far =
    let x : ByteDifference = record { offset = offset; left = get_or l offset d; right = get_or r offset e } in
    let ls = drop (offset + 1) l in
    let rs = drop (offset + 1) r in
    let cut : bytes_from offset (drop offset l) (drop offset r) ≡ difference_at_byte x ++ bytes_from (offset + 1) ls rs =
    ap (λ (xs : List ℕ). bytes_from offset xs (drop offset r)) (drop_more l offset d left) ∙ ap (λ (ys : List ℕ). bytes_from offset (get_or l offset d ∷ ls) ys) (drop_more r offset e right) in
    record {
      before = so_far.before ++ difference_at_byte x;
      first = add so_far.before so_far.first;
      whole = append_assoc so_far.before (difference_at_byte x) (bytes_from (offset + 1) ls rs) ∙ sym (ap (λ (bs : List ByteDifference). so_far.before ++ bs) cut) ∙ so_far.whole;
    }

none_behind : (offset : ℕ) (ls : List ℕ) → bytes_from offset ls [] ≡ []
none_behind offset [] = refl
none_behind offset (l ∷ ls) = refl

none_left : (l r : List ℕ) (offset : ℕ) → (length l ≤ offset) ⊎ (length r ≤ offset) → bytes_from offset (drop offset l) (drop offset r) ≡ []
none_left l r offset (inl short) = ap (λ (xs : List ℕ). bytes_from offset xs (drop offset r)) (drop_all offset l short)
none_left l r offset (inr short) = ap (λ (ys : List ℕ). bytes_from offset (drop offset l) ys) (drop_all offset r short) ∙ none_behind offset (drop offset l)

which_ends : (m n i : ℕ) → min m n ≤ i → (m ≤ i) ⊎ (n ≤ i)
which_ends m n i low = elim (cases_lt m n) [
  | inl below ↦ inl (omega (arith, low, below))
  | inr above ↦ inr (omega (arith, low, above))
]

pub all_bytes : (l r : List ℕ) (offset : ℕ) (told : FirstBytes) → min (length l) (length r) ≤ offset → BytesSoFar l r offset told → AreFirstOfBytes (bytes_from 0 l r) told
all_bytes l r offset told end so_far =
    let none = none_left l r offset (which_ends (length l) (length r) offset end) in
    let all : so_far.before ≡ bytes_from 0 l r = sym (append-nil so_far.before) ∙ ap (λ (bs : List ByteDifference). so_far.before ++ bs) (sym none) ∙ so_far.whole in
    subst (λ (bs : List ByteDifference). AreFirstOfBytes bs told) all so_far.first
