-- The order of bytes that are looked at as one number.
use Rattle.std.proofs.Common.{◌≡◌, ℕ, zero, suc, ◌+◌, ◌*◌, ◌<◌, ◌≤◌, List, [], ◌∷◌, drop, get_or, length, take, refl, sym, ap, subst, ◌∙◌, arith, Fits, w8}
use Rattle.std.proofs.lemmas.Cmp.{ranked}
use Rattle.std.proofs.lemmas.List.{drop-drop, drop_more, get_or-drop, length-drop}
use Rattle.std.specs.Slice.Scan.{big_endian}
use Rattle.std.specs.declared.cmp.Ordering.{Ordering}
use Rattle.std.specs.declared.cmp.Ordering.TheVariants.{Equal, Greater, Less}
use Rattle.std.specs.Ordering.{MatchOrdering, nat_cmp, ordering_then}
use Rattle.cob_move_condition.specs.Compared.{text_order}

-- each is a byte
abbrev pub AreBytes : List ℕ → Type 0
AreBytes xs = (k : ℕ) → Fits w8 (get_or xs k 0)

small : (x : ℕ) → Fits w8 x → x < 256
small x fits = fits.fits

-- ---- two numbers

is_less : (x y : ℕ) (r : Ordering) → MatchOrdering r (x < y) (x ≡ y) (y < x) → x < y → r ≡ Less
is_less x y Less h lt = refl
is_less x y Equal h lt = let e : x ≡ y = h in absurd (omega (arith, e, lt))
is_less x y Greater h lt = let e : y < x = h in absurd (omega (arith, e, lt))

is_equal : (x y : ℕ) (r : Ordering) → MatchOrdering r (x < y) (x ≡ y) (y < x) → x ≡ y → r ≡ Equal
is_equal x y Less h same = let e : x < y = h in absurd (omega (arith, e, same))
is_equal x y Equal h same = refl
is_equal x y Greater h same = let e : y < x = h in absurd (omega (arith, e, same))

is_greater : (x y : ℕ) (r : Ordering) → MatchOrdering r (x < y) (x ≡ y) (y < x) → y < x → r ≡ Greater
is_greater x y Less h lt = let e : x < y = h in absurd (omega (arith, e, lt))
is_greater x y Equal h lt = let e : x ≡ y = h in absurd (omega (arith, e, lt))
is_greater x y Greater h lt = refl

pub less : (x y : ℕ) → x < y → nat_cmp x y ≡ Less
less x y lt = is_less x y (nat_cmp x y) (ranked x y (nat_cmp x y) refl) lt

pub equal : (x y : ℕ) → x ≡ y → nat_cmp x y ≡ Equal
equal x y same = is_equal x y (nat_cmp x y) (ranked x y (nat_cmp x y) refl) same

pub greater : (x y : ℕ) → y < x → nat_cmp x y ≡ Greater
greater x y lt = is_greater x y (nat_cmp x y) (ranked x y (nat_cmp x y) refl) lt

-- a number with a byte behind it
with_byte : (a b u v : ℕ) (o p : Ordering) → MatchOrdering o (a < b) (a ≡ b) (b < a) → MatchOrdering p (u < v) (u ≡ v) (v < u) → u < 256 → v < 256 → nat_cmp (a * 256 + u) (b * 256 + v) ≡ ordering_then o p
with_byte a b u v Less p h k small_u small_v = let lt : a < b = h in less (a * 256 + u) (b * 256 + v) (omega (arith, lt, small_u, small_v))
with_byte a b u v Greater p h k small_u small_v = let lt : b < a = h in greater (a * 256 + u) (b * 256 + v) (omega (arith, lt, small_u, small_v))
with_byte a b u v Equal Less h k small_u small_v = let same : a ≡ b = h in let lt : u < v = k in less (a * 256 + u) (b * 256 + v) (omega (arith, same, lt))
with_byte a b u v Equal Equal h k small_u small_v = let same : a ≡ b = h in let e : u ≡ v = k in equal (a * 256 + u) (b * 256 + v) (omega (arith, same, e))
with_byte a b u v Equal Greater h k small_u small_v = let same : a ≡ b = h in let lt : v < u = k in greater (a * 256 + u) (b * 256 + v) (omega (arith, same, lt))

joined : (a b u v : ℕ) → u < 256 → v < 256 → nat_cmp (a * 256 + u) (b * 256 + v) ≡ ordering_then (nat_cmp a b) (nat_cmp u v)
joined a b u v small_u small_v = with_byte a b u v (nat_cmp a b) (nat_cmp u v) (ranked a b (nat_cmp a b) refl) (ranked u v (nat_cmp u v) refl) small_u small_v

then_then : (o p q : Ordering) → ordering_then o (ordering_then p q) ≡ ordering_then (ordering_then o p) q
then_then Less p q = refl
then_then Equal p q = refl
then_then Greater p q = refl

-- ---- two texts, of which so many bytes are put behind two numbers

put_behind : (n a b : ℕ) (us vs : List ℕ) → n ≤ length us → n ≤ length vs → AreBytes us → AreBytes vs
    → ordering_then (nat_cmp a b) (text_order us vs) ≡ ordering_then (nat_cmp (big_endian a (take n us)) (big_endian b (take n vs))) (text_order (drop n us) (drop n vs))
put_behind zero a b us vs few less_many bytes others = refl
put_behind (suc n) a b [] vs few less_many bytes others = absurd (omega (arith, few))
put_behind (suc n) a b (u ∷ us) [] few less_many bytes others = absurd (omega (arith, less_many))
put_behind (suc n) a b (u ∷ us) (v ∷ vs) few less_many bytes others =
    then_then (nat_cmp a b) (nat_cmp u v) (text_order us vs)
    ∙ ap (λ (o : Ordering). ordering_then o (text_order us vs)) (sym (joined a b u v (small u (bytes 0)) (small v (others 0))))
    ∙ put_behind n (a * 256 + u) (b * 256 + v) us vs (omega (arith, few)) (omega (arith, less_many)) (λ k. bytes (suc k)) (λ k. others (suc k))

bytes_behind : (at : ℕ) (xs : List ℕ) → AreBytes xs → AreBytes (drop at xs)
bytes_behind at xs bytes k = subst (Fits w8) (sym (get_or-drop at xs k 0)) (bytes (at + k))

-- so many bytes from a place on, and those behind
pub word_step : (n at : ℕ) (xs ys : List ℕ) (one two : ℕ) → at + n ≤ length xs → length xs ≡ length ys → AreBytes xs → AreBytes ys
    → one ≡ big_endian 0 (take n (drop at xs)) → two ≡ big_endian 0 (take n (drop at ys))
    → text_order (drop at xs) (drop at ys) ≡ ordering_then (nat_cmp one two) (text_order (drop (at + n) xs) (drop (at + n) ys))
word_step n at xs ys one two within long bytes others is are =
    put_behind n 0 0 (drop at xs) (drop at ys) (omega (arith, within, length-drop at xs)) (omega (arith, within, long, length-drop at ys)) (bytes_behind at xs bytes) (bytes_behind at ys others)
    ∙ ap (λ (k : ℕ). ordering_then (nat_cmp k (big_endian 0 (take n (drop at ys)))) (text_order (drop n (drop at xs)) (drop n (drop at ys)))) (sym is)
    ∙ ap (λ (k : ℕ). ordering_then (nat_cmp one k) (text_order (drop n (drop at xs)) (drop n (drop at ys)))) (sym are)
    ∙ ap (λ (t : List ℕ). ordering_then (nat_cmp one two) (text_order t (drop n (drop at ys)))) (drop-drop n at xs)
    ∙ ap (λ (t : List ℕ). ordering_then (nat_cmp one two) (text_order (drop (at + n) xs) t)) (drop-drop n at ys)

-- these decide where they differ, and else those behind do
pub word_less : (n at : ℕ) (xs ys : List ℕ) (one two : ℕ) → at + n ≤ length xs → length xs ≡ length ys → AreBytes xs → AreBytes ys → one ≡ big_endian 0 (take n (drop at xs)) → two ≡ big_endian 0 (take n (drop at ys)) → one < two
    → text_order (drop at xs) (drop at ys) ≡ Less
word_less n at xs ys one two within long bytes others is are lt =
    word_step n at xs ys one two within long bytes others is are ∙ ap (λ (o : Ordering). ordering_then o (text_order (drop (at + n) xs) (drop (at + n) ys))) (less one two lt)

pub word_greater : (n at : ℕ) (xs ys : List ℕ) (one two : ℕ) → at + n ≤ length xs → length xs ≡ length ys → AreBytes xs → AreBytes ys → one ≡ big_endian 0 (take n (drop at xs)) → two ≡ big_endian 0 (take n (drop at ys)) → two < one
    → text_order (drop at xs) (drop at ys) ≡ Greater
word_greater n at xs ys one two within long bytes others is are lt =
    word_step n at xs ys one two within long bytes others is are ∙ ap (λ (o : Ordering). ordering_then o (text_order (drop (at + n) xs) (drop (at + n) ys))) (greater one two lt)

pub word_same : (n at : ℕ) (xs ys : List ℕ) (one two : ℕ) → at + n ≤ length xs → length xs ≡ length ys → AreBytes xs → AreBytes ys → one ≡ big_endian 0 (take n (drop at xs)) → two ≡ big_endian 0 (take n (drop at ys)) → one ≡ two
    → text_order (drop at xs) (drop at ys) ≡ text_order (drop (at + n) xs) (drop (at + n) ys)
word_same n at xs ys one two within long bytes others is are same =
    word_step n at xs ys one two within long bytes others is are ∙ ap (λ (o : Ordering). ordering_then o (text_order (drop (at + n) xs) (drop (at + n) ys))) (equal one two same)

-- ---- bytes that are read one by one

abbrev reads : List ℕ → ℕ → ℕ → ℕ → List ℕ
reads xs at k zero = []
reads xs at k (suc n) = get_or xs (at + k) 0 ∷ reads xs at (suc k) n

read_out : (n : ℕ) (xs : List ℕ) (at k : ℕ) → at + k + n ≤ length xs → take n (drop (at + k) xs) ≡ reads xs at k n
read_out zero xs at k within = refl
read_out (suc n) xs at k within =
    let next : at + k + 1 ≡ at + suc k = omega arith in
    ap (λ (t : List ℕ). take (suc n) t) (drop_more xs (at + k) 0 (omega (arith, within)))
    ∙ ap (λ (t : List ℕ). get_or xs (at + k) 0 ∷ t) (ap (λ (m : ℕ). take n (drop m xs)) next ∙ read_out n xs at (suc k) (omega (arith, within)))

spelt : (n at : ℕ) (xs : List ℕ) → at + n ≤ length xs → big_endian 0 (take n (drop at xs)) ≡ big_endian 0 (reads xs at 0 n)
spelt n at xs within = let same : at ≡ at + 0 = omega arith in ap (λ (t : List ℕ). big_endian 0 t) (ap (λ (m : ℕ). take n (drop m xs)) same ∙ read_out n xs at 0 (omega (arith, within)))

here : (xs : List ℕ) (at : ℕ) → get_or xs (at + 0) 0 ≡ get_or xs at 0
here xs at = let same : at + 0 ≡ at = omega arith in ap (λ (k : ℕ). get_or xs k 0) same

pub four_are : (xs : List ℕ) (at : ℕ) → at + 4 ≤ length xs
    → get_or xs at 0 * 16777216 + get_or xs (at + 1) 0 * 65536 + get_or xs (at + 2) 0 * 256 + get_or xs (at + 3) 0 ≡ big_endian 0 (take 4 (drop at xs))
four_are xs at within = omega (arith, here xs at) ∙ sym (spelt 4 at xs within)

pub eight_are : (xs : List ℕ) (at : ℕ) → at + 8 ≤ length xs
    → get_or xs at 0 * 72057594037927936 + get_or xs (at + 1) 0 * 281474976710656 + get_or xs (at + 2) 0 * 1099511627776 + get_or xs (at + 3) 0 * 4294967296
    + get_or xs (at + 4) 0 * 16777216 + get_or xs (at + 5) 0 * 65536 + get_or xs (at + 6) 0 * 256 + get_or xs (at + 7) 0 ≡ big_endian 0 (take 8 (drop at xs))
eight_are xs at within = omega (arith, here xs at) ∙ sym (spelt 8 at xs within)
