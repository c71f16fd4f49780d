-- The bytes of characters: each character has one, and so has a text, cut, padded or repeated.
use Rattle.std.proofs.Common.{◌≡◌, ◌⊎◌, ℕ, zero, suc, ◌+◌, ◌-◌, ◌*◌, ◌%◌, ◌<◌, ◌≤◌, List, [], ◌∷◌, ◌++◌, length, get_or, replicate, refl, sym, ap, ◌∙◌, arith, inl, inr, length-append, Option, Some, None, ◌≢◌, set, below_more, get_or-set_other, get_or-set_same}
use Rattle.std.proofs.Math.Nat.{mod-eq_of_lt, mod-eq-sub-mod, mod-lt, mul-le-mul_left}
use Rattle.std.proofs.lemmas.Bool.{cases_lt, cases_eq}
use Rattle.std.proofs.lemmas.List.{same_lists, get_or_default, get_or-take, get_or-append_right, get_or_append_left, get_or-replicate, get_or_past, length-take, length-replicate}
use Rattle.std.specs.Prelude.{IfSome, unwrap_or}
use Rattle.cob_cp037.specs.Table.{IsCoded, HasCode, IsPairOf, table, TableIsOneToOne}
use Rattle.cob_copybook_entry.specs.Described.{PlainValue, Numeric, Quoted, Figure, Repeated}
use Rattle.cob_move_receive.specs.Characters.{IsByteOf, AreBytesOf, GivesConstant, padded, repeated}

-- ---- one byte

-- what a look in the table found
pub byte_found : (character byte : ℕ) (o : Option ℕ) → IfSome o (λ b. IsCoded character b) → ((b : ℕ) → IsCoded character b → o ≡ Some b)
    → byte ≡ unwrap_or o 0x40 → IsByteOf character byte
byte_found character byte None found only e = inr ((λ (coded : HasCode character). let absent : None ≡ Some coded.0 = only coded.0 coded.1 in cc), e)
byte_found character byte (Some b) found only e = inl (rw e found)

in_table : (pairs : List (ℕ × ℕ)) (character : ℕ) → ((b : ℕ) × IsPairOf pairs character b) ⊎ ((b : ℕ) → IsPairOf pairs character b → ⊥)
in_table [] character = inr (λ b h. h)
in_table (pair ∷ pairs) character = elim (cases_eq character pair.0) [
  | inl e ↦ inl (pair.1, inl (e, refl))
  | inr ne ↦ elim (in_table pairs character) [
    | inl h ↦ inl (h.0, inr h.1)
    | inr none ↦ inr (λ b h. elim h [ inl e ↦ ne e.0 | inr more ↦ none b more ])
  ]
]

-- each character has a byte
some_byte : (character : ℕ) → (b : ℕ) × IsByteOf character b
some_byte character = elim (in_table table character) [
  | inl h ↦ (h.0, inl (record { in_table = h.1 }))
  | inr none ↦ (0x40, inr ((λ (coded : HasCode character). none coded.0 coded.1.in_table), refl))
]

-- and one only
one_byte : TableIsOneToOne → (character a b : ℕ) → IsByteOf character a → IsByteOf character b → a ≡ b
one_byte law character a b (inl x) (inl y) = law.0 character a b x y
one_byte law character a b (inl x) (inr y) = absurd (y.0 (a, x))
one_byte law character a b (inr x) (inl y) = absurd (x.0 (b, y))
one_byte law character a b (inr x) (inr y) = x.1 ∙ sym y.1

-- ---- the bytes of a text

pub bytes_length : (text bytes : List ℕ) → AreBytesOf text bytes → length bytes ≡ length text
bytes_length [] bytes h = ap length h
bytes_length (c ∷ cs) [] h = absurd h
bytes_length (c ∷ cs) (b ∷ bs) h = ap suc (bytes_length cs bs h.1)

-- each byte is the one of the character at its place
pub each_byte : (text bytes : List ℕ) → length text ≡ length bytes → ((k : ℕ) → k < length text → IsByteOf (get_or text k 0) (get_or bytes k 0)) → AreBytesOf text bytes
each_byte [] [] e h = refl
each_byte [] (b ∷ bs) e h = absurd (omega arith)
each_byte (c ∷ cs) [] e h = absurd (omega arith)
each_byte (c ∷ cs) (b ∷ bs) e h = (h 0 (omega arith), each_byte cs bs (omega arith) (λ k lt. h (suc k) (omega arith)))

byte_at : (text bytes : List ℕ) (k : ℕ) → AreBytesOf text bytes → k < length text → IsByteOf (get_or text k 0) (get_or bytes k 0x40)
byte_at [] bytes k h lt = absurd (omega arith)
byte_at (c ∷ cs) [] k h lt = absurd h
byte_at (c ∷ cs) (b ∷ bs) zero h lt = h.0
byte_at (c ∷ cs) (b ∷ bs) (suc k) h lt = byte_at cs bs k h.1 (omega arith)

pub some_bytes : (text : List ℕ) → (bytes : List ℕ) × AreBytesOf text bytes
some_bytes [] = ([], refl)
some_bytes (c ∷ cs) =
    let one : (b : ℕ) × IsByteOf c b = some_byte c in
    let rest : (bytes : List ℕ) × AreBytesOf cs bytes = some_bytes cs in
    (one.0 ∷ rest.0, (one.1, rest.1))

pub one_text : TableIsOneToOne → (text a b : List ℕ) → AreBytesOf text a → AreBytesOf text b → a ≡ b
one_text law [] a b x y = x ∙ sym y
one_text law (c ∷ cs) [] b x y = absurd x
one_text law (c ∷ cs) (a ∷ front) [] x y = absurd y
one_text law (c ∷ cs) (a ∷ front) (b ∷ bs) x y =
    let head : a ≡ b = one_byte law c a b x.0 y.0 in
    let tail : front ≡ bs = one_text law cs front bs x.1 y.1 in
    cc

-- one more place is written
pub one_more : (P : ℕ → ℕ → Type 0) (bytes : List ℕ) (at byte : ℕ) → at < length bytes → ((k : ℕ) → k < at → P k (get_or bytes k 0)) → P at byte
    → (k : ℕ) → k < at + 1 → P k (get_or (set bytes at byte) k 0)
one_more P bytes at byte lt before here = below_more (λ k. P k (get_or (set bytes at byte) k 0)) at
    (λ k h. let other : k ≢ at = omega arith in rw get_or-set_other (before k h))
    (rw get_or-set_same here)

-- ---- padded and repeated

length-padded : (n : ℕ) (bytes : List ℕ) → length (padded n bytes) ≡ n
length-padded n bytes = omega (arith, length-take n (bytes ++ replicate n 0x40), length-append bytes (replicate n 0x40), length-replicate {A = ℕ} n 0x40)

-- a byte of the text, or a space behind it
padded_at : (n : ℕ) (bytes : List ℕ) (k d : ℕ) → k < n → get_or (padded n bytes) k d ≡ get_or bytes k 0x40
padded_at n bytes k d lt = get_or-take n (bytes ++ replicate n 0x40) k d lt ∙ elim (cases_lt k (length bytes)) [
  | inl inside ↦ get_or_append_left bytes (replicate n 0x40) d k inside ∙ get_or_default bytes k d 0x40 inside
  | inr past ↦ get_or-append_right bytes (replicate n 0x40) (length bytes) k d refl past
      ∙ get_or-replicate n (k - length bytes) 0x40 d (omega arith) ∙ sym (get_or_past bytes k 0x40 past)
]

-- what holds the text's bytes in its places, and spaces behind them
pub padded_is : (n : ℕ) (bytes all : List ℕ) → length all ≡ n → ((k : ℕ) → k < n → get_or all k 0 ≡ get_or bytes k 0x40) → all ≡ padded n bytes
padded_is n bytes all e h = same_lists all (padded n bytes) (e ∙ sym (length-padded n bytes)) (λ k d lt.
    let within : k < n = omega arith in
    get_or_default all k d 0 lt ∙ h k within ∙ sym (padded_at n bytes k d within))

-- a place of the repeated text is the place in the text that is left after whole texts
repeated_at : (n : ℕ) (bytes : List ℕ) (k : ℕ) → k < n * length bytes → get_or (repeated n bytes) k 0x40 ≡ get_or bytes (k % length bytes) 0x40
repeated_at zero bytes k lt = absurd (omega arith)
repeated_at (suc n) bytes k lt = elim (cases_lt k (length bytes)) [
  | inl inside ↦ get_or_append_left bytes (repeated n bytes) 0x40 k inside ∙ ap (λ j. get_or bytes j 0x40) (sym (mod-eq_of_lt inside))
  | inr past ↦ get_or-append_right bytes (repeated n bytes) (length bytes) k 0x40 refl past
      ∙ repeated_at n bytes (k - length bytes) (omega arith) ∙ ap (λ j. get_or bytes j 0x40) (sym (mod-eq-sub-mod past))
]

repeated_nothing : (n : ℕ) → repeated n [] ≡ []
repeated_nothing zero = refl
repeated_nothing (suc n) = repeated_nothing n

-- ---- what a repeated literal gives

-- ALL and a literal without characters
pub nothing_repeated : (n : ℕ) → GivesConstant (Repeated []) n (replicate n 0x40)
nothing_repeated n = (
  [],
  refl,
  padded_is n (repeated n []) (replicate n 0x40) (length-replicate n 0x40) (λ k lt.
      get_or-replicate n k 0x40 0 lt ∙ ap (λ bytes. get_or bytes k 0x40) (sym (repeated_nothing n))),
)

-- ALL and another literal: each place has the byte of the character that is its turn
pub repeated_is : TableIsOneToOne → (text all : List ℕ) (n : ℕ) → length all ≡ n → 0 < length text
    → ((k : ℕ) → k < n → IsByteOf (get_or text (k % length text) 0) (get_or all k 0)) → GivesConstant (Repeated text) n all
repeated_is law text all n e some each =
    let coded : (bytes : List ℕ) × AreBytesOf text bytes = some_bytes text in
    let long : length coded.0 ≡ length text = bytes_length text coded.0 coded.1 in (
      coded.0,
      coded.1,
      padded_is n (repeated n coded.0) all e (λ k lt.
          let inside : k % length text < length text = mod-lt k some in
          let many : n * 1 ≤ n * length coded.0 = mul-le-mul_left n (omega arith) in
          one_byte law (get_or text (k % length text) 0) (get_or all k 0) (get_or coded.0 (k % length text) 0x40) (each k lt) (byte_at text coded.0 (k % length text) coded.1 inside)
          ∙ ap (λ j. get_or coded.0 (k % j) 0x40) (sym long)
          ∙ sym (repeated_at n coded.0 k (omega arith))),
    )

-- each constant gives characters
pub some_text : (c : PlainValue) (n : ℕ) → (text : List ℕ) × GivesConstant c n text
some_text (Numeric sign negative digits scale) n = (_, refl)
some_text (Quoted text) n = some_bytes text
some_text (Figure f) n = (_, refl)
some_text (Repeated text) n =
    let coded : (bytes : List ℕ) × AreBytesOf text bytes = some_bytes text in
    (_, (coded.0, coded.1, refl))
