-- The two tables of the code are the published table in its two directions.
use Rattle.std.proofs.Common.{◌≡◌, ◌⊎◌, inl, inr, ℕ, ◌+◌, ◌<◌, ◌&&◌, ◌||◌, ◌==◌, nat_lt, ◌∙◌, sym, ap, Bool, true, false, List, [], ◌∷◌, get_or, refl, arith, zero, suc}
use Rattle.std.proofs.lemmas.Bool.Decides.{nat_tests}
use Rattle.std.specs.List.{list_all}
use Rattle.cob_cp037.specs.Table.{table, IsPairOf, IsCoded, TableIsOneToOne}
use Rattle.cob_cp037.specs.declared.TheConstants.{BYTES, CHARACTERS}

-- both tables of the code have the pair
abbrev pub fits : ℕ → ℕ → Bool
fits character byte = (get_or BYTES character 0 == byte) && ((get_or CHARACTERS byte 0 == character) && (nat_lt 0 character && nat_lt 0 byte))

pub both_true : (a b : Bool) → (a && b) ≡ true → (a ≡ true) × (b ≡ true)
both_true true b h = (refl, h)
both_true false b h = absurd (cc)

either_true : (a b : Bool) → (a || b) ≡ true → (a ≡ true) ⊎ (b ≡ true)
either_true true b h = inl refl
either_true false b h = inr h

pair_fits : (pairs : List (ℕ × ℕ)) (character byte : ℕ) → list_all (λ pair. fits pair.0 pair.1) pairs ≡ true → IsPairOf pairs character byte → fits character byte ≡ true
pair_fits [] character byte all none = elim none [ ]
pair_fits (pair ∷ pairs) character byte all (inl same) =
    let here : fits pair.0 pair.1 ≡ true = (both_true (fits pair.0 pair.1) (list_all (λ p. fits p.0 p.1) pairs) all).0 in
    ap (λ c. fits c byte) same.0 ∙ ap (λ b. fits pair.0 b) same.1 ∙ here
pair_fits (pair ∷ pairs) character byte all (inr later) =
    pair_fits pairs character byte (both_true (fits pair.0 pair.1) (list_all (λ p. fits p.0 p.1) pairs) all).1 later

coded_fits : (character byte : ℕ) → IsCoded character byte → fits character byte ≡ true
coded_fits character byte coded = pair_fits table character byte refl coded.in_table

-- what the tables have of a pair
pub record Fits (character byte : ℕ) : Type 0 where
  pub byte_is : get_or BYTES character 0 ≡ byte
  pub character_is : get_or CHARACTERS byte 0 ≡ character
  pub character_some : 0 < character
  pub byte_some : 0 < byte

parts : (bytes characters : List ℕ) (character byte : ℕ) → ((get_or bytes character 0 == byte) && ((get_or characters byte 0 == character) && (nat_lt 0 character && nat_lt 0 byte))) ≡ true → (get_or bytes character 0 ≡ byte) × (get_or characters byte 0 ≡ character) × (0 < character) × (0 < byte)
parts bytes characters character byte h = grind (arith, nat_tests)

pub coded : (character byte : ℕ) → IsCoded character byte → Fits character byte
coded character byte pair =
    let all = parts BYTES CHARACTERS character byte (coded_fits character byte pair) in
    record { byte_is = all.0; character_is = all.1; character_some = all.2; byte_some = all.3 }

pub one_to_one : TableIsOneToOne
one_to_one = (
  λ character a b p q. sym (coded character a p).byte_is ∙ (coded character b q).byte_is,
  λ a b byte p q. sym (coded a byte p).character_is ∙ (coded b byte q).character_is,
)

-- whether the pair stands in the list
abbrev pub is_pair_of : List (ℕ × ℕ) → ℕ → ℕ → Bool
is_pair_of [] character byte = false
is_pair_of (pair ∷ pairs) character byte = ((character == pair.0) && (byte == pair.1)) || is_pair_of pairs character byte

same_pair : (a b c d : ℕ) → ((a == b) && (c == d)) ≡ true → (a ≡ b) × (c ≡ d)
same_pair a b c d h = grind (arith, nat_tests)

pub pair_from_test : (pairs : List (ℕ × ℕ)) (character byte : ℕ) → is_pair_of pairs character byte ≡ true → IsPairOf pairs character byte
pair_from_test [] character byte h = absurd (cc)
pair_from_test (pair ∷ pairs) character byte h =
    elim (either_true ((character == pair.0) && (byte == pair.1)) (is_pair_of pairs character byte) h) [
      | inl here ↦ inl (same_pair character pair.0 byte pair.1 here)
      | inr later ↦ inr (pair_from_test pairs character byte later)
    ]

-- each entry of a table, from a number on, that is not 0 has the pair
abbrev are_pairs : (ℕ → ℕ → Bool) → ℕ → List ℕ → Bool
are_pairs test n [] = true
are_pairs test n (x ∷ xs) = ((x == 0) || test n x) && are_pairs test (n + 1) xs

not_zero : (x : ℕ) → 0 < x → (x == 0) ≡ true → ⊥
not_zero x some h = grind (arith, nat_tests)

pair_at : (test : ℕ → ℕ → Bool) (n : ℕ) (xs : List ℕ) (i : ℕ) → are_pairs test n xs ≡ true → 0 < get_or xs i 0 → test (n + i) (get_or xs i 0) ≡ true
pair_at test n [] i all some = absurd (omega arith)
pair_at test n (x ∷ xs) zero all some =
    let here : ((x == 0) || test n x) ≡ true = (both_true ((x == 0) || test n x) (are_pairs test (n + 1) xs) all).0 in
    let at : test n x ≡ true = elim (either_true (x == 0) (test n x) here) [ inl no_entry ↦ absurd (not_zero x some no_entry) | inr it ↦ it ] in
    let e : n + 0 ≡ n = omega arith in
    ap (λ k. test k x) e ∙ at
pair_at test n (x ∷ xs) (suc i) all some =
    let e : n + suc i ≡ n + 1 + i = omega arith in
    ap (λ k. test k (get_or xs i 0)) e ∙ pair_at test (n + 1) xs i (both_true ((x == 0) || test n x) (are_pairs test (n + 1) xs) all).1 some

byte_at : (character : ℕ) → 0 < get_or BYTES character 0 → is_pair_of table (0 + character) (get_or BYTES character 0) ≡ true
byte_at character some = pair_at (λ c b. is_pair_of table c b) 0 BYTES character refl some

character_at : (byte : ℕ) → 0 < get_or CHARACTERS byte 0 → is_pair_of table (get_or CHARACTERS byte 0) (0 + byte) ≡ true
character_at byte some = pair_at (λ b c. is_pair_of table c b) 0 CHARACTERS byte refl some

pub byte_coded : (character : ℕ) → 0 < get_or BYTES character 0 → IsCoded character (get_or BYTES character 0)
byte_coded character some =
    let e : 0 + character ≡ character = omega arith in
    record { in_table = pair_from_test table character (get_or BYTES character 0) (sym (ap (λ c. is_pair_of table c (get_or BYTES character 0)) e) ∙ byte_at character some) }

pub character_coded : (byte : ℕ) → 0 < get_or CHARACTERS byte 0 → IsCoded (get_or CHARACTERS byte 0) byte
character_coded byte some =
    let e : 0 + byte ≡ byte = omega arith in
    record { in_table = pair_from_test table (get_or CHARACTERS byte 0) byte (sym (ap (λ b. is_pair_of table (get_or CHARACTERS byte 0) b) e) ∙ character_at byte some) }
