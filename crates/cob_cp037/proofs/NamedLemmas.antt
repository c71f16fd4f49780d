-- The named bytes are those of the table.
use Rattle.std.proofs.Common.{◌≡◌, ℕ, zero, suc, ◌+◌, ◌<◌, ◌&&◌, ap, Bool, true, false, List, [], ◌∷◌, length, get_or, refl, arith}
use Rattle.cob_cp037.specs.Table.{table, IsCoded, AreCoded}
use Rattle.cob_cp037.specs.Named.{BytesAreNamed, zero_byte}
use Rattle.cob_cp037.proofs.TableLemmas.{is_pair_of, pair_from_test, both_true}

-- each character and the byte at its place are a pair of the table
abbrev are_coded : List ℕ → List ℕ → Bool
are_coded [] [] = true
are_coded [] (byte ∷ bytes) = false
are_coded (character ∷ characters) [] = false
are_coded (character ∷ characters) (byte ∷ bytes) = is_pair_of table character byte && are_coded characters bytes

one_length : (characters bytes : List ℕ) → are_coded characters bytes ≡ true → length bytes ≡ length characters
one_length [] [] all = refl
one_length [] (byte ∷ bytes) all = let no : false ≡ true = all in absurd (cc)
one_length (character ∷ characters) [] all = let no : false ≡ true = all in absurd (cc)
one_length (character ∷ characters) (byte ∷ bytes) all =
    ap (λ n. suc n) (one_length characters bytes (both_true (is_pair_of table character byte) (are_coded characters bytes) all).1)

coded_at : (characters bytes : List ℕ) → are_coded characters bytes ≡ true → (k : ℕ) → k < length characters → IsCoded (get_or characters k 0) (get_or bytes k 0)
coded_at [] bytes all k within = absurd (omega arith)
coded_at (character ∷ characters) [] all k within = let no : false ≡ true = all in absurd (cc)
coded_at (character ∷ characters) (byte ∷ bytes) all zero within =
    record { in_table = pair_from_test table character byte (both_true (is_pair_of table character byte) (are_coded characters bytes) all).0 }
coded_at (character ∷ characters) (byte ∷ bytes) all (suc k) within =
    coded_at characters bytes (both_true (is_pair_of table character byte) (are_coded characters bytes) all).1 k (omega arith)

coded : (characters bytes : List ℕ) → are_coded characters bytes ≡ true → AreCoded characters bytes
coded characters bytes all = record { one_length = one_length characters bytes all; each = coded_at characters bytes all }

digit_coded : (digit : ℕ) → digit < 10 → IsCoded (48 + digit) (zero_byte + digit)
digit_coded zero lt = record { in_table = pair_from_test table 48 0xF0 refl }
digit_coded (suc zero) lt = record { in_table = pair_from_test table 49 0xF1 refl }
digit_coded (suc (suc zero)) lt = record { in_table = pair_from_test table 50 0xF2 refl }
digit_coded (suc (suc (suc zero))) lt = record { in_table = pair_from_test table 51 0xF3 refl }
digit_coded (suc (suc (suc (suc zero)))) lt = record { in_table = pair_from_test table 52 0xF4 refl }
digit_coded (suc (suc (suc (suc (suc zero))))) lt = record { in_table = pair_from_test table 53 0xF5 refl }
digit_coded (suc (suc (suc (suc (suc (suc zero)))))) lt = record { in_table = pair_from_test table 54 0xF6 refl }
digit_coded (suc (suc (suc (suc (suc (suc (suc zero))))))) lt = record { in_table = pair_from_test table 55 0xF7 refl }
digit_coded (suc (suc (suc (suc (suc (suc (suc (suc zero)))))))) lt = record { in_table = pair_from_test table 56 0xF8 refl }
digit_coded (suc (suc (suc (suc (suc (suc (suc (suc (suc zero))))))))) lt = record { in_table = pair_from_test table 57 0xF9 refl }
digit_coded (suc (suc (suc (suc (suc (suc (suc (suc (suc (suc d)))))))))) lt = absurd (omega arith)

pub bytes_are_named : BytesAreNamed
bytes_are_named = record { signs = coded _ _ refl; letters = coded _ _ refl; ends = coded _ _ refl; digits = digit_coded }
