-- The bytes of edited texts in code page 037.
use Rattle.std.proofs.Common.{◌≡◌, ℕ, zero, suc, ◌+◌, ◌<◌, Bool, true, false, ◌||◌, List, [], ◌∷◌, refl, arith, inl, inr, ◌⊎◌}
use Rattle.std.specs.Prelude.{◌==◌, ◌&&◌}
use Rattle.std.proofs.lemmas.Bool.{eqb-true}
use Rattle.cob_cp037.specs.Table.{table, IsPairOf, IsCoded}
use Rattle.cob_edit.specs.CodePage.{PrintsCharacters}

-- whether the pair stands among these
abbrev stands : List (ℕ × ℕ) → ℕ → ℕ → Bool
stands [] character byte = false
stands (pair ∷ pairs) character byte = ((character == pair.0) && (byte == pair.1)) || stands pairs character byte

both : (a b : Bool) → (a && b) ≡ true → (a ≡ true) × (b ≡ true)
both true b h = (refl, h)
both false b h = let no : false ≡ true = h in absurd (cc)

either : (a b : Bool) → (a || b) ≡ true → (a ≡ true) ⊎ (b ≡ true)
either true b h = inl refl
either false b h = inr h

stands_pair : (pairs : List (ℕ × ℕ)) (character byte : ℕ) → stands pairs character byte ≡ true → IsPairOf pairs character byte
stands_pair [] character byte h = let no : false ≡ true = h in absurd (cc)
stands_pair (pair ∷ pairs) character byte h =
    elim (either ((character == pair.0) && (byte == pair.1)) (stands pairs character byte) h) [
      | inl here ↦ let e : ((character == pair.0) ≡ true) × ((byte == pair.1) ≡ true) = both (character == pair.0) (byte == pair.1) here in inl (eqb-true character pair.0 e.0, eqb-true byte pair.1 e.1)
      | inr later ↦ inr (stands_pair pairs character byte later)
    ]

coded : (character byte : ℕ) → stands table character byte ≡ true → IsCoded character byte
coded character byte h = record { in_table = stands_pair table character byte h }

digit_coded : (d : ℕ) → d < 10 → IsCoded (d + 48) (d + 0xF0)
digit_coded zero lt = coded 48 240 refl
digit_coded (suc zero) lt = coded 49 241 refl
digit_coded (suc (suc zero)) lt = coded 50 242 refl
digit_coded (suc (suc (suc zero))) lt = coded 51 243 refl
digit_coded (suc (suc (suc (suc zero)))) lt = coded 52 244 refl
digit_coded (suc (suc (suc (suc (suc zero))))) lt = coded 53 245 refl
digit_coded (suc (suc (suc (suc (suc (suc zero)))))) lt = coded 54 246 refl
digit_coded (suc (suc (suc (suc (suc (suc (suc zero))))))) lt = coded 55 247 refl
digit_coded (suc (suc (suc (suc (suc (suc (suc (suc zero)))))))) lt = coded 56 248 refl
digit_coded (suc (suc (suc (suc (suc (suc (suc (suc (suc zero))))))))) lt = coded 57 249 refl
digit_coded (suc (suc (suc (suc (suc (suc (suc (suc (suc (suc d)))))))))) lt = absurd (omega arith)

pub prints_characters : PrintsCharacters
prints_characters = record {
  digits = digit_coded;
  point = coded 46 0x4B refl;
  currency = λ negative. coded 36 0x5B refl;
  plus_sign = coded 43 0x4E refl;
  minus_sign = coded 45 0x60 refl;
  floating_space = coded 32 0x40 refl;
  floating_minus = coded 45 0x60 refl;
  credit_c = coded 67 0xC3 refl;
  credit_r = coded 82 0xD9 refl;
  debit_d = coded 68 0xC4 refl;
  debit_b = coded 66 0xC2 refl;
  credit_spaces = (coded 32 0x40 refl, coded 32 0x40 refl);
  debit_spaces = (coded 32 0x40 refl, coded 32 0x40 refl);
  inserted_space = coded 32 0x40 refl;
  inserted_zero = coded 48 0xF0 refl;
  inserted_stroke = coded 47 0x61 refl;
  inserted_comma = coded 44 0x6B refl;
  fill_space = coded 32 0x40 refl;
  fill_asterisk = coded 42 0x5C refl;
}
