-- Characters put into receivers.
use Rattle.std.proofs.Common.{◌≡◌, ℕ, ◌+◌, ◌-◌, List, [], ◌++◌, length, take, min, ap, sym, ◌∙◌, arith, replicate, rules, inl, inr}
use Rattle.std.proofs.lemmas.Bool.{cases_lt}
use Rattle.std.proofs.Math.Seq.{take-append-add}
use Rattle.std.proofs.lemmas.List.{take-append-le, take-replicate, take_all}
use Rattle.cob_move_receive.specs.Characters.{padded}

-- characters: those that fit, and spaces after them
pub characters_are : (n k : ℕ) (sent : List ℕ) → k ≡ min (length sent) n → take k sent ++ replicate (n - k) 0x40 ≡ padded n sent
characters_are n k sent e =
    elim (cases_lt (length sent) n) [
      | inl lt ↦
          let all : k ≡ length sent = omega arith in
          let more : n ≡ length sent + (n - length sent) = omega arith in
          ap (λ j. take j sent ++ replicate (n - j) 0x40) all
          ∙ ap (λ t. t ++ replicate (n - length sent) 0x40) (take_all (length sent) sent (omega arith))
          ∙ ap (λ t. sent ++ t) (sym (take-replicate (n - length sent) n 0x40 (omega arith)))
          ∙ sym (take-append-add sent (replicate n 0x40) (n - length sent))
          ∙ ap (λ j. take j (sent ++ replicate n 0x40)) (sym more)
      | inr ge ↦
          let all : k ≡ n = omega arith in
          ap (λ j. take j sent ++ replicate (n - j) 0x40) all
          ∙ ap (λ j. take n sent ++ replicate j 0x40) (nothing n)
          ∙ nil_end (take n sent)
          ∙ sym (take-append-le n sent (replicate n 0x40) ge)
    ]
  where
    nothing : (m : ℕ) → m - m ≡ 0
    nothing m = omega arith

    nil_end : (xs : List ℕ) → xs ++ [] ≡ xs
    nil_end xs = search rules
