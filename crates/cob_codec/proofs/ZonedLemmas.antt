-- Lemmas on the bytes of digits.
use Rattle.std.proofs.Common.{◌≡◌, ℕ, ◌+◌, ◌<◌, ◌≤◌, List, length, get_or, ap, ◌∙◌, arith}
use Rattle.std.proofs.lemmas.List.{length-map, get_or-map}
use Rattle.cob_decimal.specs.Decimal.{IsDigits}
use Rattle.cob_codec.specs.Zoned.{digit_bytes}
use Rattle.cob_codec.proofs.SignLemmas.{digit_small}

-- each byte of digits is F0 to F9
pub digit_byte : (bytes ds : List ℕ) (k : ℕ) → IsDigits ds → bytes ≡ digit_bytes ds → k < length bytes → (240 ≤ get_or bytes k 0) × (get_or bytes k 0 < 250)
digit_byte bytes ds k valid text lt =
    let many : length bytes ≡ length ds = ap length text ∙ length-map ds (λ d. 240 + d) in
    let within : k < length ds = omega arith in
    let at : get_or bytes k 0 ≡ 240 + get_or ds k 0 = ap (λ xs. get_or xs k 0) text ∙ get_or-map (λ d. 240 + d) ds k 0 0 within in
    let small : get_or ds k 0 < 10 = digit_small ds k valid within in
    (omega arith, omega arith)
