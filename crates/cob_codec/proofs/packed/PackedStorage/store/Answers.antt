use Rattle.std.proofs.Common.{◌≡◌, ℕ, ◌+◌, ◌-◌, ◌*◌, ◌/◌, ◌<◌, List, ◌++◌, [], ◌∷◌, length, get_or, ap, ◌∙◌, arith}
use Rattle.cob_codec.specs.Sign.{sign_code}
use Rattle.cob_codec.specs.Packed.{bytes_of_halves, packed_halves}
use Rattle.cob_codec.proofs.PackedLemmas.{whole_item, front_length}
use Rattle.cob_codec.proofs.SliceLemmas.{last_after}
use Rattle.cob_codec.proofs.packed.PackedStorage.store.Goals as goal

pub returns-clause-bytes : goal.returns-clause-bytes
returns-clause-bytes c =
    let ds : List ℕ = c.as_slice-digits.result.now in
    let same : ds ≡ c.args.number.now.digits = c.as_slice-digits.ensures.value ∙ c.digits.ensures in
    let many : length ds ≡ c.args.shape.now.digits = ap length same ∙ c.requires.digits in
    let some : 0 < length ds = omega arith in
    let byte : ℕ = get_or ds (length ds - 1) 0 * 16 + c.code_of.result in
    let code : c.code_of.result ≡ sign_code c.args.shape.now.signed c.args.number.now.negative = c.code_of.ensures ∙ ap (sign_code c.args.shape.now.signed) c.negative.ensures in
    let count : length c.put_front.new.bytes ≡ (length ds - 1 + 1) / 2 = ap length c.put_front.ensures ∙ front_length ds (length ds - 1) (omega arith) in
    last_after c.args.bytes.now c.put_front.new.bytes (length c.args.bytes.now - 1) byte (omega arith) (omega arith)
    ∙ ap (λ xs. xs ++ byte ∷ []) c.put_front.ensures
    ∙ whole_item ds (length ds - 1) c.code_of.result (omega arith)
    ∙ ap (λ k. bytes_of_halves (packed_halves (length ds) ds k)) code
    ∙ ap (λ xs. bytes_of_halves (packed_halves (length xs) xs (sign_code c.args.shape.now.signed c.args.number.now.negative))) same
