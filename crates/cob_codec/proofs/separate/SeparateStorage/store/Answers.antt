use Rattle.std.proofs.Common.{◌≡◌, ℕ, ◌+◌, List, ◌++◌, [], ◌∷◌, length, ap, sym, ◌∙◌, arith}
use Rattle.std.proofs.lemmas.List.{length-map}
use Rattle.cob_codec.specs.Zoned.{digit_bytes}
use Rattle.cob_codec.specs.Separate.{sign_byte, separate_form}
use Rattle.cob_codec.proofs.SliceLemmas.{after_first, last_after}
use Rattle.cob_codec.proofs.separate.SeparateStorage.store.Goals as goal

pub returns-then-shape-clause-bytes : goal.returns-then-shape-clause-bytes
returns-then-shape-clause-bytes c =
    let ds : List ℕ = c.as_slice-digits.result.now in
    let same : ds ≡ c.args.number.now.digits = c.as_slice-digits.ensures.value ∙ c.digits.ensures in
    let many : length ds ≡ c.args.shape.now.digits = ap length same ∙ c.requires.digits in
    let new : c.put_digits.new.bytes ≡ digit_bytes ds = c.put_digits.ensures in
    let count : length c.put_digits.new.bytes ≡ length ds = ap length new ∙ length-map ds (λ d. 240 + d) in
    let sign : c.sign_written-sign.result ≡ sign_byte c.args.number.now.negative = c.sign_written-sign.ensures ∙ ap sign_byte c.negative.ensures in
    after_first c.args.bytes.now c.put_digits.new.bytes c.sign_written-sign.result (omega arith)
    ∙ ap (λ xs. c.sign_written-sign.result ∷ xs) (new ∙ ap digit_bytes same)
    ∙ ap (λ s. s ∷ digit_bytes c.args.number.now.digits) sign
    ∙ sym (ap (λ l. separate_form l c.args.number.now.negative c.args.number.now.digits) c.if-shape.true)

pub returns-else-shape-clause-bytes : goal.returns-else-shape-clause-bytes
returns-else-shape-clause-bytes c =
    let ds : List ℕ = c.as_slice-digits.result.now in
    let same : ds ≡ c.args.number.now.digits = c.as_slice-digits.ensures.value ∙ c.digits.ensures in
    let many : length ds ≡ c.args.shape.now.digits = ap length same ∙ c.requires.digits in
    let new : c.put_digits-else-shape.new.bytes ≡ digit_bytes ds = c.put_digits-else-shape.ensures in
    let count : length c.put_digits-else-shape.new.bytes ≡ length ds = ap length new ∙ length-map ds (λ d. 240 + d) in
    let sign : c.sign_written-sign.result ≡ sign_byte c.args.number.now.negative = c.sign_written-sign.ensures ∙ ap sign_byte c.negative.ensures in
    last_after c.args.bytes.now c.put_digits-else-shape.new.bytes (length ds) c.sign_written-sign.result count (omega arith)
    ∙ ap (λ xs. xs ++ c.sign_written-sign.result ∷ []) (new ∙ ap digit_bytes same)
    ∙ ap (λ s. digit_bytes c.args.number.now.digits ++ s ∷ []) sign
    ∙ sym (ap (λ l. separate_form l c.args.number.now.negative c.args.number.now.digits) c.if-shape.false)
