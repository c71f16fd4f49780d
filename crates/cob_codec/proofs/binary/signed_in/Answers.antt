use Rattle.std.proofs.Common.{◌≡◌, ℕ, ◌+◌, ◌-◌, ◌*◌, ◌<◌, ◌≤◌, List, length, ap, sym, ◌∙◌, arith}
use Rattle.byteorder.specs.Endian.{twos_complement}
use Rattle.cob_codec.specs.Binary.{binary_length, binary_number}
use Rattle.cob_codec.proofs.BinaryLaws.{Width, half_of, width, twos_minus}
use Rattle.cob_codec.proofs.binary.signed_in.Goals as goal

pub returns-then-number-greatest-clause-value : goal.returns-then-number-greatest-clause-value
returns-then-number-greatest-clause-value c =
    let bytes : List ℕ = c.args.bytes.now in
    let n : ℕ = binary_length c.args.shape.now.digits in
    let half : ℕ = half_of c.args.shape.now.digits in
    let w : Width n half = width c.args.shape.now.digits in
    let number : ℕ = c.unsigned_in-number.result in
    let minus : ℕ = c.greatest-greatest.result - number + 1 in
    let greatest : c.greatest-greatest.result + 1 ≡ 2 * half = c.greatest-greatest.ensures ∙ w.whole in
    let fits : number < 2 * half = rw (← w.whole) c.unsigned_in-number.ensures.fits in
    let upper : half ≤ number = omega arith in
    let sum : number + minus ≡ 2 * half = omega arith in
    sym (ap (λ b. binary_number b bytes) c.if-shape.true
    ∙ ap (λ x. twos_complement (length bytes) x) (sym c.unsigned_in-number.ensures.value)
    ∙ ap (λ k. twos_complement k number) c.requires
    ∙ twos_minus n number minus half w.low w.bits upper sum)
