use Rattle.std.proofs.Common.{◌≡◌, ℕ, ◌+◌, ◌*◌, ◌^◌, ◌<◌, length, take, get_or, ap, sym, ◌∙◌, arith}
use Rattle.std.proofs.lemmas.List.{take_more}
use Rattle.cob_decimal.specs.Decimal.{number_of}
use Rattle.cob_decimal.proofs.DecimalLemmas.{number_of-push}
use Rattle.cob_codec.proofs.SignLemmas.{digit_small}
use Rattle.cob_codec.proofs.BinaryLemmas.{room, one_more}
use Rattle.cob_codec.proofs.binary.magnitude_of.Goals as goal

pub overflow_mul-magnitude : goal.overflow_mul-magnitude
overflow_mul-magnitude c =
    let small : c.loop-digit.magnitude < 10 ^ 17 = room c.loop-digit.magnitude c.loop-digit.digit-index c.loop-digit.invariant.small (omega arith) in
    omega arith

pub overflow_add-magnitude : goal.overflow_add-magnitude
overflow_add-magnitude c =
    let small : c.loop-digit.magnitude < 10 ^ 17 = room c.loop-digit.magnitude c.loop-digit.digit-index c.loop-digit.invariant.small (omega arith) in
    let digit : get_or c.args.digits.now c.loop-digit.digit-index 0 < 10 = digit_small c.args.digits.now c.loop-digit.digit-index c.requires.valid (omega arith) in
    omega arith

pub loop-digit-preserved : goal.loop-digit-preserved
loop-digit-preserved c =
    let i : ℕ = c.loop-digit.digit-index in
    let lt : i < length c.args.digits.now = omega arith in
    let digit : get_or c.args.digits.now i 0 < 10 = digit_small c.args.digits.now i c.requires.valid lt in
    let same : c.from.result ≡ get_or c.args.digits.now i 0 = omega arith in
    record {
      value = ap (λ m. m * 10 + c.from.result) c.loop-digit.invariant.value ∙ ap (λ d. number_of (take i c.args.digits.now) * 10 + d) same ∙ sym (ap number_of (take_more c.args.digits.now i 0 lt) ∙ number_of-push (take i c.args.digits.now) (get_or c.args.digits.now i 0));
      small = one_more c.loop-digit.magnitude c.from.result i c.loop-digit.invariant.small (omega arith);
    }
