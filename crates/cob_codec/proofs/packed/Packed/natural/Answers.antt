use Rattle.std.proofs.Common.{◌≡◌, ◌-◌, ◌/◌, ◌^◌, ◌<◌, ◌≤◌, ◌++◌, ◌∷◌, [], ℕ, List, arith, get_or, length, length-take-le, take, refl, ◌∙◌}
use Rattle.cob_codec.proofs.NaturalLemmas.{few_halves, packed_natural}
use Rattle.cob_codec.proofs.PackedLemmas.{all_but_last}
use Rattle.cob_codec.proofs.packed.Packed.natural.Goals as goal

pub overflow_mul-result : goal.overflow_mul-result
overflow_mul-result c =
    let end : ℕ = length c.args.bytes.now - 1 in
    let few : length (take end c.args.bytes.now) ≤ 4 = omega (arith, length-take-le end c.args.bytes.now (omega arith)) in
    let small : c.in-Some.value < 10 ^ 8 = few_halves (take end c.args.bytes.now) 4 c.in-Some.value few c.in-Some.ensures in
    omega (arith, small)

pub overflow_add-result : goal.overflow_add-result
overflow_add-result c =
    let end : ℕ = length c.args.bytes.now - 1 in
    let few : length (take end c.args.bytes.now) ≤ 4 = omega (arith, length-take-le end c.args.bytes.now (omega arith)) in
    let small : c.in-Some.value < 10 ^ 8 = few_halves (take end c.args.bytes.now) 4 c.in-Some.value few c.in-Some.ensures in
    omega (arith, small, c.from.ensures)

pub returns-in-Some : goal.returns-in-Some
returns-in-Some c = λ signed.
    (let end : ℕ = length c.args.bytes.now - 1 in
    let front : List ℕ = take end c.args.bytes.now in
    let last : ℕ = get_or c.args.bytes.now end 0 in
    let long : length front ≡ c.args.count / 2 = length-take-le end c.args.bytes.now (omega arith) ∙ omega arith in
    let whole : c.args.bytes.now ≡ front ++ last ∷ [] = all_but_last c.args.bytes.now end (omega arith) in
    let n = packed_natural c.args.count signed c.args.bytes.now front last c.in-Some.value c.requires.some whole long (c.if-not-is_padded.ensures refl) c.in-Some.ensures (omega arith) (c.if-not-is_plus.ensures refl signed) in
    (n.0, n.1, omega (arith, n.2, c.from.ensures)))
