use Rattle.std.proofs.Common.{◌≡◌, ℕ, ◌/◌, ◌%◌, ◌<◌, List, ◌++◌, [], ◌∷◌, length, take, get_or, ap, sym, ◌∙◌, arith, length-append, length-take-le, append_assoc}
use Rattle.cob_codec.specs.Packed.{halves}
use Rattle.cob_codec.proofs.PackedLaws.{length-halves}
use Rattle.cob_codec.proofs.PackedLemmas.{digit_halves, more_halves}
use Rattle.cob_codec.proofs.packed.push_halves.Goals as goal

pub returns-then-high-gt9-clause-exact : goal.returns-then-high-gt9-clause-exact
returns-then-high-gt9-clause-exact c = (
  λ h. absurd (cc),
  λ valid.
      let within : c.loop-byte.byte-index < length c.args.bytes.now = omega arith in
      let both = digit_halves c.args.bytes.now c.loop-byte.byte-index valid within in
      absurd (omega (arith, both.0)),
)

pub returns-then-low-gt9-clause-exact : goal.returns-then-low-gt9-clause-exact
returns-then-low-gt9-clause-exact c = (
  λ h. absurd (cc),
  λ valid.
      let within : c.loop-byte.byte-index < length c.args.bytes.now = omega arith in
      let both = digit_halves c.args.bytes.now c.loop-byte.byte-index valid within in
      absurd (omega (arith, both.1)),
)

pub push-requires-clause-room : goal.push-requires-clause-room
push-requires-clause-room c =
    let i : ℕ = c.loop-byte.byte-index in
    let front : List ℕ = take i c.args.bytes.now in
    let lt : i < length c.args.bytes.now = omega arith in
    let many : length front ≡ i = length-take-le i c.args.bytes.now (omega arith) in
    omega (arith, ap length c.loop-byte.invariant.so_far, length-append c.args.digits.now (halves front), length-halves front)

pub push-requires-in-loop-byte-clause-room : goal.push-requires-in-loop-byte-clause-room
push-requires-in-loop-byte-clause-room c =
    let i : ℕ = c.loop-byte.byte-index in
    let front : List ℕ = take i c.args.bytes.now in
    let lt : i < length c.args.bytes.now = omega arith in
    let many : length front ≡ i = length-take-le i c.args.bytes.now (omega arith) in
    omega (arith, ap length c.push.ensures, length-append c.loop-byte.digits (get_or c.args.bytes.now i 0 / 16 ∷ []), ap length c.loop-byte.invariant.so_far, length-append c.args.digits.now (halves front), length-halves front)

pub loop-byte-preserved : goal.loop-byte-preserved
loop-byte-preserved c =
    let i : ℕ = c.loop-byte.byte-index in
    let b : ℕ = get_or c.args.bytes.now i 0 in
    let lt : i < length c.args.bytes.now = omega arith in
    let more = more_halves c.args.bytes.now i c.loop-byte.invariant.valid lt (omega arith) (omega arith) in
    record {
      so_far = c.push-in-loop-byte.ensures ∙ ap (λ xs. xs ++ b % 16 ∷ []) (c.push.ensures ∙ ap (λ xs. xs ++ b / 16 ∷ []) c.loop-byte.invariant.so_far)
          ∙ append_assoc (c.args.digits.now ++ halves (take i c.args.bytes.now)) (b / 16 ∷ []) (b % 16 ∷ [])
          ∙ append_assoc c.args.digits.now (halves (take i c.args.bytes.now)) (b / 16 ∷ b % 16 ∷ [])
          ∙ ap (λ xs. c.args.digits.now ++ xs) (sym more.0);
      valid = more.1;
    }
