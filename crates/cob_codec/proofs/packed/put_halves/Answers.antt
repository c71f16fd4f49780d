use Rattle.std.proofs.Common.{ℕ, ◌+◌, ◌*◌, ◌<◌, ◌++◌, [], ◌∷◌, length, get_or, ap, sym, ◌∙◌, arith}
use Rattle.std.proofs.lemmas.List.{take_more_set}
use Rattle.cob_codec.proofs.PackedLemmas.{joined_more}
use Rattle.cob_codec.proofs.packed.put_halves.Goals as goal

pub loop-at-preserved : goal.loop-at-preserved
loop-at-preserved c =
    let at : ℕ = c.loop-at.at in
    let byte : ℕ = get_or c.args.digits.now (2 * at) 0 * 16 + get_or c.args.digits.now (2 * at + 1) 0 in
    let within : at < length c.loop-at.bytes = omega arith in
    let low : 2 * at + 1 < length c.args.digits.now = omega arith in
    take_more_set c.loop-at.bytes at byte within ∙ ap (λ xs. xs ++ byte ∷ []) c.loop-at.invariant ∙ sym (joined_more c.args.digits.now at low)
