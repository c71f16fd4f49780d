use Rattle.std.proofs.Common.{◌≡◌, ◌<◌, ◌++◌, ℕ, List, length, take, drop, get_or, sym, ap, ◌∙◌, arith}
use Rattle.std.proofs.Math.ListN.{get_or-append}
use Rattle.std.proofs.lemmas.List.{length-append}
use Rattle.cob_move_steps.specs.Texts.{digit_bytes_from}
use Rattle.cob_move_steps.proofs.DeeditLemmas.{bytes_within}
use Rattle.cob_move_steps.proofs.long_text_reading.pair_places.Goals as goal

pub pair_at-requires-clause-within : goal.pair_at-requires-clause-within
pair_at-requires-clause-within c = λ k lt.
    let ps = c.args.places.now in
    let front : List ℕ = take c.loop-place.count c.loop-place.bytes in
    let rest : List ℕ = digit_bytes_from c.loop-place.byte (drop c.loop-place.place-index ps) in
    let all : List ℕ = digit_bytes_from 0 ps in
    let found : front ++ rest ≡ all = c.loop-place.invariant.found in
    let same : get_or front k 0 ≡ get_or all k 0 = sym (get_or-append front rest 0 k lt) ∙ ap (λ xs. get_or xs k 0) found in
    let inside : k < length all = omega (arith, lt, ap length found, length-append front rest) in
    omega (arith, same, bytes_within 0 ps k inside, c.requires.fits)
