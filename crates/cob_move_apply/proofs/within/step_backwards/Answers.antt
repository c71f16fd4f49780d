use Rattle.std.proofs.Common.{◌≡◌, ◌+◌, ◌-◌, ◌∙◌, ◌++◌, ℕ, List, ap, arith, drop, length, sym, take, length-take-le, length-drop}
use Rattle.cob_layout.specs.Fields.{with_field}
use Rattle.cob_move_apply.specs.declared.step.PreparedMove.{PreparedMove}
use Rattle.cob_move_apply.proofs.PreparedLemmas.{last_bytes}
use Rattle.cob_move_apply.proofs.PreparedLemmas.{put_back}
use Rattle.cob_move_apply.proofs.ReceiverLemmas.{put_is}
use Rattle.cob_move_apply.proofs.WithinLemmas.{backwards_ends, backwards_is, made_within}
use borrow.Rule.Slice.PartMut.{mid_len}
use Rattle.cob_move_apply.proofs.within.step_backwards.Goals as goal

pub returns-clause-made : goal.returns-clause-made
returns-clause-made c =
    let p : PreparedMove = record { places = c.args.places.now; step = c.args.step } in
    let s : List ℕ = c.args.storage.now in
    let from = c.args.places.now.from in
    let to = c.args.places.now.to in
    let start : ℕ = to.offset in
    let end : ℕ = start + to.length in
    let as_many : end - start ≡ to.length = omega arith in
    let sent : ℕ = from.offset + from.length - end in
    let front : List ℕ = c.split_at_mut-front.result.0.now in
    let back : List ℕ = c.split_at_mut-front.result.1.now in
    made_within p c.args.prepared.now (take sent back) s c.run.new.to _ _ c.run.result
    (omega (arith, c.requires.behind, ap (λ t. length (take sent t)) c.split_at_mut-front.ensures.back, length-take-le sent (drop end s) (omega (arith, c.requires.within, length-drop end s))))
    (ap (λ t. last_bytes from.length (take sent t)) c.split_at_mut-front.ensures.back ∙ backwards_ends from end s c.requires.behind c.requires.within)
    (mid_len start end front (omega (arith, c.split_at_mut-front.ensures.front_len)) ∙ as_many)
    (ap (λ t. t ++ back) (put_is to c.run.new.to front)
    ∙ ap (λ t. with_field t to c.run.new.to ++ back) c.split_at_mut-front.ensures.front
    ∙ ap (λ t. with_field (take end s) to c.run.new.to ++ t) c.split_at_mut-front.ensures.back
    ∙ backwards_is to s c.run.new.to (omega (arith, c.requires.behind, c.requires.within)))
    (λ no. ap (λ t. t ++ back) (put_back to front c.run.new.to (c.run.ensures.same no)) ∙ sym c.split_at_mut-front.ensures.value) c.run.ensures.gets

pub returns-clause-same : goal.returns-clause-same
returns-clause-same c = λ no.
    ap (λ t. t ++ c.split_at_mut-front.result.1.now) (put_back c.args.places.now.to c.split_at_mut-front.result.0.now c.run.new.to (c.run.ensures.same no)) ∙ sym c.split_at_mut-front.ensures.value
