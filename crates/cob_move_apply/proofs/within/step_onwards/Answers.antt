use Rattle.std.proofs.Common.{◌≡◌, ◌+◌, ◌∙◌, ◌++◌, ℕ, List, ap, arith, drop, length, take, length-take-le, length-drop}
use Rattle.cob_layout.specs.Fields.{with_field}
use Rattle.cob_move_apply.specs.declared.step.PreparedMove.{PreparedMove}
use Rattle.cob_move_apply.proofs.PreparedLemmas.{last_bytes}
use Rattle.cob_move_apply.proofs.WithinLemmas.{made_within, onwards_ends, onwards_kept}
use Rattle.cob_move_apply.proofs.within.step_onwards.Goals as goal

pub returns-clause-made : goal.returns-clause-made
returns-clause-made c =
    let p : PreparedMove = record { places = c.args.places.now; step = c.args.step } in
    let s : List ℕ = c.args.storage.now in
    let from = c.args.places.now.from in
    let to = c.args.places.now.to in
    let sent : ℕ = from.offset + from.length in
    let start : ℕ = to.offset in
    let front : List ℕ = c.split_at_mut-front.result.0.now in
    let back : List ℕ = c.split_at_mut-front.result.1.now in
    let fits : length (take start s) ≡ start = length-take-le start s (omega (arith, c.requires.within)) in
    let written : front ++ (c.run.new.to ++ drop to.length back) ≡ with_field s to c.run.new.to =
    ap (λ t. t ++ (c.run.new.to ++ drop to.length back)) c.split_at_mut-front.ensures.front
    ∙ ap (λ t. take start s ++ (c.run.new.to ++ drop to.length t)) c.split_at_mut-front.ensures.back in
    made_within p c.args.prepared.now (take sent front) s c.run.new.to _ _ c.run.result
    (omega (arith, ap (λ t. length (take sent t)) c.split_at_mut-front.ensures.front, length-take-le sent (take start s) (omega (arith, c.requires.before, fits))))
    (ap (λ t. last_bytes from.length (take sent t)) c.split_at_mut-front.ensures.front ∙ onwards_ends from start s c.requires.before (omega (arith, c.requires.within)))
    (ap (λ t. length (take to.length t)) c.split_at_mut-front.ensures.back ∙ length-take-le to.length (drop start s) (omega (arith, c.requires.within, length-drop start s))) written
    (λ no. written ∙ onwards_kept start to.length s c.run.new.to (c.run.ensures.same no ∙ ap (take to.length) c.split_at_mut-front.ensures.back)) c.run.ensures.gets

pub returns-clause-same : goal.returns-clause-same
returns-clause-same c = λ no.
    let s : List ℕ = c.args.storage.now in
    let to = c.args.places.now.to in
    let back : List ℕ = c.split_at_mut-front.result.1.now in
    ap (λ t. t ++ (c.run.new.to ++ drop to.length back)) c.split_at_mut-front.ensures.front
    ∙ ap (λ t. take to.offset s ++ (c.run.new.to ++ drop to.length t)) c.split_at_mut-front.ensures.back
    ∙ onwards_kept to.offset to.length s c.run.new.to (c.run.ensures.same no ∙ ap (take to.length) c.split_at_mut-front.ensures.back)
