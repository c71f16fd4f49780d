use Rattle.std.proofs.Common.{◌≡◌, ◌+◌, ◌-◌, ◌∙◌, ℕ, List, ap, arith, length, take}
use borrow.Rule.Slice.PartMut.{mid_len}
use Rattle.cob_move_apply.specs.declared.step.PreparedMove.{PreparedMove}
use Rattle.cob_move_apply.proofs.CopyLemmas.{as_long}
use Rattle.cob_move_apply.proofs.PreparedLemmas.{put_back}
use Rattle.cob_move_apply.proofs.ReceiverLemmas.{put_is}
use Rattle.cob_move_apply.proofs.WithinLemmas.{made_within, taken_ends}
use Rattle.cob_move_apply.proofs.within.step_taken.Goals as goal

pub returns-clause-made : goal.returns-clause-made
returns-clause-made c =
    let p : PreparedMove = record { places = c.args.places.now; step = c.args.step } in
    let s : List ℕ = c.args.storage.now in
    let from = c.args.places.now.from in
    let to = c.args.places.now.to in
    let start : ℕ = to.offset in
    let end : ℕ = start + to.length in
    let back : end - start ≡ to.length = omega arith in
    let taken : List ℕ = take from.length c.copy_field.new.content in
    made_within p c.args.prepared.now taken s c.run.new.to _ _ c.run.result
    (omega (arith, ap length c.copy_field.ensures, as_long from s c.requires.reads)) (taken_ends from taken s c.requires.reads c.copy_field.ensures)
    (mid_len start end s c.requires.writes ∙ back) (put_is to c.run.new.to s) (λ no. put_back to s c.run.new.to (c.run.ensures.same no)) c.run.ensures.gets

pub returns-clause-same : goal.returns-clause-same
returns-clause-same c = λ no. put_back c.args.places.now.to c.args.storage.now c.run.new.to (c.run.ensures.same no)
