use Rattle.std.proofs.Common.{◌≡◌, ◌+◌, ◌<◌, ◌∙◌, ap, arith, length, sym, take}
use Rattle.std.proofs.lemmas.List.{at_drop_all, length-set, take_more_set}
use Rattle.cob_layout.specs.declared.shifts.Growth.{Growth}
use Rattle.cob_layout.specs.Shifts.{sums_by}
use Rattle.cob_layout.proofs.ShiftLemmas.{can_next, sums_more}
use Rattle.cob_layout.proofs.shifts.put_sums.Goals as goal

pub loop-index-init : goal.loop-index-init
loop-index-init c = record {
  same = ap (λ zs. sums_by c.args.counts.now c.args.growths.now zs 0) (take_more_set c.args.sums.now 0 0 (omega (arith, c.requires.room)));
  room = length-set c.args.sums.now 0 0;
}

pub next_sum-sum-requires-in-loop-index-clause-fit : goal.next_sum-sum-requires-in-loop-index-clause-fit
next_sum-sum-requires-in-loop-index-clause-fit c =
    can_next c.args.counts.now c.args.growths.now c.loop-index.sums c.loop-index.index (record { number = 0; before = 0; times = 0; most = 0; bytes = 0 }) _ c.loop-index-test.true
    (omega (arith, c.loop-index-test.true, c.loop-index.invariant.room, c.requires.room)) c.loop-index.invariant.same c.requires.fit

pub loop-index-preserved : goal.loop-index-preserved
loop-index-preserved c =
    let d : Growth = record { number = 0; before = 0; times = 0; most = 0; bytes = 0 } in
    let here : c.loop-index.index + 1 < length c.loop-index.sums = omega (arith, c.loop-index-test.true, c.loop-index.invariant.room, c.requires.room) in
    let can = can_next c.args.counts.now c.args.growths.now c.loop-index.sums c.loop-index.index d _ c.loop-index-test.true here c.loop-index.invariant.same c.requires.fit in
    record {
      same = sums_more c.args.counts.now c.args.growths.now c.loop-index.sums c.loop-index.index d c.next_sum-sum-in-loop-index.result _ c.loop-index-test.true here can.order c.next_sum-sum-in-loop-index.ensures c.loop-index.invariant.same;
      room = length-set c.loop-index.sums (c.loop-index.index + 1) c.next_sum-sum-in-loop-index.result ∙ c.loop-index.invariant.room;
    }

pub returns : goal.returns
returns c =
    let counts = c.args.counts.now in
    let index = c.loop-index.index in
    let all : index ≡ length c.args.growths.now = omega (arith, c.loop-index-test.false, c.loop-index.auto) in
    ap (λ n. take (n + 1) c.loop-index.sums) (sym all)
    ∙ sym (at_drop_all (λ gs. sums_by counts gs (take (index + 1) c.loop-index.sums) index) c.args.growths.now index (omega (arith, all)))
    ∙ c.loop-index.invariant.same
