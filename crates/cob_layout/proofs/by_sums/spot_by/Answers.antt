use Rattle.std.proofs.Common.{◌∙◌, false, sym, arith}
use Rattle.cob_layout.proofs.SumLemmas.{none_shifted, shifted_there}
use Rattle.cob_layout.proofs.by_sums.spot_by.Goals as goal

pub returns-then-number-shifts : goal.returns-then-number-shifts
returns-then-number-shifts c =
    sym (none_shifted c.args.sums.now c.args.counts.now c.args.number c.args.shifts.now c.args.least.now (record { offset = 0; length = 0; times = 0 }) (omega (arith, c.if-number-shifts.true)) c.requires.by.as_many)

pub returns : goal.returns
returns c =
    c.shifted.ensures
    ∙ shifted_there c.args.sums.now c.args.counts.now c.args.number c.count_at-count.result c.args.shifts.now c.args.least.now (record { before = 0; through = 0; most = 0; only_moves = false }) (record { offset = 0; length = 0; times = 0 }) (record { offset = 0; length = 0; times = 0 })
    c.count_at-count.ensures (omega (arith, c.if-number-shifts.false)) c.requires.by.as_many
