use Rattle.std.proofs.Common.{◌∙◌, ◌<◌, sym, arith, take, count_by}
use Rattle.cob_edit.specs.Places.{is_digit}
use Rattle.cob_edit.proofs.EditingLemmas.{digit_inside}
use Rattle.cob_edit.proofs.region.cut_of.Goals as goal

pub bounds-digits-next : goal.bounds-digits-next
bounds-digits-next c =
    let some : count_by is_digit (take c.loop-at.at c.args.places.now) < count_by is_digit c.args.places.now = digit_inside c.args.places.now c.loop-at.at (omega arith) (sym c.is_digit.ensures ∙ c.if-is_digit.true) in
    omega (arith, c.requires.digits, c.loop-at.invariant.next)
