use Rattle.std.proofs.Common.{◌≡◌, ◌<◌, ◌∙◌, true, false, rules, w8}
use Rattle.std.proofs.lemmas.Int.{to_z-of_z}
use mir.Val.{SFits}
use Rattle.cob_decimal.specs.Decimal.{number_of}
use Rattle.cob_move_receive.specs.Sent.{amount}
use Rattle.cob_move_condition.proofs.NumberLemmas.{above_below, below_above}
use Rattle.cob_move_condition.proofs.numbers.number_order.Goals as goal

pub returns-in-true-false : goal.returns-in-true-false
returns-in-true-false c =
    let e : c.args.first.now.negative ≡ true = search rules in
    let f : c.args.second.now.negative ≡ false = search rules in
    let some : 0 < number_of c.args.first.now.digits = search rules in
    let one : SFits w8 c.scale.result = search rules in
    let other : SFits w8 c.scale-2.result = search rules in
    below_above (amount c.args.first.now) (amount c.args.second.now) _ _ _ (to_z-of_z w8 c.scale.result one ∙ c.scale.ensures.value)
    (to_z-of_z w8 c.scale-2.result other ∙ c.scale-2.ensures.value) e f some c.places_finer-finer.ensures.value

pub returns-in-false-true : goal.returns-in-false-true
returns-in-false-true c =
    let e : c.args.first.now.negative ≡ false = search rules in
    let f : c.args.second.now.negative ≡ true = search rules in
    let some : 0 < number_of c.args.second.now.digits = search rules in
    let one : SFits w8 c.scale-3.result = search rules in
    let other : SFits w8 c.scale-4.result = search rules in
    above_below (amount c.args.first.now) (amount c.args.second.now) _ _ _ (to_z-of_z w8 c.scale-4.result other ∙ c.scale-4.ensures.value)
    (to_z-of_z w8 c.scale-3.result one ∙ c.scale-3.ensures.value) e f some c.places_finer-second_finer.ensures.value
