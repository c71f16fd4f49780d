use Rattle.std.proofs.Common.{◌≡◌, ◌≤◌, ℕ, List, length, take, ap, ◌∙◌, arith, take-take}
use Rattle.cob_move_receive.specs.Characters.{padded, padded_left}
use Rattle.cob_move_steps.specs.LongNumerals.{shown_numerals}
use Rattle.cob_move_steps.proofs.long_numerals.LongNumerals.write.Goals as goal

pub returns : goal.returns
returns c = λ from to is tens more.
    let w = c.args.self.now in
    let made = c.write.ensures.made in
    let count : ℕ = c.from-count.result in
    let n : ℕ = length c.args.to.now in
    let text : List ℕ = take count c.write.new.out in
    let few : count ≤ 48 = omega (arith, c.from-count.ensures, w.most) in
    let cut : text ≡ take w.count made.0 = ap (take count) made.2 ∙ take-take count 48 made.0 few ∙ ap (λ k. take k made.0) c.from-count.ensures in
    let same : text ≡ shown_numerals from c.args.front c.args.back =
    cut ∙ ap (λ k. take k made.0) is.count ∙ is.text c.args.front c.args.back made.0 c.fits-front.0 c.fits-back.0 tens more made.1 in
    (λ e. c.put.ensures.left e ∙ ap (λ xs. padded n xs) same, λ e. c.put.ensures.right e ∙ ap (λ xs. padded_left n xs) same)
