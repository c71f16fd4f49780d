use Rattle.std.proofs.Common.{◌≡◌, ◌≤◌, ℕ, List, length, take, ap, ◌∙◌, arith, take-take}
use Rattle.cob_move_steps.proofs.NumeralLemmas.{no_numerals_moved, numerals_moved}
use Rattle.cob_move_steps.proofs.numerals_step.NumeralsStep.run.Goals as goal

pub returns-then-not-read-clause-gets : goal.returns-then-not-read-clause-gets
returns-then-not-read-clause-gets c = λ s r is within size reading suits.
    no_numerals_moved s r c.args.self.now reading c.args.from.now c.read-read.result.digits c.args.to.now c.read-read.result.is_number c.read-read.result.minus (length c.args.to.now)
    is c.if-not-read.true (c.read-read.ensures s s reading is.reader suits within)

pub returns-clause-gets : goal.returns-clause-gets
returns-clause-gets c = λ s r is within size reading suits.
    let step = c.args.self.now in
    let read = c.read-read.ensures s s reading is.reader suits within in
    let made = c.write.ensures.made in
    let count : ℕ = c.from-count.result in
    let text : List ℕ = take count c.write.new.out in
    let few : count ≤ 16 = omega (arith, c.from-count.ensures, step.most) in
    let cut : text ≡ take step.count made.0 = ap (take count) made.2 ∙ take-take count 16 made.0 few ∙ ap (λ n. take n made.0) c.from-count.ensures in
    numerals_moved s r step reading c.args.from.now c.read-read.result.digits made.0 text c.put.new.to c.read-read.result.is_number c.read-read.result.minus (length c.args.to.now)
    is suits c.if-not-read.false read made.1 cut c.put.ensures.left c.put.ensures.right
