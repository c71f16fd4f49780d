use Rattle.std.proofs.Common.{◌≡◌, ◌==◌, ◌+◌, ◌-◌, ℕ, take, ap, ◌∙◌, arith}
use Rattle.std.specs.List.{prefix_len}
use Rattle.cob_move_steps.specs.LongDigits.{last_count}
use Rattle.cob_move_steps.proofs.LongTextLemmas.{last_left, zeros_among_last, zeros_before_last}
use Rattle.cob_move_steps.proofs.long_texts.zeros_of_both.Goals as goal

pub returns-then-zeros-leading-clause-value : goal.returns-then-zeros-leading-clause-value
returns-then-zeros-leading-clause-value c =
    zeros_before_last c.args.count c.zeros_before-zeros.result c.args.front c.args.back c.requires c.fits-front.0 c.zeros_before-zeros.ensures
    (omega (arith, c.if-zeros-leading.true, c.from-leading.ensures, c.front_count-front_digits.ensures))

pub returns-else-zeros-leading-clause-value : goal.returns-else-zeros-leading-clause-value
returns-else-zeros-leading-clause-value c =
    let count : ℕ = c.args.count in
    let behind : ℕ = c.zeros_in_front.result in
    let lead : c.from-leading.result ≡ count - 16 = c.from-leading.ensures ∙ c.front_count-front_digits.ensures in
    let left : count - c.front_count-front_digits.result ≡ last_count count = ap (λ k. count - k) c.front_count-front_digits.ensures ∙ last_left count in
    ap (λ n. n + behind) lead
    ∙ zeros_among_last count c.zeros_before-zeros.result behind c.args.front c.args.back c.requires c.fits-front.0 c.zeros_before-zeros.ensures
    (omega (arith, c.if-zeros-leading.false, lead))
    (c.zeros_in_front.ensures.value (omega (arith, c.fits-back.0, c.requires, c.front_count-front_digits.ensures)) ∙ ap (λ n. prefix_len (λ d. d == 0) (take n c.args.back)) left)
