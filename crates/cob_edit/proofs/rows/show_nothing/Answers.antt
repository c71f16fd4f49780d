use Rattle.std.proofs.Common.{◌≡◌, ◌<◌, ◌==◌, ◌||◌, ◌&&◌, length, not, sym, ap, ◌∙◌, arith}
use Rattle.std.specs.List.{prefix_len, list_all}
use Rattle.std.proofs.lemmas.List.Sums.{prefix_len-le-length}
use Rattle.cob_edit.specs.Places.{is_nine}
use Rattle.cob_edit.proofs.RowLemmas.{all_zeros, not_all_zeros}
use Rattle.cob_edit.proofs.rows.show_nothing.Goals as goal

pub returns-then-zeros-digits : goal.returns-then-zeros-digits
returns-then-zeros-digits c = λ ds long front.
    let all : prefix_len (λ d. d == 0) ds ≡ length ds = omega arith in
    c.hides_zero.ensures ∙ sym (ap (λ b. b && (c.args.blank || list_all (λ p. not (is_nine p)) c.args.places.now)) (all_zeros ds all))

pub returns-else-zeros-digits : goal.returns-else-zeros-digits
returns-else-zeros-digits c = λ ds long front.
    let less : prefix_len (λ d. d == 0) ds < length ds = omega (arith, prefix_len-le-length (λ d. d == 0) ds) in
    sym (ap (λ b. b && (c.args.blank || list_all (λ p. not (is_nine p)) c.args.places.now)) (not_all_zeros ds less))
