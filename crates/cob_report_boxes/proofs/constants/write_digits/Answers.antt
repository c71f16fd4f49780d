use Rattle.std.proofs.Common.{rules, drop, get_or, ◌+◌, ℕ, sym}
use Rattle.std.specs.List.{flat_map}
use Rattle.std.proofs.Output.{has_written_of_eq}
use Rattle.cob_report_boxes.specs.Shown.{shown_character}
use Rattle.cob_report_boxes.proofs.WrittenLemmas.{all_written, byte_left, each_of_map, more_written, no_texts_left, none_written}
use Rattle.cob_report_boxes.proofs.constants.write_digits.Goals as goal

pub loop-digit-init : goal.loop-digit-init
loop-digit-init g c = λ plain. none_written _ c.args.f.now (flat_map (λ (d : ℕ). shown_character (d + 48)) c.args.digits.now) plain

pub loop-digit-preserved : goal.loop-digit-preserved
loop-digit-preserved g c = λ plain.
    let text = (λ (d : ℕ). shown_character (d + 48)) in
    let i = c.loop-digit.digit-index in
    let so_far = c.loop-digit.invariant plain in
    let wrote = so_far.1 in
    more_written _ c.args.f.now c.loop-digit.f c.write_character.new.f (flat_map text c.args.digits.now) (flat_map text (drop i c.args.digits.now)) (text (get_or c.args.digits.now i 0))
    (flat_map text (drop (i + 1) c.args.digits.now)) so_far (byte_left text c.args.digits.now i c.loop-digit-test.true) (search rules)

pub returns : goal.returns
returns g c = λ plain _.
    let text = (λ (d : ℕ). shown_character (d + 48)) in
    has_written_of_eq _ _ _ _ _ (sym (each_of_map (λ (d : ℕ). d + 48) shown_character c.args.digits.now))
    (all_written _ c.args.f.now c.loop-digit.f (flat_map text c.args.digits.now) (flat_map text (drop c.loop-digit.digit-index c.args.digits.now))
    (c.loop-digit.invariant plain) (no_texts_left text c.args.digits.now c.loop-digit.digit-index c.loop-digit-test.false))
