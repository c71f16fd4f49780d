use Rattle.std.proofs.Common.{rules, drop, get_or, ◌+◌, ℕ, sym}
use Rattle.std.specs.List.{flat_map}
use Rattle.std.proofs.Output.{has_written_of_eq}
use Rattle.cob_report_show.specs.Constants.{literal_character}
use Rattle.cob_report_boxes.specs.Shown.{shown}
use Rattle.cob_report_boxes.proofs.WrittenLemmas.{all_written, byte_left, more_written, no_texts_left, none_written, shown_each}
use Rattle.cob_report_boxes.proofs.constants.write_literal.Goals as goal

pub loop-character-init : goal.loop-character-init
loop-character-init g c = λ plain. none_written _ c.args.f.now (flat_map (λ (k : ℕ). shown (literal_character k)) c.args.text.now) plain

pub loop-character-preserved : goal.loop-character-preserved
loop-character-preserved g c = λ plain.
    let text = (λ (k : ℕ). shown (literal_character k)) in
    let i = c.loop-character.character-index in
    let so_far = c.loop-character.invariant plain in
    let wrote = so_far.1 in
    more_written _ c.args.f.now c.loop-character.f c.write_literal_character.new.f (flat_map text c.args.text.now) (flat_map text (drop i c.args.text.now)) (text (get_or c.args.text.now i 0))
    (flat_map text (drop (i + 1) c.args.text.now)) so_far (byte_left text c.args.text.now i c.loop-character-test.true) (search rules)

pub returns : goal.returns
returns g c = λ plain _.
    let text = (λ (k : ℕ). shown (literal_character k)) in
    has_written_of_eq _ _ _ _ _ (sym (shown_each literal_character c.args.text.now))
    (all_written _ c.args.f.now c.loop-character.f (flat_map text c.args.text.now) (flat_map text (drop c.loop-character.character-index c.args.text.now))
    (c.loop-character.invariant plain) (no_texts_left text c.args.text.now c.loop-character.character-index c.loop-character-test.false))
