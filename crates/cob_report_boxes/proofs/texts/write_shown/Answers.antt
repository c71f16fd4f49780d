use Rattle.std.proofs.Common.{rules, drop, get_or, ◌+◌}
use Rattle.std.specs.List.{flat_map}
use Rattle.cob_report_boxes.specs.Shown.{shown_character}
use Rattle.cob_report_boxes.proofs.WrittenLemmas.{all_written, byte_left, more_written, no_texts_left, none_written}
use Rattle.cob_report_boxes.proofs.texts.write_shown.Goals as goal

pub loop-character-init : goal.loop-character-init
loop-character-init g c = λ plain. none_written _ c.args.f.now (flat_map shown_character c.args.characters.now) plain

pub loop-character-preserved : goal.loop-character-preserved
loop-character-preserved g c = λ plain.
    let text = shown_character in
    let i = c.loop-character.character-index in
    let so_far = c.loop-character.invariant plain in
    let wrote = so_far.1 in
    more_written _ c.args.f.now c.loop-character.f c.write_character.new.f (flat_map text c.args.characters.now) (flat_map text (drop i c.args.characters.now)) (text (get_or c.args.characters.now i 0))
    (flat_map text (drop (i + 1) c.args.characters.now)) so_far (byte_left text c.args.characters.now i c.loop-character-test.true) (search rules)

pub returns : goal.returns
returns g c = λ plain _.
    let text = shown_character in
    all_written _ c.args.f.now c.loop-character.f (flat_map text c.args.characters.now) (flat_map text (drop c.loop-character.character-index c.args.characters.now))
    (c.loop-character.invariant plain) (no_texts_left text c.args.characters.now c.loop-character.character-index c.loop-character-test.false)
