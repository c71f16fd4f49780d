use Rattle.std.proofs.Common.{rules, encode_utf8, encode_utf8_all, ℕ, List, ◌++◌, append-nil, append_assoc, ap, sym, ◌∙◌}
use Rattle.std.proofs.Output.{has_written_append, has_written_of_eq}
use Rattle.std.proofs.lemmas.List.{nil_from_length}
use Rattle.std.proofs.lemmas.Str.{chars-nil, IsUtf8-past_char}
use Rattle.cob_report_html.specs.Escapes.{written_text}
use Rattle.std.specs.Str.{chars}
use Rattle.cob_report_html.proofs.EscapeLemmas.{written_past}
use Rattle.cob_report_html.proofs.escapes.EscapedDisplay.fmt.Goals as goal

pub loop-character-preserved-in-Continue-1 : goal.loop-character-preserved-in-Continue-1
loop-character-preserved-in-Continue-1 g c =
    let utf8 = c.loop-character.invariant.0 in
    let steps = c.in-Some.ensures.steps.0 in (
      IsUtf8-past_char _ _ _ utf8 steps,
      λ plain.
          let now = c.loop-character.invariant.1 plain in (
            now.0 ++ c.in-Some-escape_of.escape.now,
            has_written_append _ _ _ _ _ _ now.1 (search rules),
            append_assoc now.0 _ _
                ∙ ap (λ (t : List ℕ). now.0 ++ t)
                (ap (λ (t : List ℕ). t ++ encode_utf8_all (written_text (chars c.next.new.self.rest.now))) (sym c.in-Some-escape_of.ensures.escape)
                ∙ written_past _ _ _ utf8 steps)
                ∙ now.2,
          ),
    )

pub loop-character-preserved : goal.loop-character-preserved
loop-character-preserved g c =
    let utf8 = c.loop-character.invariant.0 in
    let steps = c.in-Some.ensures.steps.0 in (
      IsUtf8-past_char _ _ _ utf8 steps,
      λ plain.
          let now = c.loop-character.invariant.1 plain in (
            now.0 ++ encode_utf8 c.in-Some.character,
            has_written_append _ _ _ _ _ _ now.1 (search rules),
            append_assoc now.0 _ _
                ∙ ap (λ (t : List ℕ). now.0 ++ t)
                (ap (λ (t : List ℕ). t ++ encode_utf8_all (written_text (chars c.next.new.self.rest.now))) (sym c.in-None-escape_of.ensures.plain)
                ∙ written_past _ _ _ utf8 steps)
                ∙ now.2,
          ),
    )

pub returns-clause-writes : goal.returns-clause-writes
returns-clause-writes g c = λ plain _.
    let now = c.loop-character.invariant.1 plain in
    let none = nil_from_length _ c.in-None.ensures.steps.0.0 in
    has_written_of_eq _ _ _ _ _ (rw (none, chars-nil, append-nil) at now.2) now.1
