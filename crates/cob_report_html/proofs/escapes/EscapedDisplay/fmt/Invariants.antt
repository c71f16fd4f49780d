use Rattle.std.proofs.Common.{◌≡◌, ℕ, List, ◌++◌, encode_utf8_all}
use Rattle.std.specs.Fmt.{HasWritten, IsPlainFormatter}
use Rattle.std.specs.Str.{chars, IsUtf8}
use Rattle.cob_report_html.specs.Escapes.{written_text}
use Rattle.cob_report_html.proofs.escapes.EscapedDisplay.fmt.Given as goal

abbrev pub invariant-loop-character : goal.invariant-loop-character
invariant-loop-character g l =
    IsUtf8 l.character-iterator.rest.now
    × (IsPlainFormatter l.fn.f
    → (done : List ℕ) × HasWritten g.W.Write.write_str_gives l.fn.f done l.f
    × (done ++ encode_utf8_all (written_text (chars l.character-iterator.rest.now)) ≡ encode_utf8_all (written_text (chars l.fn.self.text.now))))
