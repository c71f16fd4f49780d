-- The characters so far.
use Rattle.std.proofs.Common.{drop}
use Rattle.std.specs.List.{flat_map}
use Rattle.std.specs.Fmt.{IsPlainFormatter}
use Rattle.cob_report_boxes.specs.Shown.{shown_character}
use Rattle.cob_report_boxes.proofs.WrittenLemmas.{WroteSoFar}
use Rattle.cob_report_boxes.proofs.texts.write_shown.Given as goal

abbrev pub invariant-loop-character : goal.invariant-loop-character
invariant-loop-character g l =
    IsPlainFormatter l.fn.f
    → WroteSoFar g.W.Write.write_str_gives l.fn.f (flat_map shown_character l.characters) (flat_map shown_character (drop l.character-index l.characters)) l.f
