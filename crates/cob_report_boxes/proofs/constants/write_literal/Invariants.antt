-- The characters so far.
use Rattle.std.proofs.Common.{drop, ℕ}
use Rattle.std.specs.List.{flat_map}
use Rattle.std.specs.Fmt.{IsPlainFormatter}
use Rattle.cob_report_show.specs.Constants.{literal_character}
use Rattle.cob_report_boxes.specs.Shown.{shown}
use Rattle.cob_report_boxes.proofs.WrittenLemmas.{WroteSoFar}
use Rattle.cob_report_boxes.proofs.constants.write_literal.Given as goal

abbrev pub invariant-loop-character : goal.invariant-loop-character
invariant-loop-character g l =
    IsPlainFormatter l.fn.f
    → WroteSoFar g.W.Write.write_str_gives l.fn.f (flat_map (λ (k : ℕ). shown (literal_character k)) l.text) (flat_map (λ (k : ℕ). shown (literal_character k)) (drop l.character-index l.text)) l.f
