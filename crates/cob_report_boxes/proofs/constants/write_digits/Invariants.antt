-- The digits so far.
use Rattle.std.proofs.Common.{drop, ◌+◌, ℕ}
use Rattle.std.specs.List.{flat_map}
use Rattle.std.specs.Fmt.{IsPlainFormatter}
use Rattle.cob_report_boxes.specs.Shown.{shown_character}
use Rattle.cob_report_boxes.proofs.WrittenLemmas.{WroteSoFar}
use Rattle.cob_report_boxes.proofs.constants.write_digits.Given as goal

abbrev pub invariant-loop-digit : goal.invariant-loop-digit
invariant-loop-digit g l =
    IsPlainFormatter l.fn.f
    → WroteSoFar g.W.Write.write_str_gives l.fn.f (flat_map (λ (d : ℕ). shown_character (d + 48)) l.digits) (flat_map (λ (d : ℕ). shown_character (d + 48)) (drop l.digit-index l.digits)) l.f
