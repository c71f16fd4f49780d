use Rattle.std.proofs.Common.{ℕ, List, take}
use Rattle.cob_move_loops.specs.Reading.{all_runs}
use Rattle.cob_report_lossless.specs.Lines.{AreRunLines}
use Rattle.cob_report_lossless.proofs.LineLemmas.{LinesLeft}
use Rattle.cob_report_lossless.proofs.lines.all_lines.Given as goal

abbrev pub invariant-loop-run : goal.invariant-loop-run
invariant-loop-run l = record {
  found : AreRunLines (all_runs (take l.run-index l.runs)) l.lines.items;
  left : (lines : List ℕ) → AreRunLines (all_runs l.runs) lines → LinesLeft l.runs l.run-index l.lines.items lines;
}
