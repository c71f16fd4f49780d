use Rattle.std.proofs.Common.{ℕ, List, ◌++◌, drop}
use Rattle.cob_report_html.specs.Tops.{AreTops}
use Rattle.cob_report_html.proofs.tops.tops_of.Given as goal

abbrev pub invariant-loop-next : goal.invariant-loop-next
invariant-loop-next l = (later : List ℕ) → AreTops l.end (drop l.next-index l.boxes) later → AreTops l.first l.boxes (l.tops.items ++ later)
