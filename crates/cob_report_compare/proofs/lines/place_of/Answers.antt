use Rattle.std.proofs.Common.{arith, codes}
use Rattle.cob_report_compare.proofs.PrintLemmas.{not_empty}
use Rattle.cob_report_compare.proofs.lines.place_of.Goals as goal

pub returns-clause-some : goal.returns-clause-some
returns-clause-some c = not_empty c.push_text-2.new.line.items (codes ": ") c.push_text-3.new.line.items c.push_text-3.ensures.text (omega arith)
