use Rattle.std.proofs.Common.{sym, subst}
use Rattle.std.specs.List.{AllByRecursion}
use Rattle.cob_report_refusals.specs.Refused.{IsRefusedText}
use Rattle.cob_report_refusals.proofs.books.refusals_of_words.Goals as goal

pub returns-clause-each : goal.returns-clause-each
returns-clause-each c = λ role text refused are. c.behind_first.ensures.each role text refused (subst (AllByRecursion (IsRefusedText text)) (sym c.as_slice.ensures.value) (c.in_ok-found.ensures text are))
