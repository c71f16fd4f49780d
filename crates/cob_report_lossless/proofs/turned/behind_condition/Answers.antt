use Rattle.cob_source.specs.Tokens.{lexemes}
use Rattle.cob_report_lossless.specs.Turned.{found_condition, told_condition, told_lines}
use Rattle.cob_report_lossless.proofs.TurnedLemmas.{condition_told, no_condition_told}
use Rattle.cob_report_lossless.proofs.turned.behind_condition.Goals as goal

pub returns-clause-told : goal.returns-clause-told
returns-clause-told c =
    condition_told (told_condition c.args.kind (lexemes c.args.words.now)) (found_condition c.in-Some.one) c.args.flows.now (told_lines c.args.lines.now) (told_lines c.note_condition.new.lines)
    c.in-Some.ensures.found c.note_condition.ensures
