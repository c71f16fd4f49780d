use Rattle.std.proofs.Common.{List, ℕ, subst, sym}
use Rattle.cob_copybook_conditions.specs.Names.{plain_condition_name}
use Rattle.cob_records.specs.Device.{Took}
use Rattle.cob_report_show.specs.Sent.{SendsText}
use Rattle.cob_report_show.proofs.ConditionLemmas.{line_behind, no_line_behind}
use Rattle.cob_report_show.proofs.TextLemmas.{nothing_sent}
use Rattle.cob_report_show.proofs.conditions.put_name_of.Goals as goal

pub returns-then-name-number-clause-lines : goal.returns-then-name-number-clause-lines
returns-then-name-number-clause-lines g c =
    subst (λ (text : List ℕ). Took (g.W.Sink.taken c.args.sink.now) (g.W.Sink.taken c.put_name.new.sink) (SendsText text c.args.sent.now c.put_name.new.sent c.put_name.result))
    (sym (line_behind c.args.number (plain_condition_name c.args.name.now) c.if-name-number.true)) c.put_name.ensures.lines

pub returns-clause-lines : goal.returns-clause-lines
returns-clause-lines g c =
    nothing_sent _ c.args.sent.now _ (no_line_behind c.args.number (plain_condition_name c.args.name.now) c.if-name-number.false)
