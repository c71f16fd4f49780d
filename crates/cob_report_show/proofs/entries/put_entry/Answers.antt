use Rattle.std.proofs.Common.{ap, sym, ◌∙◌}
use Rattle.std.proofs.lemmas.Result.{err_from_is_err_and}
use Rattle.cob_copybook_conditions.specs.Names.{plain_condition_names}
use Rattle.cob_copybook_tree.specs.declared.node.Node.TheViews.{out-Node}
use Rattle.cob_copybook_tree.specs.Nodes.{node}
use Rattle.cob_report_show.specs.Conditions.{name_lines}
use Rattle.cob_report_show.specs.Entries.{entry_line}
use Rattle.cob_report_show.proofs.EntryLemmas.{number_out}
use Rattle.cob_report_show.proofs.TextLemmas.{both_sent, first_cut}
use Rattle.cob_report_show.proofs.entries.put_entry.Goals as goal

pub returns-in_err-put-clause-lines : goal.returns-in_err-put-clause-lines
returns-in_err-put-clause-lines g c =
    let n = c.args.entry.now in
    let p = err_from_is_err_and c.from_residual.result c.from_residual.ensures.1 in
    rw p.1 (first_cut c.as_slice.result.now (entry_line c.args.layout.now (node n).top) (name_lines (plain_condition_names c.args.names.now) (node n).top.number)
    c.args.sent.now c.put.new.sent c.in_err-put.field-0.0 _ _ (c.as_slice.ensures.value ∙ c.line_of.ensures.text) c.in_err-put.ensures.lines)

pub returns-clause-lines : goal.returns-clause-lines
returns-clause-lines g c =
    let n = c.args.entry.now in
    let names = plain_condition_names c.args.names.now in
    both_sent c.as_slice.result.now (name_lines names (out-Node n).number) (entry_line c.args.layout.now (node n).top) (name_lines names (node n).top.number)
    c.args.sent.now c.put.new.sent c.put_names.new.sent c.put_names.result _ _ _ (c.as_slice.ensures.value ∙ c.line_of.ensures.text) (ap (name_lines names) (sym (number_out n)))
    c.in_ok-put.ensures.lines c.put_names.ensures.lines
