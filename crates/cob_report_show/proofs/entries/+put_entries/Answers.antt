use Rattle.std.proofs.Common.{rules, ◌+◌}
use Rattle.std.proofs.lemmas.Result.{err_from_is_err_and}
use Rattle.cob_copybook_conditions.specs.Names.{plain_condition_names}
use Rattle.cob_copybook_tree.specs.Nodes.{tree_of}
use Rattle.cob_layout_places.proofs.ForestLemmas.{left}
use Rattle.cob_report_show.specs.Entries.{lines_among}
use Rattle.cob_report_show.proofs.EntryLemmas.{lines_left}
use Rattle.cob_report_show.proofs.TextLemmas.{cut_text, more_text}
use Rattle.cob_report_show.proofs.entries.+put_entries.Goals as goal

pub loop-child-preserved : goal.loop-child-preserved
loop-child-preserved g t c =
    let lines = lines_among c.args.layout.now (plain_condition_names c.args.names.now) in
    let children = c.deref-child-items.result.now in
    let k = c.loop-child.child-index in
    let child = c.child-item.result in
    record {
      so_far = more_text (lines (tree_of c.args.entry.now)) (lines (left children k)) (lines (tree_of child)) (lines (left children (k + 1)))
          c.args.sent.now c.loop-child.sent c.put_entries.new.sent _ _ _ c.loop-child.invariant.so_far
          (lines_left c.args.layout.now (plain_condition_names c.args.names.now) children k child c.loop-child-test.true c.child-item.is) c.in_ok-put_entries.ensures.lines;
      writes = search rules;
      errors = search rules;
    }

pub returns-in_err-put_entries-clause-lines : goal.returns-in_err-put_entries-clause-lines
returns-in_err-put_entries-clause-lines g t c =
    let lines = lines_among c.args.layout.now (plain_condition_names c.args.names.now) in
    let children = c.deref-child-items.result.now in
    let k = c.loop-child.child-index in
    let child = c.child-item.result in
    let p = err_from_is_err_and c.from_residual-in_err-put_entries.result c.from_residual-in_err-put_entries.ensures.1 in
    rw p.1 (cut_text (lines (tree_of c.args.entry.now)) (lines (left children k)) (lines (tree_of child)) (lines (left children (k + 1)))
    c.args.sent.now c.loop-child.sent c.put_entries.new.sent c.in_err-put_entries.field-0.0 _ _ _ c.loop-child.invariant.so_far
    (lines_left c.args.layout.now (plain_condition_names c.args.names.now) children k child c.loop-child-test.true c.child-item.is) c.in_err-put_entries.ensures.lines)
