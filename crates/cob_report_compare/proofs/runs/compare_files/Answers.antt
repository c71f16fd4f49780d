use Rattle.std.proofs.Common.{rules, ◌∙◌, List, ap, map}
use Rattle.cob_convert_stream.specs.Reasons.{is_read_cause}
use Rattle.cob_report_show.specs.declared.named.ListedItem.{ListedItem}
use Rattle.cob_report_show.specs.Elements.{NamedItem, named_item}
use Rattle.cob_report_compare.specs.declared.files.FileSide.TheVariants.{Left, Right}
use Rattle.cob_report_compare.specs.Merged.{FilePair}
use Rattle.cob_report_compare.specs.Runs.{files_of}
use Rattle.cob_report_compare.proofs.RunLemmas.{as_counted, none_failed, none_unprinted, reads_as, unread, writes_as}
use Rattle.cob_report_compare.proofs.runs.compare_files.Goals as goal

pub returns-in_err-room-clause-compares : goal.returns-in_err-room-clause-compares
returns-in_err-room-clause-compares g c = unread (files_of c.args.layout.now c.args.options) _ _ _ c.from_residual.result (search rules)

pub returns-in_err-room-clause-left_reads : goal.returns-in_err-room-clause-left_reads
returns-in_err-room-clause-left_reads g c = none_failed Left is_read_cause c.from_residual.result _ (search rules)

pub returns-in_err-room-clause-right_reads : goal.returns-in_err-room-clause-right_reads
returns-in_err-room-clause-right_reads g c = none_failed Right is_read_cause c.from_residual.result _ (search rules)

pub returns-in_err-room-clause-writes : goal.returns-in_err-room-clause-writes
returns-in_err-room-clause-writes g c = none_unprinted c.from_residual.result _ (search rules)

pub returns-clause-compares : goal.returns-clause-compares
returns-clause-compares g c =
    let o = c.args.options in
    let like : FilePair = record { tree = c.args.layout.now; items = map named_item c.deref.result.now; keys = map named_item o.keys.now; by_bytes = o.by_bytes; most = o.most; left_form = o.left_form; right_form = o.right_form } in
    let items = ap (λ (xs : List ListedItem). map named_item xs) c.deref.ensures.value ∙ c.in_ok-room.ensures.items in
    as_counted (files_of c.args.layout.now o) like _ _ _ _ _ _ _ c.compare_merged-answer.result c.count_up.result
    (ap (λ (xs : List NamedItem). record { tree = c.args.layout.now; items = xs; keys = map named_item o.keys.now; by_bytes = o.by_bytes; most = o.most; left_form = o.left_form; right_form = o.right_form }) items)
    c.compare_merged-answer.ensures.merges c.count_up.ensures.counts

pub returns-clause-left_reads : goal.returns-clause-left_reads
returns-clause-left_reads g c = reads_as Left is_read_cause _ _ c.compare_merged-answer.result c.count_up.result _ _ c.count_up.ensures.counts c.compare_merged-answer.ensures.left_reads

pub returns-clause-right_reads : goal.returns-clause-right_reads
returns-clause-right_reads g c = reads_as Right is_read_cause _ _ c.compare_merged-answer.result c.count_up.result _ _ c.count_up.ensures.counts c.compare_merged-answer.ensures.right_reads

pub returns-clause-writes : goal.returns-clause-writes
returns-clause-writes g c = writes_as _ _ c.compare_merged-answer.result c.count_up.result _ _ _ c.count_up.ensures.counts c.compare_merged-answer.ensures.writes c.count_up.ensures.writes
