use Rattle.std.proofs.Common.{arith, ◌-◌, ◌<◌, ◌∙◌, ap, length}
use Rattle.cob_copybook_tree.specs.declared.node.Node.TheViews.{out-Node}
use Rattle.cob_report_show.proofs.EntryLemmas.{fewer_beneath, no_step, numbered_beneath, other_number, step_name, step_numbered}
use Rattle.cob_report_show.proofs.entries.+name_beneath.Goals as goal

pub count_up_to-count-requires : goal.count_up_to-count-requires
count_up_to-count-requires t c = record { numbered = (_, numbered_beneath c.args.entry.now c.deref.result.now c.deref.ensures.value c.requires.numbered) }

pub returns-then-count-eq0-clause-text : goal.returns-then-count-eq0-clause-text
returns-then-count-eq0-clause-text t c =
    no_step c.args.entry.now c.deref.result.now c.args.number c.count_up_to-count.result c.deref.ensures.value c.requires.numbered
    (other_number c.args.entry.now c.args.number c.if-entry-number.false) c.if-count-eq0.true c.count_up_to-count.ensures.next

pub name_beneath-requires : goal.name_beneath-requires
name_beneath-requires t c =
    let low : c.count_up_to-count.result - 1 < length (out-Node c.args.entry.now).children.items
    = omega (arith, c.count_up_to-count.ensures.within, ap length c.deref.ensures.value, c.if-count-eq0.false) in
    let fewer = fewer_beneath c.args.entry.now c.index.result.now _ (c.count_up_to-count.result - 1) low c.index.ensures in
    (omega (arith, fewer, c.decreases), step_numbered c.args.entry.now c.index.result.now _ (c.count_up_to-count.result - 1) c.requires.numbered low c.index.ensures)

pub returns-clause-text : goal.returns-clause-text
returns-clause-text t c =
    c.name_beneath.ensures.text
    ∙ step_name c.args.entry.now c.index.result.now _ c.deref.result.now c.args.number c.count_up_to-count.result c.deref.ensures.value c.requires.numbered
    (other_number c.args.entry.now c.args.number c.if-entry-number.false) (omega (arith, c.if-count-eq0.false)) c.count_up_to-count.ensures.within
    c.count_up_to-count.ensures.last c.count_up_to-count.ensures.next c.index.ensures
