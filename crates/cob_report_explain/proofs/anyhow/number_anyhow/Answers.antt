use Rattle.cob_report_explain.proofs.AnyhowLemmas.{refused_read, strictly_read}
use Rattle.cob_report_explain.proofs.anyhow.number_anyhow.Goals as goal

pub returns-then-gives_strictly : goal.returns-then-gives_strictly
returns-then-gives_strictly c =
    strictly_read c.args.reading c.args.item.now c.args.bytes.now (c.gives_strictly.ensures.0 c.if-gives_strictly.true)

pub returns-else-gives_strictly : goal.returns-else-gives_strictly
returns-else-gives_strictly c =
    refused_read c.args.reading c.args.item.now c.args.bytes.now c.gives_by.result c.gives_strictly.result c.requires.is c.gives_by.ensures c.gives_strictly.ensures c.if-gives_strictly.false
