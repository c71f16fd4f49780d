use Rattle.cob_report_explain.proofs.AnyhowLemmas.{read_gives}
use Rattle.cob_report_explain.proofs.anyhow.gives_by.Goals as goal

pub returns : goal.returns
returns c =
    read_gives c.args.reading c.args.item.now c.args.bytes.now c.read_sent.result (λ v. v.negative) (λ v. v.digits) c.is_some.result c.is_some.ensures c.read_sent.ensures.found
    c.read_sent.ensures.only
