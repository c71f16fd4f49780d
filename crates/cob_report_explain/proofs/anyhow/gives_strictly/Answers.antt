use Rattle.cob_codec.specs.Readings.{keeping_zones}
use Rattle.cob_report_explain.proofs.AnyhowLemmas.{strictly_gives}
use Rattle.cob_report_explain.proofs.anyhow.gives_strictly.Goals as goal

pub returns : goal.returns
returns c =
    strictly_gives c.keeping_zones.result (keeping_zones c.args.reading) c.args.item.now c.args.bytes.now c.gives_by.result c.keeping_zones.ensures c.gives_by.ensures
