use Rattle.std.proofs.Common.{◌∙◌, sym}
use Rattle.cob_report_explain.proofs.AnyhowLemmas.{no_number}
use Rattle.cob_report_explain.proofs.anyhow.read_anyhow.Goals as goal

pub returns-else-is_number : goal.returns-else-is_number
returns-else-is_number c =
    no_number c.args.reading c.args.item.now c.args.bytes.now (sym c.is_number.ensures ∙ c.if-is_number.false)
