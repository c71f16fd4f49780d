use Rattle.cob_report_explain.proofs.explainer.deed_lines.Goals as goal

pub lines_of_deeds-requires : goal.lines_of_deeds-requires
lines_of_deeds-requires c = record { prepared = (c.args.conversion.now.records, c.deeds.ensures.prepared) }
