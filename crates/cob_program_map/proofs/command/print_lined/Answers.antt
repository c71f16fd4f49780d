use Rattle.cob_program_map.proofs.command.print_lined.Goals as goal

pub lines_of_deeds-requires : goal.lines_of_deeds-requires
lines_of_deeds-requires g c = record { prepared = (c.args.conversion.now.records, c.deeds.ensures.prepared) }
