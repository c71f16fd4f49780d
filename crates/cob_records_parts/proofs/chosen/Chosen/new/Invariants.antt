use Rattle.cob_records_parts.proofs.chosen.Chosen.new.Given as goal

abbrev pub ghost-foretell : goal.ghost-foretell
ghost-foretell g a = g.R.Source.coming
