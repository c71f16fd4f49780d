use Rattle.cob_records_parts.proofs.chosen.Chosen.refilled.Given as goal
use Rattle.cob_records_parts.specs.Comings.{chosen_coming}

abbrev pub ghost-foretell : goal.ghost-foretell
ghost-foretell g a = chosen_coming g.R.Source.coming
