use Rattle.std.proofs.Common.{sym, ◌∙◌}
use Rattle.clap.specs.Words.{found_of}
use Rattle.clap.proofs.WalkLemmas.{first_value-rows}
use Rattle.cob_program_options.proofs.found.named_if_there.Goals as goal

pub returns : goal.returns
returns c = sym (first_value-rows (found_of c.args.options.now) c.args.name.now) ∙ sym c.get_str.ensures
