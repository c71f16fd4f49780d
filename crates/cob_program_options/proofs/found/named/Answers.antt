use Rattle.std.proofs.Common.{ap, sym, option_map, is_some, ◌∙◌}
use Rattle.clap.specs.Words.{found_of}
use Rattle.clap.proofs.WalkLemmas.{first_value-rows}
use Rattle.cob_program_options.proofs.There.{is_there}
use Rattle.cob_program_options.proofs.found.named.Goals as goal

pub unwrap-requires : goal.unwrap-requires
unwrap-requires c =
    is_there (λ s. s.now) c.get_str.result (ap is_some (c.get_str.ensures ∙ first_value-rows (found_of c.args.options.now) c.args.name.now) ∙ c.requires)

pub returns : goal.returns
returns c = sym (first_value-rows (found_of c.args.options.now) c.args.name.now) ∙ sym c.get_str.ensures ∙ ap (option_map (λ s. s.now)) c.unwrap.ensures
