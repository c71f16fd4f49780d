use Rattle.std.proofs.Common.{rules, ap, sym, option_map, Option, false, codes, ◌≡◌, ◌∙◌}
use Rattle.std.specs.Option.{option_map_or}
use Rattle.std.specs.Str.{bytes_eq}
use Rattle.clap.specs.Words.{found_of, Text}
use Rattle.clap.proofs.WalkLemmas.{first_value-rows}
use Rattle.cob_program_options.proofs.found.flag.Goals as goal

abbrev is_true : Option Text → Rattle.std.specs.Prelude.Bool
is_true value = option_map_or (λ v. bytes_eq v (codes "true")) value false

pub returns-in-Some : goal.returns-in-Some
returns-in-Some c =
    let same : c.eq.result ≡ bytes_eq c.in-Some.value.now (codes "true") = search rules in
    same ∙ sym (ap is_true (sym (first_value-rows (found_of c.args.options.now) c.args.name.now) ∙ sym c.get_str.ensures ∙ ap (option_map (λ s. s.now)) c.in-Some.is))

pub returns-in-None : goal.returns-in-None
returns-in-None c =
    sym (ap is_true (sym (first_value-rows (found_of c.args.options.now) c.args.name.now) ∙ sym c.get_str.ensures ∙ ap (option_map (λ s. s.now)) c.in-None.is))
