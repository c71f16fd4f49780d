use Rattle.std.proofs.Common.{rules, ap, sym, ◌∙◌, ◌∷◌, []}
use Rattle.std.proofs.lemmas.List.{map-append}
use Rattle.cob_source.specs.Tokens.{lexemes}
use Rattle.cob_copybook_conditions.specs.Names.{plain_condition_name, plain_condition_names}
use Rattle.cob_copybook_conditions.proofs.NameLemmas.{adds_name}
use Rattle.cob_copybook_conditions.proofs.reader.add_said.Goals as goal

pub returns-in_ok-push-in-Some : goal.returns-in_ok-push-in-Some
returns-in_ok-push-in-Some c =
    adds_name c.args.last (lexemes c.args.sentence.now) (plain_condition_name c.in-Some.name) (plain_condition_names c.args.names.now.items) (plain_condition_names c.push.new.self.items)
    (sym c.is_condition.ensures ∙ search rules) (rw c.in-Some.is at c.in_ok-name.ensures)
    (ap plain_condition_names c.in_ok-push-in-Some.ensures.items ∙ map-append plain_condition_name c.args.names.now.items (c.in-Some.name ∷ []))
