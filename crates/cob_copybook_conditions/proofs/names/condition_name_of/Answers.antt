use Rattle.std.proofs.Common.{◌≡◌, ◌==◌, true, false, length, sym, ◌∙◌, map, arith}
use Rattle.std.proofs.lemmas.Bool.{eqb-false, eqb-true}
use Rattle.cob_source.specs.Tokens.{lexemes}
use Rattle.cob_copybook_conditions.specs.Names.{plain_span}
use Rattle.cob_copybook_conditions.proofs.NameLemmas.{list_there, named_of, named_values, no_values, some_values, values_there}
use Rattle.cob_copybook_conditions.proofs.names.condition_name_of.Goals as goal

pub returns-in_default : goal.returns-in_default
returns-in_default c = λ n h. c.in_default.ensures.only h.written.name h.is.up_to_value.more (named_of c.args.last (lexemes c.args.sentence.now) n h)

pub returns-in_default-2 : goal.returns-in_default-2
returns-in_default-2 c = λ n h.
    rw c.in_default-2.is at (c.in_ok-values.ensures.only n.values
    (list_there c.args.last (lexemes c.args.sentence.now) (lexemes c.in-Some.more.now) (lexemes c.without_is_or_are.result.now) c.in-Some.name n c.in-Some.ensures.found h c.without_is_or_are.ensures.only))

pub returns-then-is_empty : goal.returns-then-is_empty
returns-then-is_empty c = λ n h.
    let found = rw c.in-Some-2.is at (c.in_ok-values.ensures.only n.values
    (list_there c.args.last (lexemes c.args.sentence.now) (lexemes c.in-Some.more.now) (lexemes c.without_is_or_are.result.now) c.in-Some.name n c.in-Some.ensures.found h c.without_is_or_are.ensures.only)) in
    let is : (c.in-Some-2.values.len == 0) ≡ true = sym c.is_empty.ensures ∙ c.if-is_empty.true in
    let none : length c.in-Some-2.values.items ≡ 0 = omega (arith, eqb-true c.in-Some-2.values.len 0 is, c.in-Some-2.values.ok.0) in
    some_values c.args.last (lexemes c.args.sentence.now) n h (sym found ∙ no_values c.in-Some-2.values.items none)

pub returns : goal.returns
returns c =
    let is : (c.in-Some-2.values.len == 0) ≡ false = sym c.is_empty.ensures ∙ c.if-is_empty.false in
    let some : length c.in-Some-2.values.items ≡ 0 → ⊥ = λ none. eqb-false c.in-Some-2.values.len 0 is (omega (arith, none, c.in-Some-2.values.ok.0)) in
    named_values c.args.last (lexemes c.args.sentence.now) (lexemes c.in-Some.more.now) (lexemes c.without_is_or_are.result.now) c.in-Some.name (map plain_span c.in-Some-2.values.items)
    c.in-Some.ensures.found c.without_is_or_are.ensures.found (rw c.in-Some-2.is at c.in_ok-values.ensures.found) (values_there c.in-Some-2.values.items some)
