use Rattle.std.proofs.Common.{rules, ap, ◌∙◌, map, ◌∷◌, []}
use Rattle.std.proofs.lemmas.List.{map-append}
use Rattle.cob_source.specs.Tokens.{lexemes}
use Rattle.cob_copybook_entries.proofs.Endings.{not_empty}
use Rattle.cob_copybook_conditions.specs.Names.{plain_span}
use Rattle.cob_copybook_conditions.proofs.SpanLemmas.{ends_found, ends_only, goes_on, no_left, stuck}
use Rattle.cob_copybook_conditions.proofs.spans.spans_of.Goals as goal

pub returns-in_default-clause-only : goal.returns-in_default-clause-only
returns-in_default-clause-only c =
    stuck (lexemes c.args.words.now) (lexemes c.loop-rest.rest.now) (map plain_span c.loop-rest.values.items) c.loop-rest.invariant (not_empty c.loop-rest.rest.now (search rules)) c.in_default.ensures.only

pub loop-rest-preserved : goal.loop-rest-preserved
loop-rest-preserved c =
    goes_on (lexemes c.args.words.now) (lexemes c.loop-rest.rest.now) (lexemes c.in-Some.more.now) (map plain_span c.loop-rest.values.items) (map plain_span c.push.new.self.items)
    (plain_span c.in-Some.value) c.loop-rest.invariant (not_empty c.loop-rest.rest.now (search rules)) c.in-Some.ensures.found c.in-Some.ensures.only
    (ap (map plain_span) c.in_ok-push.ensures.items ∙ map-append plain_span c.loop-rest.values.items (c.in-Some.value ∷ []))

pub returns-clause-found : goal.returns-clause-found
returns-clause-found c =
    ends_found (lexemes c.args.words.now) (lexemes c.loop-rest.rest.now) (map plain_span c.loop-rest.values.items) c.loop-rest.invariant (no_left c.loop-rest.rest.now (search rules))

pub returns-clause-only : goal.returns-clause-only
returns-clause-only c =
    ends_only (lexemes c.args.words.now) (lexemes c.loop-rest.rest.now) (map plain_span c.loop-rest.values.items) c.loop-rest.invariant (no_left c.loop-rest.rest.now (search rules))
