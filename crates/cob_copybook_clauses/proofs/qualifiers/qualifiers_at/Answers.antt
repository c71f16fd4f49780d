use Rattle.std.proofs.Common.{◌∙◌}
use Rattle.std.proofs.lemmas.List.{length-map}
use Rattle.cob_source.specs.Tokens.{lexeme, lexemes}
use Rattle.cob_copybook_clauses.proofs.TableLemmas.{qualified_goes, qualified_ends, rest_fits}
use Rattle.cob_copybook_clauses.proofs.qualifiers.qualifiers_at.Goals as goal

pub loop-more-preserved : goal.loop-more-preserved
loop-more-preserved c = qualified_goes (lexemes c.args.words.now) (lexemes c.loop-more.rest.now) (lexemes c.in-Some.more.now) c.loop-more.invariant c.in-Some.ensures.found

pub front-requires : goal.front-requires
front-requires c = rest_fits c.args.words.now c.loop-more.rest.now c.loop-more.invariant.done c.loop-more.invariant.words_are

pub returns-clause-only : goal.returns-clause-only
returns-clause-only c = λ qs more are nf e.
    let r = qualified_ends (lexemes c.args.words.now) (lexemes c.loop-more.rest.now) c.loop-more.invariant c.in_default.ensures.only qs more are nf e in
    (c.front.ensures c.loop-more.invariant.done (lexemes c.loop-more.rest.now) c.loop-more.invariant.words_are (length-map c.loop-more.rest.now lexeme) ∙ r.0, r.1)
