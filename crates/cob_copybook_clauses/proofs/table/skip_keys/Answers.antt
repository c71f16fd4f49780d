use Rattle.cob_source.specs.Tokens.{lexemes}
use Rattle.cob_copybook_clauses.proofs.KeyLemmas.{ordered_goes, indexed_found, indexed_only, bare_found, bare_only}
use Rattle.cob_copybook_clauses.proofs.table.skip_keys.Goals as goal

pub loop-more-preserved : goal.loop-more-preserved
loop-more-preserved c = ordered_goes (lexemes c.args.words.now) (lexemes c.loop-more.rest.now) (lexemes c.in-Some.more.now) c.loop-more.invariant c.in-Some.ensures.found c.in-Some.ensures.only

pub returns-in-Some-behind_indexes-clause-found : goal.returns-in-Some-behind_indexes-clause-found
returns-in-Some-behind_indexes-clause-found c = indexed_found (lexemes c.args.words.now) (lexemes c.loop-more.rest.now) (lexemes c.in-Some-behind_indexes.more.now) c.loop-more.invariant c.in-Some-behind_indexes.ensures.found

pub returns-in-Some-behind_indexes-clause-only : goal.returns-in-Some-behind_indexes-clause-only
returns-in-Some-behind_indexes-clause-only c = indexed_only (lexemes c.args.words.now) (lexemes c.loop-more.rest.now) (lexemes c.in-Some-behind_indexes.more.now) c.loop-more.invariant c.in_default.ensures.only c.in-Some-behind_indexes.ensures.found c.in-Some-behind_indexes.ensures.only

pub returns-in-None-clause-found : goal.returns-in-None-clause-found
returns-in-None-clause-found c = bare_found (lexemes c.args.words.now) (lexemes c.loop-more.rest.now) c.loop-more.invariant

pub returns-in-None-clause-only : goal.returns-in-None-clause-only
returns-in-None-clause-only c = bare_only (lexemes c.args.words.now) (lexemes c.loop-more.rest.now) c.loop-more.invariant c.in_default.ensures.only c.in-None.ensures.only
