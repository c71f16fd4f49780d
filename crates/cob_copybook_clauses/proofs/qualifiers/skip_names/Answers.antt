use Rattle.cob_source.specs.Tokens.{lexemes}
use Rattle.cob_copybook_clauses.proofs.TableLemmas.{named_goes, named_ends}
use Rattle.cob_copybook_clauses.proofs.qualifiers.skip_names.Goals as goal

pub loop-more-preserved : goal.loop-more-preserved
loop-more-preserved c = named_goes (lexemes c.args.words.now) (lexemes c.loop-more.rest.now) (lexemes c.in-Some.more.now) c.loop-more.invariant c.in-Some.ensures.found

pub returns-clause-only : goal.returns-clause-only
returns-clause-only c = named_ends (lexemes c.args.words.now) (lexemes c.loop-more.rest.now) c.loop-more.invariant c.in_default.ensures.only
