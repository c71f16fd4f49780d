use Rattle.std.proofs.Common.{rules}
use Rattle.cob_source.specs.Tokens.{lexemes}
use Rattle.cob_copybook_clauses.specs.Entries.{bare}
use Rattle.cob_copybook_clauses.specs.Reading.{clause_of}
use Rattle.cob_copybook_clauses.specs.Written.{written_clauses}
use Rattle.cob_copybook_clauses.proofs.EntryLemmas.{goes_on, ends_found, ends_only, stuck, twice, shorter, some_words, no_words}
use Rattle.cob_copybook_clauses.proofs.entry.clauses_of.Goals as goal

pub returns-in_err-phrase-clause-only : goal.returns-in_err-phrase-clause-only
returns-in_err-phrase-clause-only c = λ g says. absurd (stuck (lexemes c.args.words.now) (lexemes c.loop-rest.rest.now) bare (written_clauses c.loop-rest.clauses) c.loop-rest.invariant (some_words c.loop-rest.rest.now (search rules)) c.in_err-phrase.ensures.only g says)

pub returns-in_err-clauses-clause-only : goal.returns-in_err-clauses-clause-only
returns-in_err-clauses-clause-only c = λ g says.
    absurd (twice (lexemes c.args.words.now) (lexemes c.loop-rest.rest.now) bare (written_clauses c.loop-rest.clauses) (clause_of c.in_ok-phrase.phrase) (lexemes c.in_ok-phrase.more.now) c.loop-rest.invariant (some_words c.loop-rest.rest.now (search rules)) c.in_ok-phrase.ensures.only c.in_err-clauses.ensures.only g says)

pub loop-rest-smaller : goal.loop-rest-smaller
loop-rest-smaller c = shorter (clause_of c.in_ok-phrase.phrase) (lexemes c.loop-rest.rest.now) (lexemes c.in_ok-phrase.more.now) c.in_ok-phrase.ensures.found

pub loop-rest-preserved : goal.loop-rest-preserved
loop-rest-preserved c = goes_on (lexemes c.args.words.now) (lexemes c.loop-rest.rest.now) bare (written_clauses c.loop-rest.clauses) (written_clauses c.in_ok-clauses.clauses) (clause_of c.in_ok-phrase.phrase) (lexemes c.in_ok-phrase.more.now) c.loop-rest.invariant (some_words c.loop-rest.rest.now (search rules)) c.in_ok-phrase.ensures.found c.in_ok-phrase.ensures.only c.in_ok-clauses.ensures.found

pub returns-clause-found : goal.returns-clause-found
returns-clause-found c = ends_found (lexemes c.args.words.now) (lexemes c.loop-rest.rest.now) bare (written_clauses c.loop-rest.clauses) c.loop-rest.invariant (no_words c.loop-rest.rest.now (search rules))

pub returns-clause-only : goal.returns-clause-only
returns-clause-only c = ends_only (lexemes c.args.words.now) (lexemes c.loop-rest.rest.now) bare (written_clauses c.loop-rest.clauses) c.loop-rest.invariant (no_words c.loop-rest.rest.now (search rules))
