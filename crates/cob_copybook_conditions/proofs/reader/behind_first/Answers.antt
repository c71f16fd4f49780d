use Rattle.cob_source.specs.Tokens.{lexemes}
use Rattle.cob_copybook_conditions.proofs.Loops.{in_first, in_none, shorter_still}
use Rattle.cob_copybook_conditions.proofs.reader.behind_first.Goals as goal

pub returns-in-Some-clause-within : goal.returns-in-Some-clause-within
returns-in-Some-clause-within c = shorter_still _ _ _ c.in-Some.ensures.found

pub returns-in-Some-clause-said : goal.returns-in-Some-clause-said
returns-in-Some-clause-said c = λ first ns. in_first first _ _ (lexemes c.in-Some.behind.now) ns c.in-Some.ensures.found

pub returns-in-None-clause-said : goal.returns-in-None-clause-said
returns-in-None-clause-said c = λ first ns. in_none first (lexemes c.args.words.now) ns c.in-None.ensures.none
