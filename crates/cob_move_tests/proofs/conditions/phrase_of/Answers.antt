use Rattle.cob_source.specs.Tokens.{lexemes}
use Rattle.cob_move_tests.proofs.StepLemmas.{phrase_broken}
use Rattle.cob_move_tests.proofs.conditions.phrase_of.Goals as goal

pub returns-in-Err-clause-fault : goal.returns-in-Err-clause-fault
returns-in-Err-clause-fault c = phrase_broken (lexemes c.args.words.now) c.in-Err.fault c.in-Err.ensures.fault
