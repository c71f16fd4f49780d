use Rattle.std.proofs.Common.{inr}
use Rattle.cob_source.specs.Tokens.{lexemes}
use Rattle.cob_move.proofs.LoopLemmas.{grammar_refused}
use Rattle.cob_move.proofs.loops.check_grammar.Goals as goal

pub returns-in-Err-clause-fault : goal.returns-in-Err-clause-fault
returns-in-Err-clause-fault c = grammar_refused c.fault_of.result c.in-Err.line (lexemes c.args.body.now) c.fault_of.ensures.0 c.fault_of.ensures.1 (inr c.in-Err.ensures.line)
