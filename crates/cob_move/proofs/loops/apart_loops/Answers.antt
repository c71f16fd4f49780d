use Rattle.std.proofs.Common.{inl}
use Rattle.cob_source.specs.Tokens.{lexemes}
use Rattle.cob_move.proofs.LoopLemmas.{clash_says}
use Rattle.cob_move.proofs.loops.apart_loops.Goals as goal

pub returns-in-Err-Clash-clause-fault : goal.returns-in-Err-Clash-clause-fault
returns-in-Err-Clash-clause-fault c =
    clash_says c.fault_of.result c.in-Err-Clash.line (lexemes c.args.body.now) c.fault_of.ensures.0 c.fault_of.ensures.1 (rw c.in-Err-Clash.field-0-is at c.in-Err-Clash.ensures.clash)

pub returns-in-Err-Memory-clause-fault : goal.returns-in-Err-Memory-clause-fault
returns-in-Err-Memory-clause-fault c = inl c.refused_memory.ensures
