use Rattle.std.proofs.Common.{inl, refl}
use Rattle.std.proofs.lemmas.Result.{err_from_is_err_and}
use Rattle.cob_source.specs.Tokens.{lexemes}
use Rattle.cob_move_loops.proofs.PassageLemmas.{none_left, some_left}
use Rattle.cob_move.proofs.LoopLemmas.{deep_refused, grammar_refused, long_refused}
use Rattle.cob_move.proofs.loops.check_passage.Goals as goal

pub returns-then-is_empty-clause-fault : goal.returns-then-is_empty-clause-fault
returns-then-is_empty-clause-fault c =
    grammar_refused c.fault_of.result 1 (lexemes c.args.body.now) c.fault_of.ensures.0 c.fault_of.ensures.1 (inl (none_left c.args.body.now c.is_empty.result c.is_empty.ensures c.if-is_empty.true, refl))

pub returns-then-not-is_shallow-clause-fault : goal.returns-then-not-is_shallow-clause-fault
returns-then-not-is_shallow-clause-fault c =
    deep_refused c.fault_of-then-not-is_shallow.result c.opening_line.result (lexemes c.args.body.now) c.is_shallow.result c.fault_of-then-not-is_shallow.ensures.0 c.fault_of-then-not-is_shallow.ensures.1 c.opening_line.ensures c.if-not-is_shallow.true c.is_shallow.ensures.1

pub returns-in_err-check_grammar-clause-fault : goal.returns-in_err-check_grammar-clause-fault
returns-in_err-check_grammar-clause-fault c =
    let p = err_from_is_err_and c.from_residual.result c.from_residual.ensures.1 in
    rw (p.1, p.2) c.in_err-check_grammar.ensures.fault

pub returns-then-not-is_few-clause-fault : goal.returns-then-not-is_few-clause-fault
returns-then-not-is_few-clause-fault c =
    let (p, is) = c.in_ok-check_grammar.ensures.found in
    long_refused c.fault_of-then-not-is_few.result c.opening_line-then-not-is_few.result (lexemes c.args.body.now) c.is_few.result p is c.fault_of-then-not-is_few.ensures.0 c.fault_of-then-not-is_few.ensures.1 c.opening_line-then-not-is_few.ensures c.if-not-is_few.true (c.is_few.ensures p is).1

pub returns-clause-found : goal.returns-clause-found
returns-clause-found c =
    let (p, is) = c.in_ok-check_grammar.ensures.found in
    record {
      passage = p;
      some = some_left c.args.body.now c.is_empty.result c.is_empty.ensures c.if-is_empty.false;
      says = is;
      shallow = c.is_shallow.ensures.0 c.if-not-is_shallow.false;
      few = (c.is_few.ensures p is).0 c.if-not-is_few.false;
    }
