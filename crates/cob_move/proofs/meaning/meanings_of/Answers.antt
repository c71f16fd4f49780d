use Rattle.std.proofs.Common.{inr, ap, arith, length, [], ◌∷◌}
use Rattle.std.proofs.lemmas.List.{length-append}
use Rattle.std.proofs.lemmas.Result.{err_from_is_err_and}
use Rattle.cob_move_tests.specs.Entries.{records_of}
use Rattle.cob_move.specs.Refusals.{BreaksOn}
use Rattle.cob_move_names.specs.Directory.{entries_named}
use Rattle.cob_move_statements.specs.Written.{written_statement}
use Rattle.cob_move.proofs.MeaningLemmas.{meanings_all, meanings_more}
use Rattle.cob_move.proofs.SomeLemmas.{some_here, some_later}
use Rattle.cob_move.proofs.meaning.meanings_of.Goals as goal

pub returns-in_err-own-clause-fault : goal.returns-in_err-own-clause-fault
returns-in_err-own-clause-fault c =
    let p = err_from_is_err_and c.from_residual-in_err-own.result c.from_residual-in_err-own.ensures.1 in
    rw (p.1, p.2)
    (inr (c.loop-statement.invariant.broken c.in_err-own.field-0.0
    (some_here written_statement (BreaksOn c.in_err-own.field-0.0 (entries_named c.args.entries.now.names.now) c.args.entries.now.input.now c.args.entries.now.output.now) c.args.statements.now c.loop-statement.statement-index
    c.statement-item.result c.loop-statement-test.true c.statement-item.is c.in_err-own.ensures.fault)))

pub loop-statement-preserved : goal.loop-statement-preserved
loop-statement-preserved c = record {
  found = meanings_more (records_of c.args.entries.now) (entries_named c.args.entries.now.names.now) c.args.entries.now.input.now c.args.entries.now.output.now c.args.statements.now c.loop-statement.statement-index c.statement-item.result
      c.loop-statement.list.items c.push.new.self.items c.in_ok-own.own c.loop-statement-test.true c.statement-item.is c.in_ok-push.ensures.items c.in_ok-own.ensures.found c.loop-statement.invariant.found;
  broken = λ f h. c.loop-statement.invariant.broken f
      (some_later written_statement (BreaksOn f (entries_named c.args.entries.now.names.now) c.args.entries.now.input.now c.args.entries.now.output.now) c.args.statements.now c.loop-statement.statement-index c.statement-item.result
      c.loop-statement-test.true c.statement-item.is h);
  many = omega (arith, c.loop-statement.invariant.many, ap length c.in_ok-push.ensures.items, length-append c.loop-statement.list.items (c.in_ok-own.own ∷ []));
  pairs = c.in_ok-own.ensures.pairs;
}

pub returns-clause-found : goal.returns-clause-found
returns-clause-found c =
    meanings_all (records_of c.args.entries.now) (entries_named c.args.entries.now.names.now) c.args.entries.now.input.now c.args.entries.now.output.now c.args.statements.now c.loop-statement.statement-index c.loop-statement.list.items
    c.loop-statement-test.false c.loop-statement.invariant.found
