use Rattle.std.proofs.lemmas.Result.{err_from_is_err_and}
use Rattle.cob_report_lossless.proofs.LineLemmas.{left_next, left_split, lines_next, none_behind}
use Rattle.cob_report_lossless.proofs.lines.all_lines.Goals as goal

pub loop-run-preserved : goal.loop-run-preserved
loop-run-preserved c = record {
  found = lines_next c.args.runs.now c.loop-run.run-index c.run-item.result c.loop-run.lines.items c.in_ok-own.own.items c.append.new.self.items c.loop-run-test.true c.run-item.is c.loop-run.invariant.found c.in_ok-own.ensures.found c.in_ok-append.ensures.items;
  left = λ lines are. left_next c.args.runs.now c.loop-run.run-index c.run-item.result c.loop-run.lines.items c.in_ok-own.own.items c.append.new.self.items lines c.loop-run-test.true c.run-item.is c.in_ok-append.ensures.items
      (λ ls a. (c.in_ok-own.ensures.only ls a).0) (c.loop-run.invariant.left lines are);
}

pub returns-in_err-own-clause-only : goal.returns-in_err-own-clause-only
returns-in_err-own-clause-only c = λ lines are.
    let (own, rest, mine, others, e) = left_split c.args.runs.now c.loop-run.run-index c.run-item.result c.loop-run.lines.items lines c.loop-run-test.true c.run-item.is (c.loop-run.invariant.left lines are) in
    let p = err_from_is_err_and c.from_residual.result c.from_residual.ensures.1 in
    rw (p.1, p.2) (tt, (c.in_err-own.ensures.only own mine).1)

pub returns-clause-only : goal.returns-clause-only
returns-clause-only c = λ lines are. (none_behind c.args.runs.now c.loop-run.run-index c.loop-run.lines.items lines c.loop-run-test.false (c.loop-run.invariant.left lines are), tt)
