use Rattle.std.proofs.Common.{◌++◌, arith}
use Rattle.std.proofs.lemmas.Result.{err_from_is_err_and}
use Rattle.std.proofs.lemmas.Grind.{common_steps}
use Rattle.cob_source.specs.Tokens.{lexemes}
use Rattle.cob_source.proofs.AheadLemmas.{all_read, behind_front, nothing_left}
use Rattle.cob_source.proofs.ReadingLemmas.{finishes, refusal_end}
use Rattle.cob_source.proofs.ahead.WordsAhead.read.Goals as goal

pub returns-clause-read : goal.returns-clause-read
returns-clause-read c = λ text front is.
    let r = c.loop-self.invariant.read text front is in
    let f = c.in_ok-cut_joined.ensures.found in
    finishes text f.0 (front ++ lexemes c.cut_joined.new.out.items) r.read (all_read text c.loop-self.self.rest.now r.before r.lines_are (nothing_left c.loop-self.self.rest.now (grind (arith, common_steps)))) r.short
    c.in_ok-cut_joined.ensures.closed f.1 (behind_front front (lexemes c.loop-self.out.items) f.0 (lexemes c.cut_joined.new.out.items) f.2)

pub returns-in_err-is_enough-clause-refused : goal.returns-in_err-is_enough-clause-refused
returns-in_err-is_enough-clause-refused c =
    let p = err_from_is_err_and c.from_residual.result c.from_residual.ensures.1 in
    rw (p.1, p.2) (λ text front is. c.in_err-is_enough.ensures.refused text front (c.loop-self.invariant.read text front is))

pub returns-in_err-cut_joined-clause-refused : goal.returns-in_err-cut_joined-clause-refused
returns-in_err-cut_joined-clause-refused c =
    let p = err_from_is_err_and c.from_residual-in_err-cut_joined.result c.from_residual-in_err-cut_joined.ensures.1 in
    rw (p.1, p.2)
    (λ text front is.
    let r = c.loop-self.invariant.read text front is in
    refusal_end text _ _ r.read (all_read text c.loop-self.self.rest.now r.before r.lines_are (nothing_left c.loop-self.self.rest.now (grind (arith, common_steps)))) c.in_err-cut_joined.ensures.fault)
