use Rattle.std.proofs.Common.{not, length, false, ap, sym, arith}
use Rattle.std.proofs.lemmas.List.Sums.{prefix_len_is}
use Rattle.cob_report_html.proofs.runs.bare_length.Goals as goal

pub returns-then-covered : goal.returns-then-covered
returns-then-covered c =
    sym (prefix_len_is not c.args.covered.now c.loop-at.at false (omega arith) (λ k below. ap not (c.loop-at.invariant k below)) (λ within. ap not c.if-covered.true))

pub returns : goal.returns
returns c =
    sym (prefix_len_is not c.args.covered.now (length c.args.covered.now) false (omega arith)
    (λ k below. ap not (c.loop-at.invariant k (omega arith))) (λ within. absurd (omega arith)))
