use Rattle.std.proofs.Common.{◌≡◌, ℕ, List, [], take, ap, sym, ◌∙◌, arith}
use Rattle.cob_source.specs.declared.token.Cell.{Cell}
use Rattle.cob_source.specs.Lines.{trim_end}
use Rattle.cob_source.proofs.Trims.{take_blank, take_other}
use Rattle.cob_source.proofs.joined.drop_end.Goals as goal
use Rattle.cob_source.proofs.joined.drop_end.Goals.{else-loop-end-test, then-loop-end-test+then-index-ne32}

at_zero : (n : ℕ) (xs ys : List Cell) → n ≡ 0 → trim_end (take n xs) ≡ ys → take n xs ≡ ys
at_zero n xs ys z e = let h : take n xs ≡ [] = ap (λ (n : ℕ). take n xs) z in h ∙ ap trim_end (sym h) ∙ e

pub loop-end-preserved : goal.loop-end-preserved
loop-end-preserved c = record {
  within = omega arith;
  same = sym (take_blank c.args.cells.now.items c.loop-end.end c.index.result.now (omega arith) c.loop-end.invariant.within (ap (λ (c : Cell). c.byte) (sym c.index.ensures) ∙ c.if-index-ne32.false)) ∙ c.loop-end.invariant.same;
}

pub returns : goal.returns
returns c =
    c.truncate.ensures.items ∙
    elim c.loop-end-test.branch [
      | else-loop-end-test w ↦ at_zero c.loop-end.end _ _ (omega arith) c.loop-end.invariant.same
      | then-loop-end-test+then-index-ne32 w ↦ sym (take_other c.args.cells.now.items c.loop-end.end w.index.result.now (omega arith) c.loop-end.invariant.within (λ e. w.if-index-ne32.true (ap (λ (c : Cell). c.byte) w.index.ensures ∙ e))) ∙ c.loop-end.invariant.same
    ]
