use Rattle.std.proofs.Common.{◌≡◌, ℕ, List, nat_lt, get_or, length, sym, ap, ◌∙◌, arith, rules}
use Rattle.std.specs.List.{list_any}
use Rattle.cob_layout.specs.declared.fields.Place.{Place}
use Rattle.cob_report_cover.specs.Reaches.{AreReaches, begins_longer}
use Rattle.cob_report_cover.proofs.SweepLemmas.{left_next, mark_pushed, marked, nothing_below, passes_none}
use Rattle.cob_report_cover.proofs.sweep.swept.Goals as goal

pub loop-reach-init : goal.loop-reach-init
loop-reach-init c = record {
  long = ap length c.new-marks.ensures.items;
  marks = λ ps all o lt. absurd (let none : length c.new-marks.result.items ≡ 0 = ap length c.new-marks.ensures.items in omega (arith, none, lt));
  left = λ ps all n. nothing_below n ∙ sym (passes_none n ps);
}

pub loop-reach-preserved : goal.loop-reach-preserved
loop-reach-preserved c =
    let b : ℕ = c.loop-reach.reach-index in
    let reach : ℕ = get_or c.args.reaches.now b 0 in
    let own : (ps : List Place) → AreReaches ps c.args.reaches.now → (n : ℕ) → nat_lt n reach ≡ list_any (begins_longer b n) ps = λ ps all n. all b n c.loop-reach-test.true in
    record {
      long = search rules;
      marks = λ ps all o lt. mark_pushed ps c.loop-reach.marks.items c.push.new.self.items (nat_lt 0 c.longer-left.result) b (c.in_ok-push.ensures.items) c.loop-reach.invariant.long (c.loop-reach.invariant.marks ps all)
          (marked ps b c.loop-reach.left reach c.longer-left.result (c.loop-reach.invariant.left ps all) (own ps all) c.longer-left.ensures) o lt;
      left = λ ps all n. ap (nat_lt n) c.saturating_sub-left.ensures ∙ left_next ps b c.loop-reach.left reach c.longer-left.result (c.loop-reach.invariant.left ps all) (own ps all) c.longer-left.ensures n;
    }
