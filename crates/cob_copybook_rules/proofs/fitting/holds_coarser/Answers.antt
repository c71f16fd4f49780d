use Rattle.std.proofs.Common.{◌≤◌, length, drop, sym, subst, ℕ, List, IsTrue}
use Rattle.std.specs.Prelude.{◌==◌}
use Rattle.std.specs.List.{list_all}
use Rattle.cob_decimal.proofs.DecimalLemmas.{all_zero}
use Rattle.cob_copybook_rules.proofs.FittingLemmas.{within, is_within, held_at, at_held}
use Rattle.cob_copybook_rules.proofs.fitting.holds_coarser.Goals as goal

pub returns-then-are_zeros-clause-yes : goal.returns-then-are_zeros-clause-yes
returns-then-are_zeros-clause-yes c = λ h.
    let ds = c.args.digits.now in
    let m = c.saturating_sub.result in
    let zeros = (all_zero (drop m ds)).0 (subst (λ (x : List ℕ). IsTrue (list_all (λ d. d == 0) x)) c.split_at.ensures.back (sym c.if-are_zeros.ensures)) in
    held_at ds m c.args.places c.args.room c.saturating_sub.ensures c.requires.digits zeros (subst (λ (x : List ℕ). length x ≤ c.args.room) c.split_at.ensures.front (within _ _ h))

pub returns-then-are_zeros-clause-must : goal.returns-then-are_zeros-clause-must
returns-then-are_zeros-clause-must c = λ held few same.
    let ds = c.args.digits.now in
    let m = c.saturating_sub.result in
    let all = at_held ds m c.args.places c.args.room c.saturating_sub.ensures c.requires.digits c.requires.first held few same in
    is_within _ _ (subst (λ (x : List ℕ). length x ≤ c.args.room) (sym c.split_at.ensures.front) all.0)

pub returns-else-are_zeros-clause-must : goal.returns-else-are_zeros-clause-must
returns-else-are_zeros-clause-must c = λ held few same.
    let ds = c.args.digits.now in
    let m = c.saturating_sub.result in
    let all = at_held ds m c.args.places c.args.room c.saturating_sub.ensures c.requires.digits c.requires.first held few same in
    rw (c.are_zeros.ensures, c.split_at.ensures.back) ((all_zero (drop m ds)).1 all.1)
