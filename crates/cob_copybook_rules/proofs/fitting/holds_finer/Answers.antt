use Rattle.std.proofs.Common.{◌≡◌, ◌<◌, length, arith}
use Rattle.std.proofs.lemmas.Bool.Decides.{nat_tests}
use Rattle.cob_copybook_rules.proofs.FittingLemmas.{within, is_within, few_finer, none_finer, fits_finer}
use Rattle.cob_copybook_rules.proofs.fitting.holds_finer.Goals as goal

pub returns-then-is_empty : goal.returns-then-is_empty
returns-then-is_empty c =
    let none : length c.args.digits.now ≡ 0 = grind (arith, nat_tests) in
    (λ h. none_finer c.args.digits.now c.args.zeros c.args.room none, λ h. c.if-is_empty.true)

pub returns-else-is_empty : goal.returns-else-is_empty
returns-else-is_empty c =
    let some : 0 < length c.args.digits.now = grind (arith, nat_tests) in (
      λ h. few_finer c.args.digits.now c.args.zeros c.args.room c.requires.digits (within _ _ h),
      λ few. is_within _ _ (fits_finer c.args.digits.now c.args.zeros c.args.room c.requires.first some few),
    )
