use Rattle.std.proofs.Common.{◌≡◌, take, false}
use Rattle.std.specs.List.{AllByRecursion}
use Rattle.cob_source_copies.specs.TextWords.{is_divider}
use Rattle.cob_source_copies.proofs.fragment.undivided_len.Given as goal

abbrev pub invariant-loop-at : goal.invariant-loop-at
invariant-loop-at l = AllByRecursion (λ b. is_divider b ≡ false) (take l.at l.text)
