use Rattle.std.proofs.Common.{◌≡◌, ◌+◌, drop}
use Rattle.std.specs.Prelude.{◌==◌}
use Rattle.std.specs.List.{prefix_len}
use Rattle.cob_decimal.specs.Decimal.{number_of}
use Rattle.cob_decimal.proofs.number_text.without_zeros.Given as goal

abbrev pub invariant-loop-at : goal.invariant-loop-at
invariant-loop-at l = record {
  zeros : prefix_len (λ d. d == 0) l.digits ≡ l.at + prefix_len (λ d. d == 0) (drop l.at l.digits);
  value : number_of (drop l.at l.digits) ≡ number_of l.digits;
}
