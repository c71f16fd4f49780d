use Rattle.std.proofs.Common.{◌≡◌, ◌-◌, ◌/◌, ◌%◌, ◌^◌, length, ◌-ℤ◌}
use Rattle.cob_decimal.specs.Decimal.{number_of, shifted}
use Rattle.cob_decimal.proofs.number.Number.align.Given as goal

abbrev pub invariant-loop-place : goal.invariant-loop-place
invariant-loop-place l = record {
  count : length l.moved ≡ l.place;
  value : number_of l.moved ≡ shifted (number_of l.self.digits) (l.scale -ℤ l.self.scale) / 10 ^ (l.digits - l.place) % 10 ^ l.place;
}
