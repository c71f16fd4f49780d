use Rattle.std.proofs.Common.{◌≡◌, ◌+◌, ◌++◌, take, drop, length, count_by}
use Rattle.cob_edit.specs.Places.{bytes_of, is_digit}
use Rattle.cob_move_steps.specs.Texts.{digit_bytes_from}
use Rattle.cob_move_steps.proofs.long_text_reading.pair_places.Given as goal

abbrev pub invariant-loop-place : goal.invariant-loop-place
invariant-loop-place l = record {
  long : length l.bytes ≡ 32;
  count : l.count + count_by is_digit (drop l.place-index l.places) ≡ count_by is_digit l.places;
  byte : l.byte + bytes_of (drop l.place-index l.places) ≡ bytes_of l.places;
  found : take l.count l.bytes ++ digit_bytes_from l.byte (drop l.place-index l.places) ≡ digit_bytes_from 0 l.places;
}
