use Rattle.std.proofs.Common.{◌≡◌, ◌*◌, length, take}
use Rattle.cob_records.specs.Hex.{hex_text}
use Rattle.cob_program_job.proofs.hex.write_text.Given as goal

abbrev pub invariant-loop-at : goal.invariant-loop-at
invariant-loop-at l = record {
  text : take (2 * l.at) l.text ≡ hex_text (take l.at l.bytes);
  size : length l.text ≡ length l.initial.text;
}
