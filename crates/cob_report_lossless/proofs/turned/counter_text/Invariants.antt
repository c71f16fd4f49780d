use Rattle.std.proofs.Common.{◌≡◌, ◌++◌, drop, encode_utf8_all, string_bytes}
use Rattle.cob_report_lossless.proofs.turned.counter_text.Given as goal

abbrev pub invariant-loop-byte : goal.invariant-loop-byte
invariant-loop-byte l = string_bytes l.text ++ encode_utf8_all (drop l.byte-index l.name) ≡ encode_utf8_all l.name
