use Rattle.std.proofs.Common.{◌≡◌, map, take}
use Rattle.cob_move_names.specs.Between.{ends, ends_of}
use Rattle.cob_move_names.specs.PlainPairs.{pairs}
use Rattle.cob_move_names.proofs.pairing.entries_of.Given as goal

abbrev pub invariant-loop-one : goal.invariant-loop-one
invariant-loop-one l = map ends l.entries.items ≡ map ends_of (pairs (take l.one-index l.list))
