use Rattle.std.proofs.Common.{◌≡◌, ◌++◌, map}
use Rattle.cob_report_map.specs.Joined.{ends_in, single_ends}
use Rattle.cob_report_map.proofs.joined.ends_of.Given as goal

abbrev pub invariant-loop-single : goal.invariant-loop-single
invariant-loop-single l = l.ends.items ++ map single_ends l.single-iterator ≡ ends_in l.statements
