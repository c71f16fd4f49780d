use Rattle.std.proofs.Common.{◌≡◌, ◌++◌, drop, map}
use Rattle.cob_copybook_conditions.specs.Names.{plain_condition_names}
use Rattle.cob_move_names.specs.Listed.{candidate_of, valued_of}
use Rattle.cob_move_names.specs.Valued.{named_values}
use Rattle.cob_move_names.proofs.valued.list_values.Given as goal

abbrev pub invariant-loop-name : goal.invariant-loop-name
invariant-loop-name l = record {
  listed : map valued_of l.listed.items ++ named_values (map candidate_of l.entries) (plain_condition_names (drop l.name-index l.names))
      ≡ map valued_of l.fn.listed.items ++ named_values (map candidate_of l.entries) (plain_condition_names l.names);
}
