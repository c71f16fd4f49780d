use Rattle.std.proofs.Common.{◌≡◌, map}
use Rattle.cob_copybook_conditions.specs.Names.{plain_condition_name, plain_condition_names}
use Rattle.cob_program_roles.proofs.SameLists.{Both, left}
use Rattle.cob_program_roles.proofs.conditions.are_same_condition_names.Given as goal

abbrev pub invariant-loop-name : goal.invariant-loop-name
invariant-loop-name l = Both (left plain_condition_name l.names l.name-index ≡ map plain_condition_name l.rest) (plain_condition_names l.names ≡ plain_condition_names l.others)
