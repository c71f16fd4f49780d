use Rattle.std.proofs.Common.{◌≡◌, map}
use Rattle.cob_copybook_conditions.specs.Names.{plain_span}
use Rattle.cob_program_roles.proofs.SameLists.{Both, left}
use Rattle.cob_program_roles.proofs.conditions.are_same_spans.Given as goal

abbrev pub invariant-loop-span : goal.invariant-loop-span
invariant-loop-span l = Both (left plain_span l.spans l.span-index ≡ map plain_span l.rest) (map plain_span l.spans ≡ map plain_span l.others)
