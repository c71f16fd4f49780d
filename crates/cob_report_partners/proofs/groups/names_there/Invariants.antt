use Rattle.std.proofs.Common.{◌≡◌, ◌++◌, drop, filter}
use Rattle.cob_copybook_names.specs.Listed.{texts}
use Rattle.cob_report_partners.specs.Groups.{has_group}
use Rattle.cob_report_partners.proofs.groups.names_there.Given as goal

abbrev pub invariant-loop-name : goal.invariant-loop-name
invariant-loop-name l = texts l.there.items ++ filter (has_group l.groups) (texts (drop l.name-index l.names)) ≡ filter (has_group l.groups) (texts l.names)
