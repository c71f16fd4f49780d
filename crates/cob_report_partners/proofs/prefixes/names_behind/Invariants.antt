use Rattle.std.proofs.Common.{◌≡◌, map, take}
use Rattle.cob_copybook_names.specs.Listed.{texts}
use Rattle.cob_report_partners.specs.Prefixes.{behind_prefix}
use Rattle.cob_report_partners.proofs.prefixes.names_behind.Given as goal

abbrev pub invariant-loop-name : goal.invariant-loop-name
invariant-loop-name l = texts l.behind.items ≡ map (behind_prefix l.prefix) (texts (take l.name-index l.names))
