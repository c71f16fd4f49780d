use Rattle.std.proofs.Common.{◌≡◌, map, take}
use Rattle.cob_report_partners.specs.Entries.{listed_bearer}
use Rattle.cob_report_partners.specs.Prefixes.{bearer_behind}
use Rattle.cob_report_partners.proofs.prefixes.bearers_behind.Given as goal

abbrev pub invariant-loop-bearer : goal.invariant-loop-bearer
invariant-loop-bearer l = map listed_bearer l.behind.items ≡ map (bearer_behind l.prefix) (map listed_bearer (take l.bearer-index l.bearers))
