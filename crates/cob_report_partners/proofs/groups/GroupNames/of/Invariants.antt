use Rattle.std.proofs.Common.{◌≡◌, ◌||◌, ℕ, List, drop, map}
use Rattle.cob_report_partners.specs.Entries.{listed_bearer}
use Rattle.cob_report_partners.specs.Groups.{is_noted, names_group}
use Rattle.cob_report_partners.proofs.groups.GroupNames.of.Given as goal

abbrev pub invariant-loop-entry : goal.invariant-loop-entry
invariant-loop-entry l = (name : List ℕ)
    → is_noted l.names name || names_group (map listed_bearer (drop l.entry-index l.entries)) name ≡ names_group (map listed_bearer l.entries) name
