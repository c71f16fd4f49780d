use Rattle.std.proofs.Common.{◌≡◌, filter, map, take}
use Rattle.cob_copybook_names.specs.Listed.{texts}
use Rattle.cob_report_partners.specs.Entries.{listed_bearer}
use Rattle.cob_report_partners.specs.Groups.{below_record, has_group}
use Rattle.cob_report_partners.proofs.records.shared_names.Given as goal

abbrev pub invariant-loop-entry : goal.invariant-loop-entry
invariant-loop-entry l =
    map (λ names. texts names.items) l.shared.items ≡ map (λ b. filter (has_group l.groups) (below_record b.above)) (map listed_bearer (take l.entry-index l.entries))
