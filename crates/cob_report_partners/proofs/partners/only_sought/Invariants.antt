use Rattle.std.proofs.Common.{◌≡◌, ◌++◌, drop, map}
use Rattle.cob_report_partners.specs.Entries.{listed_bearer}
use Rattle.cob_report_partners.specs.Partners.{found_bearer, input_bearers, those_sought}
use Rattle.cob_report_partners.proofs.partners.only_sought.Given as goal

abbrev pub invariant-loop-place : goal.invariant-loop-place
invariant-loop-place l =
    those_sought l.sought l.records (listed_bearer l.to) (input_bearers l.records)
    ≡ found_bearer l.found ++ those_sought l.sought l.records (listed_bearer l.to) (map listed_bearer (drop l.place l.records.inputs.items))
