use Rattle.std.proofs.Common.{ap, subst, ◌∙◌, List, filter, Bor, ℕ}
use Rattle.cob_copybook_names.specs.Listed.{texts}
use Rattle.cob_report_partners.specs.Entries.{listed_bearer}
use Rattle.cob_report_partners.specs.Groups.{below_record, has_group}
use Rattle.cob_report_partners.specs.Partners.{IsOnly}
use Rattle.cob_report_partners.proofs.SoughtLemmas.{shared_names}
use Rattle.cob_report_partners.proofs.partners.only_sharing.Goals as goal

pub returns : goal.returns
returns c =
    let r = c.args.records.now in
    let there = c.in_ok-names.ensures ∙ ap (filter (has_group r.groups)) (c.below_record.ensures ∙ ap (λ (names : List (Bor (List ℕ))). below_record (texts names)) c.as_slice.ensures.value) in
    subst (IsOnly c.only_sought.result) (shared_names r.groups r (listed_bearer c.args.to.now) c.as_slice-2.result r.grouped (ap texts c.as_slice-2.ensures.value ∙ there)) c.only_sought.ensures
