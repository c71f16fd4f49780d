use Rattle.std.proofs.Common.{List, ap, ◌∙◌, map, filter}
use Rattle.cob_copybook_names.specs.declared.bearer.Bearer.{Bearer as Listed}
use Rattle.cob_copybook_names.specs.Listed.{texts}
use Rattle.cob_copybook_names.specs.Naming.{Bearer}
use Rattle.cob_report_partners.specs.Entries.{DraftEntry, listed_bearer}
use Rattle.cob_report_partners.specs.Groups.{AreGroups, below_record, has_group, names_group}
use Rattle.cob_report_partners.specs.declared.entries.DraftEntry.{DraftEntry as ListedEntry}
use Rattle.cob_report_partners.proofs.RecordLemmas.{as_many, sharing}
use Rattle.cob_report_partners.proofs.records.BothRecords.joined.Goals as goal

pub invariant_of-result : goal.invariant_of-result
invariant_of-result c =
    let inputs = c.args.inputs.items in
    let outputs = c.args.outputs.items in
    let groups = c.in_ok-output_groups.output_groups in
    let found = (λ (b : Bearer DraftEntry). filter (has_group groups) (below_record b.above)) in
    let shared = c.in_ok-shared.ensures ∙ ap (λ (bs : List (Listed ListedEntry)). map found (map listed_bearer bs)) c.as_slice-3.ensures.value in
    let others : AreGroups (map listed_bearer outputs) groups = λ name. c.in_ok-output_groups.ensures name ∙ ap (λ (bs : List (Listed ListedEntry)). names_group (map listed_bearer bs) name) c.as_slice-2.ensures.value in
    record {
      sized = as_many (λ names. texts names.items) found c.in_ok-shared.shared.items inputs shared;
      grouped = λ name. c.in_ok-groups.ensures name ∙ ap (λ (bs : List (Listed ListedEntry)). names_group (map listed_bearer bs) name) c.as_slice.ensures.value;
      sharing = shared ∙ sharing groups (map listed_bearer outputs) others (map listed_bearer inputs);
    }
