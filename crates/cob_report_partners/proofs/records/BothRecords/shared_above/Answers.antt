use Rattle.std.proofs.Common.{sym, subst, ◌<◌, map}
use Rattle.cob_copybook_names.specs.Listed.{texts}
use Rattle.cob_report_partners.specs.Entries.{listed_bearer}
use Rattle.cob_report_partners.specs.Groups.{shared_above}
use Rattle.cob_report_partners.proofs.RecordLemmas.{at_place}
use Rattle.cob_report_partners.proofs.records.BothRecords.shared_above.Goals as goal

pub returns : goal.returns
returns c =
    let r = c.args.self.now in
    rw c.as_slice.ensures.value (at_place (λ names. texts names.items) (shared_above (map listed_bearer r.outputs.items)) r.shared.items r.inputs.items c.args.place c.index.result.now r.sharing
    (subst (λ n. c.args.place < n) (sym r.sized) c.requires.there) c.index.ensures)
