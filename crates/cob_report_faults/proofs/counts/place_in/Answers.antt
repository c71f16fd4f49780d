use Rattle.std.proofs.Common.{◌≡◌, ◌∙◌, None, Option, ap, length}
use Rattle.std.proofs.lemmas.List.{length-replicate}
use Rattle.cob_layout.specs.declared.counts.StoredCount.{StoredCount}
use Rattle.cob_layout.specs.Standing.{forgotten, room_in}
use Rattle.cob_report_faults.proofs.counts.place_in.Goals as goal

pub find-requires-clause-room : goal.find-requires-clause-room
find-requires-clause-room c =
    let s = c.args.counts.now in
    let same : room_in (forgotten s) ≡ room_in s = λ i. record {
      entries = length s.counts;
      tables = length-replicate {A = Option StoredCount} (length s.kept) None i;
      varying = s.tables;
      growths = s.growths;
    } in
    ap room_in c.forget.ensures.forgotten ∙ same ∙ c.requires
