use Rattle.std.proofs.Common.{◌≡◌, ◌∙◌, None, Option, ap, length}
use Rattle.std.proofs.lemmas.List.{length-replicate}
use Rattle.cob_layout.specs.declared.counts.StoredCount.{StoredCount}
use Rattle.cob_layout.specs.Standing.{forgotten, room_in}
use Rattle.cob_move_apply.proofs.SpentLemmas.{forgotten_none}
use Rattle.cob_move_apply.proofs.survey.Survey.forget.Goals as goal

pub returns-clause-room : goal.returns-clause-room
returns-clause-room c =
    let s = c.args.self.now.counts in
    let same : room_in (forgotten s) ≡ room_in s = λ i. record {
      entries = length s.counts;
      tables = length-replicate {A = Option StoredCount} (length s.kept) None i;
      varying = s.tables;
      growths = s.growths;
    } in
    ap room_in c.forget.ensures.forgotten ∙ same

pub returns-clause-unkept : goal.returns-clause-unkept
returns-clause-unkept c = λ tree. forgotten_none tree c.args.self.now.counts _ c.forget.ensures.forgotten
