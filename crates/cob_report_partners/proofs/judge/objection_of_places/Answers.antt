use Rattle.cob_report_partners.proofs.BoundLemmas.{objects_of}
use Rattle.cob_report_partners.proofs.judge.objection_of_places.Goals as goal

pub returns-in-Some : goal.returns-in-Some
returns-in-Some c =
    objects_of c.args.counts c.args.from.now c.args.to.now c.in-Some.objection _ _ c.as_slice.ensures.value c.as_slice-2.ensures.value c.in-Some.ensures
