use Rattle.cob_report_compare.proofs.runs.count_up.Goals as goal

pub put_counts-requires : goal.put_counts-requires
put_counts-requires g c =
    let few = rw c.in-Ok.is at c.requires in
    record { left = few.0; right = few.1 }
