use Rattle.cob_picture.proofs.Limits.{counts_are}
use Rattle.cob_picture.proofs.counts.counted.Goals as goal

pub returns-clause-counts : goal.returns-clause-counts
returns-clause-counts c =
    let before = rw (c.floating_of-floating.ensures, c.split_at.ensures.front) at c.digits_of-before.ensures.value in
    let behind = rw (c.is_seen.ensures, c.floating_of-floating.ensures, c.split_at.ensures.front, c.split_at.ensures.back) at c.digits_of-behind.ensures.value in
    let missing = rw c.split_at.ensures.front at c.count_of-missing.ensures.value in
    let added = rw c.split_at.ensures.back at c.count_of-added.ensures.value in
    counts_are c.args.category c.args.runs.now c.runs_before_point.result c.digits_of-before.result c.digits_of-behind.result c.count_of-missing.result c.count_of-added.result c.size_of.result c.has_sign.result
    c.requires.positive c.runs_before_point.ensures.value before behind missing added c.size_of.ensures.value c.has_sign.ensures
