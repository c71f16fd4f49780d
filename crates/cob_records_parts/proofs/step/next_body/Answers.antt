use Rattle.std.proofs.Common.{refl}
use Rattle.cob_records_parts.proofs.Foretelling.{told_mark, told_next, told_none, told_over, told_still}
use Rattle.cob_records_parts.proofs.Numbering.{told_only}
use Rattle.cob_records_parts.proofs.Stepping.{told_passed, told_taken}
use Rattle.cob_records_parts.proofs.step.next_body.Goals as goal

pub returns-in-Ok-Some-clause-passes : goal.returns-in-Ok-Some-clause-passes
returns-in-Ok-Some-clause-passes g c = λ below.
    let walk = c.args.walk.now in
    told_passed walk.form walk.greatest walk.skip walk.number walk.left c.next_in_form.new.left c.in-Ok-Some.count _ c.next_in_form.new.slot
    (g.R.Source.coming c.args.source.now) (g.R.Source.coming c.next_in_form.new.source) below refl (rw c.in-Ok-Some.field-0-is at c.in-Ok-Some.ensures.frame)

pub returns-in-Ok-Some-clause-takes : goal.returns-in-Ok-Some-clause-takes
returns-in-Ok-Some-clause-takes g c = λ behind.
    let walk = c.args.walk.now in
    told_taken walk.form walk.greatest walk.skip walk.number walk.left c.next_in_form.new.left c.in-Ok-Some.count _ c.next_in_form.new.slot
    (g.R.Source.coming c.args.source.now) (g.R.Source.coming c.next_in_form.new.source) behind refl (rw c.in-Ok-Some.field-0-is at c.in-Ok-Some.ensures.frame)

pub returns-in-Ok-Some-clause-over : goal.returns-in-Ok-Some-clause-over
returns-in-Ok-Some-clause-over g c = λ below.
    let walk = c.args.walk.now in
    told_over walk.form walk.greatest walk.skip walk.last walk.number walk.left c.next_in_form.new.left c.in-Ok-Some.count c.next_in_form.new.slot
    (g.R.Source.coming c.args.source.now) (g.R.Source.coming c.next_in_form.new.source) walk.block walk.low walk.high c.requires.more below
    (rw c.in-Ok-Some.field-0-is at c.in-Ok-Some.ensures.frame)

pub returns-in-Ok-Some-clause-next : goal.returns-in-Ok-Some-clause-next
returns-in-Ok-Some-clause-next g c = λ behind.
    let walk = c.args.walk.now in
    told_next walk.form walk.greatest walk.skip walk.last walk.number walk.left c.next_in_form.new.left c.in-Ok-Some.count c.next_in_form.new.slot
    (g.R.Source.coming c.args.source.now) (g.R.Source.coming c.next_in_form.new.source) walk.block walk.low walk.high c.requires.more behind
    (rw c.in-Ok-Some.field-0-is at c.in-Ok-Some.ensures.frame)

pub returns-in-Ok-None-clause-only : goal.returns-in-Ok-None-clause-only
returns-in-Ok-None-clause-only g c =
    let walk = c.args.walk.now in
    told_only walk.form walk.greatest walk.skip walk.number walk.left c.next_in_form.new.left c.next_in_form.new.slot
    (g.R.Source.coming c.args.source.now) (g.R.Source.coming c.next_in_form.new.source) (rw c.in-Ok-None.field-0-is at c.in-Ok-None.ensures.frame)

pub returns-in-Ok-None-clause-none : goal.returns-in-Ok-None-clause-none
returns-in-Ok-None-clause-none g c =
    let walk = c.args.walk.now in
    told_none walk.form walk.greatest walk.skip walk.last walk.number walk.left c.next_in_form.new.left c.next_in_form.new.slot
    (g.R.Source.coming c.args.source.now) (g.R.Source.coming c.next_in_form.new.source) walk.block walk.low walk.high c.requires.more
    (rw c.in-Ok-None.field-0-is at c.in-Ok-None.ensures.frame)

pub returns-in-Ok-None-clause-still : goal.returns-in-Ok-None-clause-still
returns-in-Ok-None-clause-still g c =
    let walk = c.args.walk.now in
    told_still walk.form walk.greatest walk.skip walk.last walk.number walk.left c.next_in_form.new.left c.next_in_form.new.slot
    (g.R.Source.coming c.args.source.now) (g.R.Source.coming c.next_in_form.new.source)
    (rw c.in-Ok-None.field-0-is at c.in-Ok-None.ensures.frame)

pub returns-in-Err-clause-marks : goal.returns-in-Err-clause-marks
returns-in-Err-clause-marks g c =
    let walk = c.args.walk.now in
    told_mark walk.form walk.greatest walk.skip walk.last walk.number walk.left c.next_in_form.new.left c.in-Err.fault c.next_in_form.new.slot
    (g.R.Source.coming c.args.source.now) (g.R.Source.coming c.next_in_form.new.source) walk.block walk.low walk.high c.requires.more
    c.in-Err.ensures.frame
