use Rattle.std.proofs.Common.{◌≡◌, ◌+◌, ◌-◌, ◌≤◌, ℕ, List, [], Option, arith, subst}
use Rattle.cob_records.specs.Device.{Told}
use Rattle.cob_records_parts.specs.Numbering.{AreOnly}
use Rattle.cob_records_parts.proofs.Beginning.{told_begun}
use Rattle.cob_records_parts.proofs.Numbering.{come_in, only_in, told_before, told_numbered, told_only, told_unread}
use Rattle.cob_records_parts.proofs.numbered.find_record.Goals as goal

pub returns-in-Ok-false-clause-finds : goal.returns-in-Ok-false-clause-finds
returns-in-Ok-false-clause-finds g c =
    let first : Option (List ℕ) = g.R.Source.coming c.args.source.now in
    only_in c.args.form c.args.greatest c.pass_over.new.walk first (g.R.Source.coming c.pass_over.new.source) c.pass_over.ensures.same.0 c.pass_over.ensures.same.1
    (c.in-Ok-false.ensures.only c.in-Ok-false.field-0-test first [] (told_begun c.args.form c.args.greatest (c.args.number - 1) first))

pub returns-in-Err-clause-finds : goal.returns-in-Err-clause-finds
returns-in-Err-clause-finds g c =
    let first : Option (List ℕ) = g.R.Source.coming c.args.source.now in
    told_before c.args.form c.args.greatest (c.args.number - 1) c.args.number c.in-Err.stop first (g.R.Source.coming c.pass_over.new.source)
    (omega (arith, c.in-Err.ensures.before)) (c.in-Err.ensures.stops first [] (told_begun c.args.form c.args.greatest (c.args.number - 1) first))

pub returns-in-Ok-Some-clause-finds : goal.returns-in-Ok-Some-clause-finds
returns-in-Ok-Some-clause-finds g c =
    let first : Option (List ℕ) = g.R.Source.coming c.args.source.now in
    let walk = c.pass_over.new.walk in
    let behind : walk.skip ≤ walk.number = c.in-Ok-true.ensures.behind c.in-Ok-true.field-0-test in
    let next : c.args.number ≡ walk.number + 1 = omega (arith, c.requires.number, walk.within, behind, c.pass_over.ensures.same.2, c.pass_over.ensures.same.3) in
    told_numbered c.args.form c.args.greatest walk.skip walk.number c.args.number walk.left c.next_in_form.new.left c.in-Ok-Some.count c.next_in_form.new.slot
    first (g.R.Source.coming c.pass_over.new.source) (g.R.Source.coming c.next_in_form.new.source) next
    (come_in c.args.form c.args.greatest walk first (g.R.Source.coming c.pass_over.new.source) c.pass_over.ensures.same.0 c.pass_over.ensures.same.1
    (c.in-Ok-true.ensures.passes first [] (told_begun c.args.form c.args.greatest (c.args.number - 1) first)))
    (rw c.in-Ok-Some.field-0-is at c.in-Ok-Some.ensures.frame)

pub returns-in-Ok-None-clause-finds : goal.returns-in-Ok-None-clause-finds
returns-in-Ok-None-clause-finds g c =
    let first : Option (List ℕ) = g.R.Source.coming c.args.source.now in
    let walk = c.pass_over.new.walk in
    let behind : walk.skip ≤ walk.number = c.in-Ok-true.ensures.behind c.in-Ok-true.field-0-test in
    let last : walk.number ≡ c.args.number - 1 = omega (arith, c.requires.number, walk.within, behind, c.pass_over.ensures.same.2, c.pass_over.ensures.same.3) in
    subst (λ (n : ℕ). Told first (g.R.Source.coming c.next_in_form.new.source) (AreOnly c.args.form c.args.greatest n)) last
    (told_only c.args.form c.args.greatest walk.skip walk.number walk.left c.next_in_form.new.left c.next_in_form.new.slot
    (g.R.Source.coming c.pass_over.new.source) (g.R.Source.coming c.next_in_form.new.source) (rw c.in-Ok-None.field-0-is at c.in-Ok-None.ensures.frame) first []
    (come_in c.args.form c.args.greatest walk first (g.R.Source.coming c.pass_over.new.source) c.pass_over.ensures.same.0 c.pass_over.ensures.same.1
    (c.in-Ok-true.ensures.passes first [] (told_begun c.args.form c.args.greatest (c.args.number - 1) first))))

pub returns-in-Err-next_in_form-clause-finds : goal.returns-in-Err-next_in_form-clause-finds
returns-in-Err-next_in_form-clause-finds g c =
    let first : Option (List ℕ) = g.R.Source.coming c.args.source.now in
    let walk = c.pass_over.new.walk in
    let behind : walk.skip ≤ walk.number = c.in-Ok-true.ensures.behind c.in-Ok-true.field-0-test in
    let next : c.args.number ≡ walk.number + 1 = omega (arith, c.requires.number, walk.within, behind, c.pass_over.ensures.same.2, c.pass_over.ensures.same.3) in
    told_unread c.args.form c.args.greatest walk.skip walk.number c.args.number walk.left c.next_in_form.new.left
    (record { number = c.args.number; fault = c.in-Err-next_in_form.fault }) c.next_in_form.new.slot
    first (g.R.Source.coming c.pass_over.new.source) (g.R.Source.coming c.next_in_form.new.source) next (omega arith)
    (come_in c.args.form c.args.greatest walk first (g.R.Source.coming c.pass_over.new.source) c.pass_over.ensures.same.0 c.pass_over.ensures.same.1
    (c.in-Ok-true.ensures.passes first [] (told_begun c.args.form c.args.greatest (c.args.number - 1) first)))
    (rw c.in-Err-next_in_form.is at c.next_in_form.ensures.frame)
