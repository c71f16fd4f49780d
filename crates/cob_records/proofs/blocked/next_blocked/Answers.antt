use Rattle.std.proofs.Common.{◌≡◌, arith, rules}
use Rattle.cob_records.proofs.BlockReading.{first_fault, first_record, later_fault, seen_at_start, seen_first, seen_later}
use Rattle.cob_records.proofs.blocked.next_blocked.Goals as goal

pub returns-in-Err-clause-frame : goal.returns-in-Err-clause-frame
returns-in-Err-clause-frame g c =
    later_fault c.args.most c.args.greatest c.args.left.now c.next_in_block.new.slot c.in-Err.fault _ _ (search rules) (rw (c.requires.room, c.from-held.ensures) at c.in-Err.ensures.frame)

pub returns-in-Ok-next_in_block-clause-frame : goal.returns-in-Ok-next_in_block-clause-frame
returns-in-Ok-next_in_block-clause-frame g c =
    let none : c.args.left.now ≡ 0 = search rules in
    rw none (first_record c.args.most c.args.greatest c.in-Ok-Some.room c.in-Ok-next_in_block.count _ c.next_in_block-2.new.slot _ (g.R.Source.coming c.next_block.new.source) _
    (omega (arith, c.in-Ok-next_in_block.ensures.size.1))
    (rw (c.in-Ok-Some.field-0-is, c.from.ensures) at c.in-Ok-Some.ensures.block) (rw c.requires.room at c.in-Ok-next_in_block.ensures.frame))

pub returns-in-Err-next_in_block-clause-frame : goal.returns-in-Err-next_in_block-clause-frame
returns-in-Err-next_in_block-clause-frame g c =
    let none : c.args.left.now ≡ 0 = search rules in
    rw none (first_fault c.args.most c.args.greatest c.in-Ok-Some.room c.next_in_block-2.new.slot c.in-Err-next_in_block.fault c.behind_descriptor.result _ (g.R.Source.coming c.next_block.new.source) _ c.behind_descriptor.ensures
    (rw (c.in-Ok-Some.field-0-is, c.from.ensures) at c.in-Ok-Some.ensures.block) (rw c.requires.room at c.in-Err-next_in_block.ensures.frame))

pub returns-in-Err-clause-seen : goal.returns-in-Err-clause-seen
returns-in-Err-clause-seen g c = seen_later c.args.most c.args.greatest _ c.in-Err.fault c.requires.room c.in-Err.ensures.seen

pub returns-in-Err-next_block-clause-seen : goal.returns-in-Err-next_block-clause-seen
returns-in-Err-next_block-clause-seen g c = seen_at_start c.args.most c.args.greatest c.in-Err-next_block.fault c.in-Err-next_block.ensures.seen

pub returns-in-Err-next_in_block-clause-seen : goal.returns-in-Err-next_in_block-clause-seen
returns-in-Err-next_in_block-clause-seen g c =
    seen_first c.args.most c.args.greatest _ c.in-Err-next_in_block.fault c.behind_descriptor.result c.requires.room c.behind_descriptor.ensures c.in-Err-next_in_block.ensures.seen
