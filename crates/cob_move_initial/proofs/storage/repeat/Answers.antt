use Rattle.std.proofs.Common.{◌*◌, ◌+◌, ◌≤◌, length, ◌∙◌, arith}
use Rattle.cob_move_initial.proofs.PartLemmas.{copied, element_fits}
use Rattle.cob_move_initial.proofs.storage.repeat.Goals as goal

pub loop-element-preserved : goal.loop-element-preserved
loop-element-preserved c =
    let inv = c.loop-element.invariant in
    let fits = element_fits c.loop-element.element c.args.times c.args.size (omega arith) in
    let room : c.loop-element.element * c.args.size + c.args.size ≤ length c.loop-element.bytes = omega (arith, fits, inv.room, c.requires.room) in
    let next = copied _ c.loop-element.bytes c.copy_within.new.self c.loop-element.element c.args.size inv.some room inv.front inv.first c.copy_within.ensures.after in
    record { front = next.front; some = omega arith; first = next.first; room = c.copy_within.ensures.len ∙ inv.room }
