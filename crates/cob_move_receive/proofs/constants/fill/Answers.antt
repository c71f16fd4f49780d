use Rattle.std.proofs.Common.{◌≡◌, ◌∙◌, sym, length, false}
use Rattle.cob_move_receive.specs.Characters.{has_insertions}
use Rattle.cob_move_receive.proofs.ConstantLemmas.{stands_same}
use Rattle.cob_move_receive.proofs.constants.fill.Goals as goal

pub returns-else-has_insertions : goal.returns-else-has_insertions
returns-else-has_insertions c =
    let other : has_insertions c.args.item.now.picture.category ≡ false = sym c.has_insertions.ensures ∙ c.if-has_insertions.false in (
      c.repeat.new.bytes,
      c.repeat.ensures.gives,
      stands_same c.args.item.now.picture.category c.args.item.now (length c.args.bytes.now) c.repeat.new.bytes other c.repeat.ensures.room,
    )
