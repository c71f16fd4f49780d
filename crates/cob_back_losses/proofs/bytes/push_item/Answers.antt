use Rattle.std.proofs.Common.{arith, map, [], ◌∷◌}
use Rattle.std.proofs.lemmas.List.{length-map}
use Rattle.cob_copybook_tree.specs.Lengths.{item_size}
use Rattle.cob_back_losses.specs.Bytes.{item_byte}
use Rattle.cob_back_losses.proofs.ByteLemmas.{several_full}
use Rattle.cob_back_losses.proofs.bytes.push_item.Goals as goal

pub returns-then-len-limit : goal.returns-then-len-limit
returns-then-len-limit c =
    several_full (λ k. record { number = c.args.number; item = c.args.item.now; at = k } ∷ []) c.loop-at.at (item_size c.args.item.now) c.args.limit (map item_byte c.args.bytes.now.items) (map item_byte c.loop-at.bytes.items)
    (omega (arith, c.loop-at-test.true, c.size-at-end.ensures, c.loop-at.auto.at-end)) c.loop-at.invariant.put (omega (arith, length-map c.loop-at.bytes.items item_byte, c.len.ensures, c.if-len-limit.true))
