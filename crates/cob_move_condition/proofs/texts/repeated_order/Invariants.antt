use Rattle.std.proofs.Common.{◌≡◌, ◌-◌, drop, length}
use Rattle.cob_move_condition.specs.Compared.{text_order}
use Rattle.cob_move_condition.proofs.TextLemmas.{bytes_in, turning}
use Rattle.cob_move_condition.proofs.texts.repeated_order.Given as goal

abbrev pub invariant-loop-at : goal.invariant-loop-at
invariant-loop-at l =
    text_order l.text (turning (bytes_in l.literal) 0 (length l.text)) ≡ text_order (drop l.at l.text) (turning (bytes_in l.literal) l.at (length l.text - l.at))
