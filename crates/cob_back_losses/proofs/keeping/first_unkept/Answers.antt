use Rattle.std.proofs.Common.{arith, map}
use Rattle.std.proofs.lemmas.List.{length-map}
use Rattle.cob_back_losses.specs.Bytes.{item_byte}
use Rattle.cob_back_losses.specs.Keeping.{IsMarked, sent_element}
use Rattle.cob_back_losses.proofs.KeepingLemmas.{all_kept}
use Rattle.cob_back_losses.proofs.keeping.first_unkept.Goals as goal

pub returns : goal.returns
returns c =
    all_kept (sent_element c.args.from.now) (map item_byte c.args.received.now) (IsMarked c.args.covered.now) c.loop-at.at
    (omega (arith, length-map c.args.received.now item_byte, c.loop-at-test.false, c.loop-at.auto.at-end)) c.loop-at.invariant
