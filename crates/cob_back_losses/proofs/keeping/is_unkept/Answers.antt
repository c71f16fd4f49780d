use Rattle.std.proofs.Common.{length, map, sym}
use Rattle.cob_back_losses.specs.Bytes.{item_byte}
use Rattle.cob_back_losses.specs.Keeping.{sent_element}
use Rattle.cob_back_losses.specs.Senses.{sense}
use Rattle.cob_back_losses.proofs.KeepingLemmas.{open_kept, open_unkept, there_is}
use Rattle.cob_back_losses.proofs.keeping.is_unkept.Goals as goal

pub returns-then-not-is_marked-clause-unkept : goal.returns-then-not-is_marked-clause-unkept
returns-then-not-is_marked-clause-unkept c =
    open_unkept (sent_element c.args.from.now) (map item_byte c.args.received.now) c.args.covered.now c.args.at (item_byte c.index-received-at.result) c.is_kept.result (sense c.sent_sense.result) (sense c.item_sense.result)
    (there_is c.args.received.now c.args.at c.index-received-at.result c.requires.there c.index-received-at.is)
    (c.sent_sense.ensures (length c.args.received.now) c.requires.sent c.requires.there) c.item_sense.ensures c.is_kept.ensures (sym c.if-not-is_marked.ensures)

pub returns-then-not-is_marked-clause-kept : goal.returns-then-not-is_marked-clause-kept
returns-then-not-is_marked-clause-kept c =
    open_kept (sent_element c.args.from.now) (map item_byte c.args.received.now) c.args.covered.now c.args.at (item_byte c.index-received-at.result) c.is_kept.result (sense c.sent_sense.result) (sense c.item_sense.result)
    (there_is c.args.received.now c.args.at c.index-received-at.result c.requires.there c.index-received-at.is)
    (c.sent_sense.ensures (length c.args.received.now) c.requires.sent c.requires.there) c.item_sense.ensures c.is_kept.ensures
