use Rattle.std.proofs.Common.{List, ap, arith, map, subst, ◌∙◌}
use Rattle.std.proofs.lemmas.List.{length-map}
use Rattle.cob_copybook_tree.specs.Nodes.{node}
use Rattle.cob_back_losses.specs.Bytes.{ItemByte, element_bytes, item_byte}
use Rattle.cob_back_losses.specs.Keeping.{IsMarked, TellsAmong, sent_element}
use Rattle.cob_back_losses.proofs.KeepingLemmas.{told, whole_taken}
use Rattle.cob_back_losses.proofs.lost.unkept_byte.Goals as goal

pub returns : goal.returns
returns c =
    let items = c.in_ok-received.received.items in
    let all = whole_taken 18446744073709551615 (element_bytes (node c.args.to.now)) (map item_byte items) c.in_ok-received.ensures (omega (arith, length-map items item_byte, c.in_ok-received.received.small)) in
    let same = ap (map item_byte) c.deref-2.ensures.value ∙ all in
    told (sent_element c.args.from.now) (node c.args.to.now) (IsMarked c.args.covered.now) c.first_unkept.result c.requires.moves
    (subst (λ (bs : List ItemByte). TellsAmong (sent_element c.args.from.now) bs (IsMarked c.args.covered.now) c.first_unkept.result) same c.first_unkept.ensures)
