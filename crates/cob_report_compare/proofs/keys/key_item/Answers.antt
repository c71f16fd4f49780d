use Rattle.std.proofs.Common.{sym, subst, map, drop, inl, refl}
use Rattle.cob_report_show.specs.Elements.{NamedItem, named_item}
use Rattle.cob_report_show.proofs.TurnLemmas.{items_left}
use Rattle.cob_report_compare.specs.Keys.{IsAmong, IsKeyItem}
use Rattle.cob_report_compare.proofs.KeyLemmas.{among_behind}
use Rattle.cob_report_compare.proofs.keys.key_item.Goals as goal

pub returns-then-is_key_item : goal.returns-then-is_key_item
returns-then-is_key_item c =
    let named = map named_item c.args.named.now in
    let x = named_item c.item-item.result in
    let i = c.loop-item.item-index in
    let cut = items_left c.args.named.now i c.item-item.result c.loop-item-test.true c.item-item.is in
    record {
      among = subst (IsKeyItem named) (sym c.key_copy.ensures)
          (among_behind c.args.named.now i x (subst (IsAmong x) (sym cut) (inl refl)), c.is_key_item.ensures.yes c.if-is_key_item.true);
    }
