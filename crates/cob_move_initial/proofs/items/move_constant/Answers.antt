use Rattle.std.proofs.Common.{ℕ, length, Some, subst}
use Rattle.cob_copybook_entry.specs.Described.{plain_value}
use Rattle.cob_copybook_tree.specs.declared.node.Kind.TheVariants.{Item as ItemKind}
use Rattle.cob_move_receive.specs.Sent.{Literal}
use Rattle.cob_move_receive.specs.Received.{Received}
use Rattle.cob_move_initial.proofs.ItemLemmas.{received}
use Rattle.cob_move_initial.proofs.items.move_constant.Goals as goal

pub returns : goal.returns
returns c =
    subst (λ (n : ℕ). Received (Literal (plain_value c.args.value.now)) (ItemKind c.args.item.now) n (Some c.receive_in_item.new.bytes)) c.requires.long
    (received (plain_value c.args.value.now) c.args.item.now (length c.args.bytes.now) c.receive_in_item.result c.receive_in_item.new.bytes c.requires.number c.receive_in_item.ensures.gets)
