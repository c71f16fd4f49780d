use Rattle.std.proofs.Common.{◌∙◌, ap, subst, sym}
use Rattle.cob_copybook_tree.specs.Forests.{Forest}
use Rattle.cob_copybook_tree.specs.Nodes.{Resolved}
use Rattle.cob_layout_places.specs.declared.reference.Ref.{Ref}
use Rattle.cob_move_data.specs.Moves.{IsOperand, operand_in}
use Rattle.cob_move_deeds.proofs.bound.number_in.Goals as goal

pub entry_kind-requires-clause-operand : goal.entry_kind-requires-clause-operand
entry_kind-requires-clause-operand c =
    subst (λ (e : Ref). IsOperand c.args.layout.now (operand_in c.args.layout.now e)) (sym c.entry.ensures) c.requires.operand

pub returns-in-Item : goal.returns-in-Item
returns-in-Item c = λ r same.
    let entry = c.args.bound.now.item.entry in
    let kind = ap (λ (tree : Forest Resolved). (operand_in tree entry).kind) same ∙ ap (λ (e : Ref). (operand_in c.args.layout.now e).kind) (sym c.entry.ensures) ∙ sym c.entry_kind.ensures ∙ c.in-Item.is in
    (c.in-Item.item, kind, c.number_at.ensures r)
