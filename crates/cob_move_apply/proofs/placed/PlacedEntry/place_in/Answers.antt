use Rattle.std.proofs.Common.{ap, false, subst, sym}
use Rattle.std.specs.Prelude.{IfOk}
use Rattle.cob_copybook_tree.specs.declared.node.Kind.{Kind}
use Rattle.cob_move_data.specs.declared.operands.Operand.{Operand}
use Rattle.cob_move_data.specs.Moves.{operand_in}
use Rattle.cob_move_receive.specs.Sent.{Occupies}
use Rattle.cob_move_apply.specs.Located.{Located}
use Rattle.cob_move_apply.specs.Placed.{IsPlaced}
use Rattle.cob_move_apply.specs.declared.basis.Basis.{Basis}
use Rattle.cob_move_apply.proofs.placed.PlacedEntry.place_in.Goals as goal

pub placed_operand-operand-requires-clause-operand : goal.placed_operand-operand-requires-clause-operand
placed_operand-operand-requires-clause-operand c = c.requires.placed.operand

pub locate-requires-clause-placed : goal.locate-requires-clause-placed
locate-requires-clause-placed c =
    let tree = c.args.layout.now in
    let placed = c.placed_operand-operand in
    subst (λ (o : Operand). IsPlaced tree false o placed.result.basis.now) (sym placed.ensures.operand)
    (subst (λ (b : Basis). IsPlaced tree false (operand_in tree c.args.self.now.entry) b) (sym placed.ensures.basis) c.requires.placed)

pub returns-clause-located : goal.returns-clause-located
returns-clause-located c =
    subst (λ (o : Operand). Located c.args.self.now.side c.args.layout.now false o c.args.bytes.now c.locate.result) c.placed_operand-operand.ensures.operand c.locate.ensures.located

pub returns-clause-filled : goal.returns-clause-filled
returns-clause-filled c =
    subst (λ (k : Kind). IfOk c.locate.result (λ p. Occupies k p.length)) (ap (λ (o : Operand). o.kind) c.placed_operand-operand.ensures.operand) c.locate.ensures.filled
