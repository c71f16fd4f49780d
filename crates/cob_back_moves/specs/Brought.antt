-- Occurrences of items that single moves carry away and bring back.
use Rattle.std.specs.Prelude.{◌≡◌, ℕ, List}
use Rattle.cob_copybook_tree.specs.declared.node.Item.{Item}
use Rattle.cob_copybook_tree.specs.declared.node.Kind.{Kind}
use Rattle.cob_copybook_tree.specs.declared.node.Kind.TheVariants.{Item as ItemKind}
use Rattle.cob_copybook_tree.specs.Forests.{Forest}
use Rattle.cob_copybook_tree.specs.Nodes.{Resolved}
use Rattle.cob_layout_places.specs.Cover.{Occurrence}
use Rattle.cob_move_data.specs.Moves.{AreMoves, Move, moves_by}
use Rattle.cob_move_data.specs.declared.operands.StatementMoves.{StatementMoves}
use Rattle.cob_back_moves.specs.Returns.{IsNamedItem, IsReturned}
use Rattle.cob_move_data.specs.Singles.{SingleMove, all_singles, occurrence, plain_element}
use Rattle.cob_back_moves.specs.Singles.{Goes}
use Rattle.cob_back_moves.specs.Wider.{LosesNothing}
use Rattle.cob_back_moves.specs.Tested.{AreSound, layout_records}
use Rattle.cob_back_moves.specs.declared.returned.Carried.{Carried}
use Rattle.cob_back_moves.specs.declared.returned.ItemElement.{ItemElement}
use Rattle.cob_back_moves.specs.declared.single.BothLayouts.{BothLayouts}
use Rattle.cob_back_moves.specs.declared.some.MovesBetween.{MovesBetween}

-- the moves of these statements between the records of the layouts
abbrev pub moves_between : BothLayouts → List StatementMoves → List Move
moves_between l statements = moves_by l.reading (layout_records l) statements

-- the single moves that these are
abbrev pub singles_in : MovesBetween → List SingleMove
singles_in m = all_singles (moves_between m.layouts m.statements.now)

-- The moves are between the records, which are as records are.
pub record AreLegal (m : MovesBetween) : Type 0 where
  pub sound : AreSound m.layouts
  pub moves : AreMoves (layout_records m.layouts) (moves_between m.layouts m.statements.now)

-- the occurrence of an item that an element is
abbrev pub occurrence_of_item : ItemElement → Occurrence
occurrence_of_item e = occurrence e.number e.subscripts.now

-- an entry that is so described loses nothing of what the item holds
pub record LosesNothingAs (i : Item) (k : Kind) : Type 0 where
  pub other : Item
  pub kind : k ≡ ItemKind other
  pub wide : LosesNothing i other

-- The single move carries an occurrence of the item to another one, which loses nothing of it.
pub record IsCarried (from to : Occurrence) (i : Item) (s : SingleMove) : Type 0 where
  pub goes : Goes s from to
  pub wide : LosesNothingAs i s.receiver.kind

-- the single move carries the occurrence of an item to where it is to be carried
abbrev pub Carries : Carried → SingleMove → Type 0
Carries c s = IsCarried (occurrence_of_item c.from) (plain_element c.to) c.from.item.now s

-- an occurrence of an item, moved away and moved back
abbrev pub IsFine : MovesBetween → MovesBetween → ℕ → List ℕ → Item → Type 0
IsFine there back number subscripts i = IsReturned (singles_in there) (singles_in back) (occurrence number subscripts) i

-- all occurrences of named items of the record are returned
abbrev pub AllReturned : Forest Resolved → List SingleMove → List SingleMove → Type 0
AllReturned from there back = (x : Occurrence) (i : Item) → IsNamedItem from x i → IsReturned there back x i

-- an occurrence of this entry, a named item of the record, isn't returned
pub record IsLostItem (from : Forest Resolved) (there back : List SingleMove) (entry : ℕ) : Type 0 where
  pub at : Occurrence
  pub number : at.number ≡ entry
  pub item : Item
  pub named : IsNamedItem from at item
  pub lost : IsReturned there back at item → ⊥
