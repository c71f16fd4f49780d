-- Moves there and back: the second ones bring back what the first ones took.
use Rattle.std.specs.Prelude.{◌≡◌, ◌⊎◌, ℕ, List, IsSome, Some}
use Rattle.std.specs.List.{AllByRecursion}
use Rattle.cob_copybook_tree.specs.declared.node.Item.{Item}
use Rattle.cob_copybook_tree.specs.declared.node.Kind.TheVariants.{Item as ItemKind}
use Rattle.cob_copybook_tree.specs.Forests.{Forest, NoEntries, AnEntry}
use Rattle.cob_copybook_tree.specs.Nodes.{Resolved}
use Rattle.cob_copybook_tree.specs.Lengths.{greatest_number}
use Rattle.cob_back_moves.specs.Same.{IsSameRecord}
use Rattle.cob_layout_places.specs.Counts.{bytes_at, kind_in}
use Rattle.cob_layout_places.specs.Cover.{Occurrence}
use Rattle.cob_layout_places.specs.declared.places.Found.{Found}
use Rattle.cob_layout_places.specs.Places.{place_of}
use Rattle.cob_layout_places.specs.References.{Refers}
use Rattle.cob_layout.specs.Kept.{IsIn}
use Rattle.cob_move_data.specs.Moves.{Move, Records}
use Rattle.cob_move_data.specs.Singles.{SingleMove, all_singles}
use Rattle.cob_back_moves.specs.Singles.{Goes, IsElementary, ReceiveOnce, SendsPictured}
use Rattle.cob_back_moves.specs.Wider.{IsSameIn, LosesNothing}

-- the entry with this number has a name
abbrev pub BearsName : ℕ → Forest Resolved → Type 0
BearsName r NoEntries = ⊥
BearsName r (AnEntry e children more) = ((e.number ≡ r) × IsSome e.name) ⊎ (BearsName r children ⊎ BearsName r more)

-- an occurrence of a named elementary item
pub record IsNamedItem (tree : Forest Resolved) (x : Occurrence) (i : Item) : Type 0 where
  pub refers : Refers x.number x.subscripts tree
  pub kind : kind_in x.number tree ≡ Some (ItemKind i)
  pub named : BearsName x.number tree

-- The occurrence of an item is moved there to another one, which loses nothing of it, and moved back from where it came.
pub record IsReturned (there back : List SingleMove) (x : Occurrence) (i : Item) : Type 0 where
  pub out : SingleMove
  pub home : SingleMove
  pub sent : IsIn out there
  pub came : IsIn home back
  pub away : Occurrence
  pub goes : Goes out x away
  pub comes : Goes home away x
  pub other : Item
  pub kind : out.receiver.kind ≡ ItemKind other
  pub wide : LosesNothing i other

-- This single move back brings the occurrence of an item home: one there moves it to where this one comes from, which loses nothing of it.
pub record BringsHome (there : List SingleMove) (m : SingleMove) (x : Occurrence) (i : Item) : Type 0 where
  pub away : Occurrence
  pub comes : Goes m away x
  pub out : SingleMove
  pub sent : IsIn out there
  pub goes : Goes out x away
  pub other : Item
  pub kind : out.receiver.kind ≡ ItemKind other
  pub wide : LosesNothing i other

-- Moves back bring back what moves there take of a record: all single moves are elementary and read their senders as their pictures say; no
-- occurrence receives twice there, and none back; each receiver back has a name in the record, as the receivers of a paragraph have; and each
-- occurrence of a named elementary item of the record is returned.
pub record Returns (from : Forest Resolved) (there back : List Move) : Type 0 where
  pub elementary : AllByRecursion IsElementary (all_singles there)
  pub elementary_back : AllByRecursion IsElementary (all_singles back)
  pub pictured : AllByRecursion SendsPictured (all_singles there)
  pub pictured_back : AllByRecursion SendsPictured (all_singles back)
  pub once : ReceiveOnce (all_singles there)
  pub once_back : ReceiveOnce (all_singles back)
  pub named : AllByRecursion (λ (s : SingleMove). BearsName s.receiver.entry.node from) (all_singles back)
  pub returned : (x : Occurrence) (i : Item) → IsNamedItem from x i → IsReturned (all_singles there) (all_singles back) x i

-- each occurrence of a named elementary item holds in these bytes what it holds in those: the same value, or the same characters
abbrev pub HoldsAgain : Forest Resolved → List ℕ → List ℕ → Type 0
HoldsAgain tree a b = (x : Occurrence) (i : Item) (p : Found) → IsNamedItem tree x i → place_of greatest_number x.number tree 0 0 x.subscripts ≡ Some p
    → IsSameIn i (bytes_at p.offset p.length a) (bytes_at p.offset p.length b)

-- the records of moves back are those of the moves there with their sides exchanged, the names of the records apart
pub record AreTurned (there back : Records) : Type 0 where
  pub middle : IsSameRecord there.output back.input
  pub ends : IsSameRecord there.input back.output
