-- Entries with what they inherit and what their names refer to, as a tree.
use Rattle.std.specs.Prelude.{ℕ, Bool, true, false, List, [], ◌∷◌, map, Option, option_map}
use Rattle.cob_picture.specs.Positions.{shows_number}
use Rattle.cob_copybook_entry.specs.Described.{PlainValue, plain_value}
use Rattle.cob_copybook_tree.specs.declared.node.Node.{Node}
use Rattle.cob_copybook_tree.specs.declared.node.Node.TheOpen.{Node-F}
use Rattle.cob_copybook_tree.specs.declared.node.Node.TheFolds.{fold-Node}
use Rattle.cob_copybook_tree.specs.declared.node.ResolvedOccurs.{ResolvedOccurs}
use Rattle.cob_copybook_tree.specs.declared.node.ResolvedOccurs.TheVariants.{Once, Fixed, Varying}
use Rattle.cob_copybook_tree.specs.declared.node.Kind.{Kind}
use Rattle.cob_copybook_tree.specs.declared.node.Kind.TheVariants.{Group, Item as ItemKind}
use Rattle.cob_copybook_tree.specs.Forests.{AnEntry, Forest, NoEntries, Tree, grown}

-- a table with DEPENDING ON
abbrev pub is_varying : ResolvedOccurs → Bool
is_varying Once = false
is_varying (Fixed n) = false
is_varying (Varying least most count) = true

-- an entry of this kind is a group
abbrev pub is_group_kind : Kind → Bool
is_group_kind Group = true
is_group_kind (ItemKind i) = false

-- an entry of this kind is an item that shows a number
abbrev pub kind_shows_number : Kind → Bool
kind_shows_number Group = false
kind_shows_number (ItemKind i) = shows_number i.picture.category

-- an entry by itself
pub record Resolved : Type 0 where
  pub number : ℕ
  pub level : ℕ
  pub name : Option (List ℕ)
  pub kind : Kind
  pub occurs : ResolvedOccurs
  pub redefines : Option (List ℕ)
  pub value : Option PlainValue

-- the entry of a node, without the nodes beneath it
abbrev pub resolved_entry : {A : Type 0} → Node-F A → Resolved
resolved_entry f = record { number = f.number; level = f.level; name = f.name; kind = f.kind; occurs = f.occurs; redefines = f.redefines; value = option_map plain_value f.value }

-- an entry by itself, and the trees of its children beneath it
abbrev pub node_step : Node-F (Tree Resolved) → Tree Resolved
node_step f = record { top = resolved_entry f; beneath = grown f.children.items }

-- a node without where it lies in memory
abbrev pub node : Node → Tree Resolved
node = fold-Node (Tree Resolved) node_step

-- nodes side by side
abbrev pub forest : List Node → Forest Resolved
forest ns = grown (map node ns)

-- one node by itself, with those beneath it
abbrev pub tree_of : Node → Forest Resolved
tree_of n = forest (n ∷ [])

-- what may stand beneath an entry of this kind: nothing beneath an item
abbrev pub MayHold : Kind → Forest Resolved → Type 0
MayHold Group children = Unit {0}
MayHold (ItemKind i) NoEntries = Unit {0}
MayHold (ItemKind i) (AnEntry e children more) = ⊥
