-- The bytes of entries, each by its item, where each table has its greatest number of elements.
use Rattle.std.specs.Prelude.{ℕ, List, [], ◌∷◌, ◌++◌}
use Rattle.cob_copybook_tree.specs.declared.node.Kind.{Kind}
use Rattle.cob_copybook_tree.specs.declared.node.Kind.TheVariants.{Group, Item as ItemKind}
use Rattle.cob_copybook_tree.specs.declared.node.Item.{Item}
use Rattle.cob_copybook_tree.specs.Forests.{Forest, NoEntries, AnEntry, Tree}
use Rattle.cob_copybook_tree.specs.Nodes.{Resolved}
use Rattle.cob_copybook_tree.specs.Lengths.{greatest_number, item_size}
use Rattle.cob_layout_places.specs.Cover.{several, unless}
use Rattle.cob_back_losses.specs.declared.bytes.ItemByte as code

-- a byte of an item: the number of the item's entry, the item, and the byte's place in it, from 0
pub record ItemByte : Type 0 where
  pub number : ℕ
  pub item : Item
  pub at : ℕ

-- what the code's value stands for
abbrev pub item_byte : code.ItemByte → ItemByte
item_byte b = record { number = b.number; item = b.item.now; at = b.at }

-- the first bytes of an item, so many
abbrev pub item_bytes : ℕ → Item → ℕ → List ItemByte
item_bytes number i count = several (λ k. record { number = number; item = i; at = k } ∷ []) count

-- the bytes of one element: those of an item, or those of what stands beneath a group
abbrev pub bytes_by_kind : ℕ → Kind → List ItemByte → List ItemByte
bytes_by_kind number Group beneath = beneath
bytes_by_kind number (ItemKind i) beneath = item_bytes number i (item_size i)

-- The bytes of entries side by side, in their order: of each all its elements, and none of a redefinition.
abbrev pub bytes_beneath : Forest Resolved → List ItemByte
bytes_beneath NoEntries = []
bytes_beneath (AnEntry e children more) = unless e.redefines (several (λ k. bytes_by_kind e.number e.kind (bytes_beneath children)) (greatest_number e)) ++ bytes_beneath more

-- the bytes of one element of an entry, be it a redefinition or not
abbrev pub element_bytes : Tree Resolved → List ItemByte
element_bytes t = bytes_by_kind t.top.number t.top.kind (bytes_beneath t.beneath)
