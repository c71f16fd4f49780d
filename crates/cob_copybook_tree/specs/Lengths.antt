-- The greatest lengths of entries, in bytes.
use Rattle.std.specs.Prelude.{ℕ, ◌+◌, ◌*◌, Option, Some, None, List}
use Rattle.cob_copybook_tree.specs.declared.node.ResolvedOccurs.{ResolvedOccurs}
use Rattle.cob_copybook_tree.specs.declared.node.ResolvedOccurs.TheVariants.{Once, Fixed, Varying}
use Rattle.cob_copybook_tree.specs.declared.node.Kind.{Kind}
use Rattle.cob_copybook_tree.specs.declared.node.Kind.TheVariants.{Group, Item as ItemKind}
use Rattle.cob_copybook_tree.specs.declared.node.Item.{Item}
use Rattle.cob_copybook_tree.specs.Forests.{Forest, NoEntries, AnEntry}
use Rattle.cob_copybook_tree.specs.Nodes.{Resolved}
use Rattle.cob_copybook_tree.specs.Storage.{storage_kind_by, stored_size}

-- the bytes of an item
abbrev pub item_size : Item → ℕ
item_size i = stored_size (storage_kind_by i.usage i.sign) i.picture

-- how often an entry occurs at most
abbrev pub greatest_number_by : ResolvedOccurs → ℕ
greatest_number_by Once = 1
greatest_number_by (Fixed n) = n
greatest_number_by (Varying least most count) = most

-- how often this entry occurs at most
abbrev pub greatest_number : Resolved → ℕ
greatest_number e = greatest_number_by e.occurs

-- an entry that redefines takes no room of its own
abbrev pub own_length : Option (List ℕ) → ℕ → ℕ
own_length None n = n
own_length (Some area) n = 0

-- an item has its size, a group the sum over its entries
abbrev pub length_by_kind : Kind → ℕ → ℕ
length_by_kind Group sum = sum
length_by_kind (ItemKind i) sum = item_size i

-- the sum of the lengths of entries side by side that don't redefine, where each occurs so often
abbrev pub sum_of : (Resolved → ℕ) → Forest Resolved → ℕ
sum_of c NoEntries = 0
sum_of c (AnEntry e children more) = own_length e.redefines (c e * length_by_kind e.kind (sum_of c children)) + sum_of c more

-- the length of one element
abbrev pub element_length : (Resolved → ℕ) → Resolved → Forest Resolved → ℕ
element_length c e children = length_by_kind e.kind (sum_of c children)

-- the length of all elements
abbrev pub whole_length : (Resolved → ℕ) → Resolved → Forest Resolved → ℕ
whole_length c e children = c e * element_length c e children
