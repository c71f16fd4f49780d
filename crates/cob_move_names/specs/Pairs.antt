-- The pairs of a MOVE CORRESPONDING.
use Rattle.std.specs.Prelude.{ℕ, Bool, true, false, ◌&&◌, ◌||◌, is_some, ◌==◌, ◌≤◌, List, [], ◌∷◌, ◌++◌, Option, Some, None, bytes_eq, if◌then◌else◌, filter, map, length}
use Rattle.std.specs.List.{flat_map}
use Rattle.cob_copybook_names.specs.Naming.{with_name}
use Rattle.cob_copybook_tree.specs.declared.node.Kind.{Kind}
use Rattle.cob_copybook_tree.specs.declared.node.Kind.TheVariants.{Group, Item as ItemKind}
use Rattle.cob_copybook_tree.specs.Forests.{Forest, NoEntries, AnEntry}
use Rattle.cob_copybook_tree.specs.Nodes.{Resolved}
use Rattle.cob_layout_places.specs.Places.{is_table}
use Rattle.cob_move_receive.specs.Table.{Entry, may_move}

-- An entry below a group: its number, its name, the names of the groups between, the nearest first, and what it describes.
pub record Subordinate : Type 0 where
  pub number : ℕ
  pub name : List ℕ
  pub between : List (List ℕ)
  pub kind : Kind

-- An entry with REDEFINES or OCCURS is left out with all below it.
abbrev pub is_left_out : Resolved → Bool
is_left_out e = is_some e.redefines || is_table e.occurs

-- FILLER is in no pair.
abbrev pub own_subordinate : Option (List ℕ) → List (List ℕ) → Resolved → List Subordinate
own_subordinate None between e = []
own_subordinate (Some name) between e = record { number = e.number; name = name; between = between; kind = e.kind } ∷ []

-- The entries below a group that may be in a pair, in their order.
abbrev pub subordinates : List (List ℕ) → Forest Resolved → List Subordinate
subordinates between NoEntries = []
subordinates between (AnEntry e children more) =
    (if is_left_out e then [] else own_subordinate e.name between e ++ subordinates (with_name e.name between) children) ++ subordinates between more

-- Two lists of names are the same.
abbrev pub same_names : List (List ℕ) → List (List ℕ) → Bool
same_names [] [] = true
same_names [] (b ∷ bs) = false
same_names (a ∷ more) [] = false
same_names (a ∷ more) (b ∷ bs) = bytes_eq a b && same_names more bs

-- an elementary item, which is no group
abbrev pub is_elementary : Kind → Bool
is_elementary Group = false
is_elementary (ItemKind i) = true

-- At least one of the two is elementary, and the table of categories has the move.
abbrev pub may_correspond : Kind → Kind → Bool
may_correspond from to = (is_elementary from || is_elementary to) && may_move (Entry from) to

-- Two entries correspond: they have the same name, the same named groups between, and a move that may be made.
abbrev pub correspond : Subordinate → Subordinate → Bool
correspond from to = bytes_eq from.name to.name && (same_names from.between to.between && may_correspond from.kind to.kind)

-- the sending and the receiving entry of one move
pub record Pair : Type 0 where
  pub from : Subordinate
  pub to : Subordinate

-- The entries that correspond to a sending one.
abbrev pub partners : List Subordinate → Subordinate → List Subordinate
partners tos from = filter (λ to. correspond from to) tos

-- The pairs of one sending entry.
abbrev pub pairs_from : List Subordinate → Subordinate → List Pair
pairs_from tos from = map (λ to. record { from = from; to = to }) (partners tos from)

-- The pairs among two lists of entries, in the order of the sending ones.
abbrev pub pairs_among : List Subordinate → List Subordinate → List Pair
pairs_among froms tos = flat_map (λ from. pairs_from tos from) froms

-- The pairs of what is below two groups, in the order of the sending group.
abbrev pub corresponding_pairs : Forest Resolved → Forest Resolved → List Pair
corresponding_pairs from to = pairs_among (subordinates [] from) (subordinates [] to)

-- how many of the pairs an entry sends in
abbrev pub sends : ℕ → List Pair → ℕ
sends n ps = length (filter (λ p. p.from.number == n) ps)

-- how many of the pairs an entry receives in
abbrev pub receives : ℕ → List Pair → ℕ
receives n ps = length (filter (λ p. p.to.number == n) ps)

-- No entry is in two of the pairs.
abbrev pub AreOnce : List Pair → Type 0
AreOnce ps = (n : ℕ) → (sends n ps ≤ 1) × (receives n ps ≤ 1)
