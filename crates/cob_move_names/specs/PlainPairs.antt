-- Entries and pairs without where they lie in memory.
use Rattle.std.specs.Prelude.{◌≡◌, ℕ, List, ◌++◌, map}
use Rattle.cob_copybook_names.specs.Listed.{texts}
use Rattle.cob_copybook_tree.specs.declared.node.Node.{Node}
use Rattle.cob_copybook_tree.specs.declared.node.Node.TheViews.{out-Node}
use Rattle.cob_copybook_tree.specs.Nodes.{forest, resolved_entry}
use Rattle.cob_move_names.specs.declared.subordinate.Subordinate.{Subordinate as Listed}
use Rattle.cob_move_names.specs.declared.pair.Pair.{Pair as Paired}
use Rattle.cob_move_names.specs.Pairs.{Subordinate, Pair, own_subordinate, pairs_from, subordinates}

-- an entry below a group
abbrev pub subordinate : Listed → Subordinate
subordinate s = record { number = (out-Node s.entry.now).number; name = s.name.now; between = texts s.between.value.items; kind = (out-Node s.entry.now).kind }

-- entries below a group
abbrev pub subordinates_listed : List Listed → List Subordinate
subordinates_listed entries = map subordinate entries

-- an entry of the code is listed behind those before, with these names of groups between, unless it is FILLER
abbrev pub ListsSubordinate : List (List ℕ) → Node → (before after : List Listed) → Type 0
ListsSubordinate between n before after =
    subordinates_listed after ≡ subordinates_listed before ++ own_subordinate (out-Node n).name between (resolved_entry (out-Node n))

-- those of entries of the code that may be in a pair are listed behind those before, with these names of groups between
abbrev pub ListsSubordinates : List (List ℕ) → List Node → (before after : List Listed) → Type 0
ListsSubordinates between ns before after = subordinates_listed after ≡ subordinates_listed before ++ subordinates between (forest ns)

-- a pair
abbrev pub pair : Paired → Pair
pair p = record { from = subordinate p.from.now; to = subordinate p.to.now }

-- pairs in their order
abbrev pub pairs : List Paired → List Pair
pairs ps = map pair ps

-- these pairs, and behind them those in which an entry sends to one of these
abbrev pub with_pairs_from : List Listed → Listed → List Paired → List Pair
with_pairs_from partners from ps = pairs ps ++ pairs_from (subordinates_listed partners) (subordinate from)
