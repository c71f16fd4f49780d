-- References to entries of a record.
use Rattle.std.specs.Prelude.{◌≡◌, ◌⊎◌, ℕ, ◌<◌, ◌≤◌, Bool, true, false, List, [], ◌∷◌}
use Rattle.cob_copybook_tree.specs.Forests.{Forest, NoEntries, AnEntry}
use Rattle.cob_copybook_tree.specs.Nodes.{Resolved}
use Rattle.cob_copybook_tree.specs.Lengths.{greatest_number}
use Rattle.cob_layout_places.specs.Places.{is_table, later}

-- a table asks for a subscript, from 1 to its greatest number
abbrev pub IsSubscripted : Bool → ℕ → List ℕ → Type 0
IsSubscripted false n subscripts = Unit {0}
IsSubscripted true n [] = ⊥
IsSubscripted true n (s ∷ subscripts) = (0 < s) × (s ≤ n)

-- The entry with this number is one of these, and the subscripts are one for each table that holds it or that it is, the outermost first, each
-- from 1 to its table's greatest number.
abbrev pub Refers : ℕ → List ℕ → Forest Resolved → Type 0
Refers r subscripts NoEntries = ⊥
Refers r subscripts (AnEntry e children more) =
    (IsSubscripted (is_table e.occurs) (greatest_number e) subscripts
    × (((e.number ≡ r) × (later (is_table e.occurs) subscripts ≡ [])) ⊎ Refers r (later (is_table e.occurs) subscripts) children))
    ⊎ Refers r subscripts more
