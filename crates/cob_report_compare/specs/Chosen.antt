-- Which items of a record are compared.
use Rattle.std.specs.Prelude.{◌≡◌, ℕ, Bool, false, ◌==◌, ◌||◌, not, is_some, if◌then◌else◌, List, [], ◌++◌, map}
use Rattle.std.specs.List.{list_any}
use Rattle.cob_copybook_tree.specs.Forests.{Forest, NoEntries, AnEntry}
use Rattle.cob_copybook_tree.specs.Nodes.{Resolved}
use Rattle.cob_layout_places.specs.declared.varying.Table.{Table}
use Rattle.cob_layout_places.specs.Counts.{tables_of}
use Rattle.cob_layout.specs.Ways.{own_table}
use Rattle.cob_report_show.specs.Elements.{NamedItem, own_of}

-- this number is one of these
abbrev pub is_one_of : List ℕ → ℕ → Bool
is_one_of numbers number = list_any (λ one. one == number) numbers

-- the numbers of the items that count these tables
abbrev pub counts_of_tables : List Table → List ℕ
counts_of_tables tables = map (λ (t : Table). t.count) tables

-- an entry is exempt, with all beneath it: it redefines another one, or it is one of those that are ignored
abbrev pub is_exempt : List ℕ → Resolved → Bool
is_exempt ignored e = is_some e.redefines || is_one_of ignored e.number

-- an entry in these tables is compared where it is a named elementary item that is not exempt, or that counts a table
abbrev pub compared_own : List ℕ → Bool → List ℕ → Resolved → List NamedItem
compared_own counting exempt over e = if not exempt || is_one_of counting e.number then own_of over e else []

-- the items that are compared among entries that these tables hold, in the order of the entries; they stand beneath an entry that is exempt, or not
abbrev pub compared_among : (ignored counting : List ℕ) → Bool → List ℕ → Forest Resolved → List NamedItem
compared_among ignored counting exempt over NoEntries = []
compared_among ignored counting exempt over (AnEntry e children more) =
    compared_own counting (exempt || is_exempt ignored e) over e
    ++ (compared_among ignored counting (exempt || is_exempt ignored e) (over ++ own_table e.occurs e.number) children
    ++ compared_among ignored counting exempt over more)

-- The items of a record that are compared: its named elementary items that stand in no redefinition and in no entry that is ignored; and all that count
-- a table, since on these depends where the others stand.
abbrev pub compared_in : List ℕ → Forest Resolved → List NamedItem
compared_in ignored tree = compared_among ignored (counts_of_tables (tables_of tree)) false [] tree

-- these are the items of a record that are compared where some entries are ignored
abbrev pub AreCompared : Forest Resolved → List NamedItem → Type 0
AreCompared tree xs = (ignored : List ℕ) × (xs ≡ compared_in ignored tree)
