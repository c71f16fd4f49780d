-- The entries of two records, as a draft sees them.
use Rattle.std.specs.Borrow.{Bor}
use Rattle.std.specs.List.{list_any}
use Rattle.std.specs.Prelude.{◌≡◌, ℕ, Bool, true, false, ◌&&◌, nat_le, not, is_some, List, [], ◌∷◌, ◌++◌, map, Option, Some, None}
use Rattle.cob_copybook_tree.specs.declared.node.Kind.{Kind}
use Rattle.cob_copybook_tree.specs.declared.node.Node.{Node}
use Rattle.cob_copybook_tree.specs.declared.node.Node.TheViews.{out-Node}
use Rattle.cob_copybook_tree.specs.Forests.{Forest, NoEntries, AnEntry, Tree}
use Rattle.cob_copybook_tree.specs.Nodes.{Resolved, node, tree_of}
use Rattle.cob_copybook_tree.specs.declared.node.ResolvedOccurs.{ResolvedOccurs}
use Rattle.cob_copybook_tree.specs.declared.node.ResolvedOccurs.TheVariants.{Once, Fixed, Varying}
use Rattle.cob_copybook_tree.specs.Lengths.{greatest_number}
use Rattle.cob_copybook_names.specs.declared.bearer.Bearer.{Bearer as Listed}
use Rattle.cob_copybook_names.specs.Listed.{bearer_by, texts}
use Rattle.cob_copybook_names.specs.Naming.{Bearer, with_name}
use Rattle.cob_layout_places.specs.Counts.{tables_of}
use Rattle.cob_layout_places.specs.Places.{is_table}
use Rattle.cob_move_data.specs.declared.operands.Side.{Side}
use Rattle.cob_layout_places.specs.declared.varying.Table.{Table}
use Rattle.cob_report_partners.specs.declared.bounds.TableSize.{TableSize}
use Rattle.cob_report_partners.specs.declared.entries.DraftEntry.{DraftEntry as ListedEntry}
use Rattle.cob_report_partners.specs.declared.entries.Setting.{Setting as StoredSetting}
use Rattle.cob_report_partners.specs.declared.entries.PartnerSource.{PartnerSource as StoredSource}

-- What is known of an entry besides its names: its record, its number and that of the last entry beneath it (its own where there is none), how many elements
-- each table has that holds it or that it is, the outermost first, what it describes, whether it stands in no redefinition, the number of the entry that it
-- redefines, or that the outermost redefinition redefines in which it stands, and whether it is the count of a table of its record, or holds one.
pub record DraftEntry : Type 0 where
  pub side : Side
  pub number : ℕ
  pub last : ℕ
  pub tables : List TableSize
  pub kind : Kind
  pub own : Bool
  pub redefined : Option ℕ
  pub counts : Bool

-- Where an entry stands: within these tables, whether in no redefinition, the entry that is redefined by the outermost redefinition around it, and the last
-- entry before it in its row that redefines nothing.
pub record Setting : Type 0 where
  pub tables : List TableSize
  pub own : Bool
  pub redefined : Option ℕ
  pub latest : Option ℕ

-- the record that has the entries, and its tables that vary
pub record Source : Type 0 where
  pub side : Side
  pub varying : List Table

-- the entry that an entry redefines, the last one in its row that redefines nothing, or that the redefinition redefines in which it stands
abbrev pub redefined_at : Option ℕ → Option (List ℕ) → Option ℕ → Option ℕ
redefined_at (Some n) redefines latest = Some n
redefined_at None (Some name) latest = latest
redefined_at None None latest = None

-- the number of the entry of a table's count, if the table varies
abbrev pub count_by : ResolvedOccurs → Option ℕ
count_by Once = None
count_by (Fixed n) = None
count_by (Varying least most count) = Some count

-- how many elements a table has
abbrev pub size_of : Resolved → TableSize
size_of e = record { most = greatest_number e; count = count_by e.occurs }

-- a table stands within those that hold it
abbrev pub with_size : Bool → TableSize → List TableSize → List TableSize
with_size false size tables = tables
with_size true size tables = tables ++ size ∷ []

-- where the entries beneath an entry stand
abbrev pub inside : Setting → Resolved → Setting
inside w e = record {
  tables = with_size (is_table e.occurs) (size_of e) w.tables;
  own = w.own && not (is_some e.redefines);
  redefined = redefined_at w.redefined e.redefines w.latest;
  latest = None;
}

-- the last entry of a row that redefines nothing, behind an entry of this number
abbrev pub latest_at : Option (List ℕ) → ℕ → Option ℕ → Option ℕ
latest_at None number latest = Some number
latest_at (Some name) number latest = latest

-- and behind this entry
abbrev pub latest_behind : Option ℕ → Resolved → Option ℕ
latest_behind latest e = latest_at e.redefines e.number latest

-- where the entries behind an entry in its row stand
abbrev pub beside : Setting → Resolved → Setting
beside w e = record { tables = w.tables; own = w.own; redefined = w.redefined; latest = latest_behind w.latest e }

-- the number of the last of these entries; this one where there is none
abbrev pub last_entry_number : ℕ → Forest Resolved → ℕ
last_entry_number n NoEntries = n
last_entry_number n (AnEntry e children more) = last_entry_number (last_entry_number e.number children) more

-- of an entry with this number and those beneath it, up to the last one, some entry is the count of one of these tables
abbrev pub holds_count : List Table → (number last : ℕ) → Bool
holds_count varying number last = list_any (λ (t : Table). nat_le number t.count && nat_le t.count last) varying

-- an entry that stands there
abbrev pub entry_inside : Source → Setting → Tree Resolved → DraftEntry
entry_inside source w t = record {
  side = source.side;
  number = t.top.number;
  last = last_entry_number t.top.number t.beneath;
  tables = (inside w t.top).tables;
  kind = t.top.kind;
  own = (inside w t.top).own;
  redefined = (inside w t.top).redefined;
  counts = holds_count source.varying t.top.number (last_entry_number t.top.number t.beneath);
}

-- the entry, with its names
abbrev pub own_bearer : Source → List (List ℕ) → Setting → Tree Resolved → Bearer DraftEntry
own_bearer source above w t = record { name = t.top.name; above = above; entry = entry_inside source w t }

-- Entries side by side with those beneath them, a parent before its children; a group that is FILLER adds no name.
abbrev pub draft_entries : Source → List (List ℕ) → Setting → Forest Resolved → List (Bearer DraftEntry)
draft_entries source above w NoEntries = []
draft_entries source above w (AnEntry e children more) =
    own_bearer source above w (record { top = e; beneath = children })
    ∷ (draft_entries source (with_name e.name above) (inside w e) children ++ draft_entries source above (beside w e) more)

-- where an entry stands, without where that lies in memory
abbrev pub seen_setting : StoredSetting → Setting
seen_setting w = record { tables = w.tables.items; own = w.own; redefined = w.redefined; latest = w.latest }

-- the record that has the entries, without where its tables lie
abbrev pub seen_source : StoredSource → Source
seen_source s = record { side = s.side; varying = s.varying.now }

-- an entry of the code with its names, where it stands so, without what is beneath it
abbrev pub node_bearer : StoredSource → List (Bor (List ℕ)) → StoredSetting → Node → Bearer DraftEntry
node_bearer source above w n = own_bearer (seen_source source) (texts above) (seen_setting w) (node n)

-- what is known of a listed entry
abbrev pub draft_entry : ListedEntry → DraftEntry
draft_entry e = record {
  side = e.side;
  number = (out-Node e.entry.now).number;
  last = e.last;
  tables = e.tables.items;
  kind = (out-Node e.entry.now).kind;
  own = e.own;
  redefined = e.redefined;
  counts = e.counts;
}

-- a listed entry, with its names
abbrev pub listed_bearer : Listed ListedEntry → Bearer DraftEntry
listed_bearer b = bearer_by draft_entry b

-- entries are listed behind those before
abbrev pub ListsBehind : List (Listed ListedEntry) → List (Listed ListedEntry) → List (Bearer DraftEntry) → Type 0
ListsBehind before after more = map listed_bearer after ≡ map listed_bearer before ++ more

-- an entry of the code and those beneath it are listed behind those before, as they stand in groups of these names and where its row stands
abbrev pub ListsTree : StoredSource → List (Bor (List ℕ)) → StoredSetting → Node → (before after : List (Listed ListedEntry)) → Type 0
ListsTree source above w n before after =
    ListsBehind before after (draft_entries (seen_source source) (texts above) (seen_setting w) (tree_of n))

-- a record stands in no table and in no redefinition
abbrev pub outside : Setting
outside = record { tables = []; own = true; redefined = None; latest = None }

-- the entries of a record
abbrev pub record_entries : Side → Forest Resolved → List (Bearer DraftEntry)
record_entries side tree = draft_entries (record { side = side; varying = tables_of tree }) [] outside tree
