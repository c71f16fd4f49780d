-- What stays of a record under another name.
use Rattle.std.specs.Prelude.{◌≡◌, ℕ, List, drop}
use Rattle.cob_copybook.specs.declared.role.Role.{Role}
use Rattle.cob_copybook_conditions.specs.Names.{AreConditionNamesOf, PlainConditionName}
use Rattle.cob_copybook_tree.specs.Forests.{Forest, flat}
use Rattle.cob_copybook_tree.specs.Lengths.{greatest_number, sum_of}
use Rattle.cob_copybook_tree.specs.Nodes.{Resolved}
use Rattle.cob_layout_places.specs.Lengths.{times}
use Rattle.cob_layout_places.specs.Places.{place_of}
use Rattle.cob_program_roles.specs.Named.{DescribesNamed, named_record}

-- law: what a text under another name describes is the record with that name, and else as it is
abbrev pub NameAloneChanges : Type 0
NameAloneChanges = (role : Role) (name text named : List ℕ) → (d : DescribesNamed role name text named) → d.0.after ≡ named_record name d.0.before

-- law: and its condition-names are those of the text that it stands for
abbrev pub NamingKeepsConditionNames : Type 0
NamingKeepsConditionNames = (role : Role) (name text named : List ℕ) (ns : List PlainConditionName) → DescribesNamed role name text named
    → (AreConditionNamesOf text ns → AreConditionNamesOf named ns) × (AreConditionNamesOf named ns → AreConditionNamesOf text ns)

-- law: the entries beneath a record are the same under another name
abbrev pub NamingKeepsEntries : Type 0
NamingKeepsEntries = (name : List ℕ) (t : Forest Resolved) → drop 1 (flat (named_record name t)) ≡ drop 1 (flat t)

-- law: so is its greatest length, and that under counts
pub record NamingKeepsLengths : Type 0 where
  pub greatest : (name : List ℕ) (t : Forest Resolved) → sum_of greatest_number (named_record name t) ≡ sum_of greatest_number t
  pub counted : (counts : List ℕ) (name : List ℕ) (t : Forest Resolved) → sum_of (times counts) (named_record name t) ≡ sum_of (times counts) t

-- law: each entry has the same place
abbrev pub NamingKeepsPlaces : Type 0
NamingKeepsPlaces = (counts : List ℕ) (number : ℕ) (name : List ℕ) (t : Forest Resolved) (subscripts : List ℕ)
    → place_of (times counts) number (named_record name t) 0 0 subscripts ≡ place_of (times counts) number t 0 0 subscripts
