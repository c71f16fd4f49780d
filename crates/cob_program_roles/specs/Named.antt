-- The record of a copybook under the name of its role.
use Rattle.std.specs.Prelude.{◌≡◌, ◌⊎◌, ⊤, Bool, true, false, ◌||◌, is_some, ℕ, List, Option, Some, None}
use Rattle.cob_back_moves.specs.Same.{IsSameRecord}
use Rattle.cob_copybook.specs.Books.{IsBookOf, record_name}
use Rattle.cob_copybook.specs.declared.role.Role.{Role}
use Rattle.cob_copybook.specs.declared.role.Role.TheVariants.{In, Out}
use Rattle.cob_copybook_conditions.specs.Names.{AreConditionNamesOf, PlainConditionName}
use Rattle.cob_copybook_tree.specs.Forests.{Forest, NoEntries, AnEntry}
use Rattle.cob_copybook_tree.specs.Nodes.{Resolved, is_group_kind}
use Rattle.cob_program_roles.specs.declared.naming.Ways.{Ways}
use Rattle.cob_program_roles.specs.declared.naming.Ways.TheVariants as way

-- the name of a record
abbrev pub name_of_record : Forest Resolved → Option (List ℕ)
name_of_record NoEntries = None
name_of_record (AnEntry e children more) = e.name

-- a record is a group
abbrev pub is_group_record : Forest Resolved → Bool
is_group_record NoEntries = false
is_group_record (AnEntry e children more) = is_group_kind e.kind

-- A record may have another name: it has one, or is a group. An item by itself that has no name keeps none.
abbrev pub may_be_named : Forest Resolved → Bool
may_be_named t = is_some (name_of_record t) || is_group_record t

-- the text describes a record that may have another name
abbrev pub DescribesNameable : Role → List ℕ → Type 0
DescribesNameable role text = (t : Forest Resolved) × IsBookOf role text t × (may_be_named t ≡ true)

-- A text describes in a role the record that another text describes, with this as its name: the records are one, but for their names.
pub record DescribesRecordNamed (role : Role) (name text named : List ℕ) : Type 0 where
  pub before : Forest Resolved
  pub after : Forest Resolved
  pub described : IsBookOf role text before
  pub described_named : IsBookOf role named after
  pub same : IsSameRecord before after
  pub borne : name_of_record after ≡ Some name

-- two texts have the same condition-names: behind the same entries, with the same names and values, in one order
abbrev pub HaveSameConditionNames : (text named : List ℕ) → Type 0
HaveSameConditionNames text named = (ns : List PlainConditionName) × AreConditionNamesOf text ns × AreConditionNamesOf named ns

-- A text describes the record of another text with this as its name, and has the same condition-names.
abbrev pub DescribesNamed : Role → (name text named : List ℕ) → Type 0
DescribesNamed role name text named = DescribesRecordNamed role name text named × HaveSameConditionNames text named

-- a text describes in a role this record, with the name of the role
abbrev pub IsNamedIn : Role → Forest Resolved → List ℕ → Type 0
IsNamedIn role before named =
    (after : Forest Resolved) × IsBookOf role named after × IsSameRecord before after × (name_of_record after ≡ Some (record_name role))

-- the other role
abbrev pub other_role : Role → Role
other_role In = Out
other_role Out = In

-- and so it is in the other role too, where the way back is gone
abbrev pub DescribesBack : Ways → Role → (text named : List ℕ) → Type 0
DescribesBack way.There role text named = ⊤
DescribesBack way.ThereAndBack role text named = DescribesNamed (other_role role) (record_name (other_role role)) text named

-- What stands for a text whose record is to be named by its role, in each way that is gone: a text that describes the same record under that name; or itself, where
-- it describes none that may have another name.
abbrev pub IsNamedByRole : Ways → Role → (text named : List ℕ) → Type 0
IsNamedByRole ways role text named =
    (DescribesNamed role (record_name role) text named × DescribesBack ways role text named) ⊎ ((DescribesNameable role text → ⊥) × (named ≡ text))

-- a record with this name, and else as it is
abbrev pub named_record : List ℕ → Forest Resolved → Forest Resolved
named_record name NoEntries = NoEntries
named_record name (AnEntry e children more) = AnEntry (record e { name = Some name }) children more
