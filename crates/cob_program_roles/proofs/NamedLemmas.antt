-- Records under another name.
use Rattle.std.proofs.Common.{◌≡◌, ◌∙◌, ◌||◌, Bool, is_some, ℕ, List, Option, Some, Result, Ok, Err, IfOk, refl, sym, ap, subst}
use Rattle.std.specs.Bool.{Decides}
use Rattle.cob_back_moves.proofs.SameLemmas.{opened}
use Rattle.cob_back_moves.specs.Same.{IsSameRecord, unnamed}
use Rattle.cob_copybook.specs.Books.{IsBookOf, record_name}
use Rattle.cob_copybook.specs.declared.role.Role.{Role}
use Rattle.cob_copybook_conditions.specs.Laws.{OneListOfConditionNames}
use Rattle.cob_copybook_conditions.specs.Names.{AreConditionNamesOf, PlainConditionName}
use Rattle.cob_copybook_tree.specs.declared.node.Node.{Node}
use Rattle.cob_copybook_tree.specs.declared.node.Node.TheViews.{out-Node}
use Rattle.cob_copybook_tree.specs.Forests.{Forest, NoEntries, AnEntry}
use Rattle.cob_copybook_tree.specs.Nodes.{Resolved, is_group_kind, tree_of}
use Rattle.cob_copybook_tree.specs.Lengths.{greatest_number, sum_of}
use Rattle.cob_layout_places.specs.Lengths.{times}
use Rattle.cob_program_roles.specs.Laws.{NameAloneChanges, NamingKeepsConditionNames, NamingKeepsEntries, NamingKeepsLengths, NamingKeepsPlaces}
use Rattle.cob_program_roles.specs.Named.{DescribesRecordNamed, HaveSameConditionNames, IsNamedIn, may_be_named, name_of_record, named_record}

-- ---- the record of a book

pub root_name : (n : Node) (t : Forest Resolved) → tree_of n ≡ t → (out-Node n).name ≡ name_of_record t
root_name n t is = sym (ap name_of_record (opened n)) ∙ ap name_of_record is

pub root_nameable : (n : Node) (t : Forest Resolved) → tree_of n ≡ t → (is_some (out-Node n).name || is_group_kind (out-Node n).kind) ≡ may_be_named t
root_nameable n t is = sym (ap may_be_named (opened n)) ∙ ap may_be_named is

-- ---- a record under another name

told_then_named : (name : List ℕ) (t : Forest Resolved) → named_record name (unnamed t) ≡ named_record name t
told_then_named name NoEntries = refl
told_then_named name (AnEntry e children more) = refl

named_stays : (name : List ℕ) (t : Forest Resolved) → name_of_record t ≡ Some name → named_record name t ≡ t
named_stays name NoEntries is = refl
named_stays name (AnEntry e children more) is = ap (λ (n : Option (List ℕ)). AnEntry (record e { name = n }) children more) (sym is)

pub name_alone_changes : NameAloneChanges
name_alone_changes role name text named d =
    sym (named_stays name d.0.after d.0.borne) ∙ sym (told_then_named name d.0.after) ∙ ap (named_record name) (sym d.0.same) ∙ told_then_named name d.0.before

pub keeps_condition_names : OneListOfConditionNames → NamingKeepsConditionNames
keeps_condition_names one role name text named ns (described, (ms, first, second)) = (
  λ are. subst (AreConditionNamesOf named) (one text ms ns first are) second,
  λ are. subst (AreConditionNamesOf text) (one named ms ns second are) first,
)

pub keeps_entries : NamingKeepsEntries
keeps_entries name NoEntries = refl
keeps_entries name (AnEntry e children more) = refl

greatest_stays : (name : List ℕ) (t : Forest Resolved) → sum_of greatest_number (named_record name t) ≡ sum_of greatest_number t
greatest_stays name NoEntries = refl
greatest_stays name (AnEntry e children more) = refl

counted_stays : (counts name : List ℕ) (t : Forest Resolved) → sum_of (times counts) (named_record name t) ≡ sum_of (times counts) t
counted_stays counts name NoEntries = refl
counted_stays counts name (AnEntry e children more) = refl

pub keeps_lengths : NamingKeepsLengths
keeps_lengths = record { greatest = greatest_stays; counted = counted_stays }

pub keeps_places : NamingKeepsPlaces
keeps_places counts number name NoEntries subscripts = refl
keeps_places counts number name (AnEntry e children more) subscripts = refl

-- ---- a record that is read

-- what is told of the one record that a text describes is told of the text
pub described_by : {E : Type 0} (r : Result Bool E) (role : Role) (text named : List ℕ) (before : Forest Resolved) → IsBookOf role text before
    → ((t : Forest Resolved) → IsBookOf role text t → before ≡ t) → IfOk r (λ yes. Decides yes (IsNamedIn role before named))
    → IfOk r (λ yes. Decides yes (DescribesRecordNamed role (record_name role) text named))
described_by (Ok answer) role text named before found one told = (
  λ is. let h = told.0 is in record { before = before; after = h.0; described = found; described_named = h.1; same = h.2; borne = h.3 },
  λ d. told.1 (d.after, d.described_named, subst (λ (t : Forest Resolved). IsSameRecord t d.after) (sym (one d.before d.described)) d.same, d.borne),
)
described_by (Err e) role text named before found one told = tt

-- ---- condition-names

-- what is told of the condition-names of one text is told of the text
pub same_by : {E : Type 0} (r : Result Bool E) (text named : List ℕ) (ns : List PlainConditionName) → AreConditionNamesOf text ns → ((ms : List PlainConditionName) → AreConditionNamesOf text ms → ns ≡ ms)
    → IfOk r (λ yes. Decides yes (AreConditionNamesOf named ns)) → IfOk r (λ yes. Decides yes (HaveSameConditionNames text named))
same_by (Ok answer) text named ns found one told = (
  λ is. (ns, found, told.0 is),
  λ h. told.1 (subst (AreConditionNamesOf named) (sym (one h.0 h.1)) h.2),
)
same_by (Err e) text named ns found one told = tt
