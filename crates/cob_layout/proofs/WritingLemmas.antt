-- A place that meets the item of no kept count: its bytes change, and these counts stay.
use Rattle.std.proofs.Common.{◌≡◌, ◌⊎◌, ℕ, ◌+◌, ◌≤◌, List, length, subst, arith, Ok}
use Rattle.std.specs.Prelude.{slice_index}
use Rattle.cob_copybook_tree.specs.Forests.{Forest}
use Rattle.cob_copybook_tree.specs.Nodes.{Resolved}
use Rattle.cob_layout.specs.declared.fields.Place.{Place}
use Rattle.cob_layout.specs.Fields.{with_field}
use Rattle.cob_layout_places.specs.declared.varying.Table.{Table}
use Rattle.cob_layout_places.specs.Counts.{IsCounted, IsCountValue}
use Rattle.cob_layout.specs.Kept.{counted, WritesKeep}
use Rattle.cob_layout.proofs.KeepLaw.{as_many_with, beside}
use Rattle.cob_layout.proofs.NeedLemmas.{known}

same_says : (t : Forest Resolved) (before field : List ℕ) (p : Place) (x : Table) (v : ℕ) (c : List ℕ) → p.offset + p.length ≤ length before → length field ≡ p.length
    → (is : IsCounted t before x c (Ok v)) → ((p.offset + p.length ≤ is.found.offset) ⊎ (is.found.offset + is.found.length ≤ p.offset)) → IsCounted t (with_field before p field) x c (Ok v)
same_says t before field p x v c within long is apart = record {
  item = is.item;
  is = is.is;
  found = is.found;
  stands = is.stands;
  says = (
    omega (arith, is.says.0, as_many_with p before field within long),
    subst (λ (part : List ℕ). IsCountValue is.item x part v) (beside is.found.offset is.found.length p before field within long apart) is.says.1,
  );
}

pub writes_keep : WritesKeep
writes_keep t before field p x v s within long i apart (counted _ _ c earlier rest is) =
    let k = known t x s i in
    counted x v c
    (λ y j le. writes_keep t before field p y (slice_index c y.number) s within long j (λ z h lower. apart z h (omega (arith, lower, le, k.before))) (earlier y j le))
    rest
    (same_says t before field p x v c within long is (apart x i (omega arith) v c is.found earlier rest is is.stands))
