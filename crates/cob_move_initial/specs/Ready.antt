-- What the storage before the first move asks of entries: that they have one.
use Rattle.std.specs.Prelude.{◌<◌, ◌≤◌, false, is_some}
use Rattle.cob_limits.specs.Limits.{longest_record}
use Rattle.cob_copybook_tree.specs.Forests.{Forest}
use Rattle.cob_copybook_tree.specs.Nodes.{Resolved}
use Rattle.cob_copybook_tree.specs.Lengths.{greatest_number, sum_of, whole_length}
use Rattle.cob_copybook_rules.specs.Values.{MayHaveValue, AreValues}
use Rattle.cob_layout_places.specs.Lengths.{MayOccur}
use Rattle.cob_layout.specs.Sound.{IsStorableKind, AreStorable}

-- Entries side by side, which stand in no redefinition and beneath no group with a value, occur at least once under greatest counts, their items
-- can be stored, their values fit, and they aren't longer than the longest record.
pub record HaveInitialStorage (f : Forest Resolved) : Type 0 where
  pub possible : MayOccur f
  pub storable : AreStorable f
  pub values : AreValues false false f
  pub short : sum_of greatest_number f ≤ longest_record

-- so is one of them, which redefines nothing, with those beneath it
pub record HasInitialStorage (entry : Resolved) (children : Forest Resolved) : Type 0 where
  pub occurs : 0 < greatest_number entry
  pub possible : MayOccur children
  pub storable : IsStorableKind entry.kind
  pub beneath : AreStorable children
  pub value : MayHaveValue false false entry children entry.value
  pub values : AreValues false (is_some entry.value) children
  pub short : whole_length greatest_number entry children ≤ longest_record
