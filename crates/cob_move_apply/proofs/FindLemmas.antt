-- How many counts are read where a place is found.
use Rattle.std.proofs.Common.{◌≡◌, ℕ, ◌+◌, Bool, List, min, subst, Ok, Err, Result}
use Rattle.cob_copybook_tree.specs.Forests.{Forest}
use Rattle.cob_copybook_tree.specs.Nodes.{Resolved}
use Rattle.cob_layout.proofs.NeedLemmas.{those_needed}
use Rattle.cob_layout.proofs.ReferenceLemmas.{refers_has}
use Rattle.cob_layout.proofs.RefreshLemmas.{numbers_kept}
use Rattle.cob_layout.specs.declared.fields.Place.{Place}
use Rattle.cob_layout.specs.declared.finding.FindFault.{FindFault}
use Rattle.cob_layout.specs.declared.finding.FindFault.TheVariants.{Count, Subscript}
use Rattle.cob_layout.specs.Counting.{NeededOf, greatest_counts}
use Rattle.cob_layout.specs.Finding.{IsFound, OnCounts}
use Rattle.cob_layout.specs.Kept.{KeptGiveNeeded, ReadOnce, TakenAnew, kept_after, most_reads, kept_numbers}
use Rattle.cob_layout.specs.declared.layout.PlaceFault.{PlaceFault}
use Rattle.cob_layout.specs.Laws.{OneOfNeeded}
use Rattle.cob_layout.specs.Sound.{IsSound}
use Rattle.cob_layout_places.specs.declared.counts.CountFault.{CountFault}
use Rattle.cob_move_data.specs.declared.operands.Operand.{Operand}
use Rattle.cob_layout_places.specs.Counts.{tables_of}
use Rattle.cob_move_data.specs.Moves.{IsOperand}
use Rattle.cob_layout_places.specs.Needs.{NeedsAreRead, is_read, needed_tables}
use Rattle.cob_move_apply.specs.Spent.{IsSpent, IsSpentAtStop}
use Rattle.cob_move_apply.specs.Surveyed.{IsSurvey}
use Rattle.cob_move_apply.specs.declared.survey.Survey.{Survey}
use Rattle.cob_move_apply.proofs.SpentLemmas.{as_many, at_stop, read_spends, refused_spends}

-- what is known of the counts of a storage
pub record Laws : Type 0 where
  pub once : ReadOnce
  pub needed : KeptGiveNeeded
  pub read : NeedsAreRead
  pub one : OneOfNeeded

-- how many counts of a storage were read for an operand
abbrev pub ReadsFor : Forest Resolved → List ℕ → Operand → Bool → Survey → Survey → Type 0
ReadsFor t bytes o receiving old new =
    (c : Result (List ℕ) CountFault) × (n : ℕ)
    × TakenAnew t bytes (is_read t o.entry.node receiving) (tables_of t) (kept_numbers old.counts.kept) (greatest_counts t) c n
    × (new.reads ≡ min (old.reads + n) most_reads)

-- what is kept behind the operand's counts
abbrev pub KeptFor : Forest Resolved → List ℕ → Operand → Bool → Survey → Survey → Type 0
KeptFor t bytes o receiving old new =
    (c : List ℕ) × NeededOf t o.entry.node receiving bytes (Ok c)
    × (kept_numbers new.counts.kept ≡ kept_after (is_read t o.entry.node receiving) c (tables_of t) (kept_numbers old.counts.kept))

-- counts that are kept and those that are read anew are those that the operand needs
outcome_is : Laws → (t : Forest Resolved) (bytes : List ℕ) (o : Operand) (receiving : Bool) (old : Survey) (a b : Result (List ℕ) CountFault) (n : ℕ) → IsSound t → IsOperand t o → IsSurvey t bytes old
    → TakenAnew t bytes (is_read t o.entry.node receiving) (tables_of t) (kept_numbers old.counts.kept) (greatest_counts t) a n
    → NeededOf t o.entry.node receiving bytes b → a ≡ b
outcome_is laws t bytes o receiving old a b n sound is survey taken needed =
    laws.one t o.entry.node receiving bytes a b (
      needed_tables t o.entry.node receiving (tables_of t),
      those_needed laws.read t o.entry.node receiving sound (refers_has o.entry.node o.entry.subscripts.items t is.refers),
      laws.needed t bytes o.entry.node receiving (kept_numbers old.counts.kept) a n sound (numbers_kept t bytes old.counts.kept (as_many t old survey.room) survey.kept) taken,
    )
    needed

kept_spends : Laws → (t : Forest Resolved) (bytes : List ℕ) (o : Operand) (receiving : Bool) (old new : Survey) → IsSound t → IsOperand t o → IsSurvey t bytes old
    → KeptFor t bytes o receiving old new → ReadsFor t bytes o receiving old new → IsSpent t 0 old new
kept_spends laws t bytes o receiving old new sound is survey (d, needed, kept) (c, n, taken, reads) =
    let same : c ≡ Ok d = outcome_is laws t bytes o receiving old c (Ok d) n sound is survey taken needed in
    read_spends laws.once t bytes (is_read t o.entry.node receiving) (greatest_counts t) d n old new
    (subst (λ (r : Result (List ℕ) CountFault). TakenAnew t bytes (is_read t o.entry.node receiving) (tables_of t) (kept_numbers old.counts.kept) (greatest_counts t) r n) same taken) reads kept

fault_spends : Laws → (t : Forest Resolved) (bytes : List ℕ) (o : Operand) (receiving : Bool) (old new : Survey) (f : CountFault) → IsSound t → IsOperand t o → IsSurvey t bytes old
    → NeededOf t o.entry.node receiving bytes (Err f) → ReadsFor t bytes o receiving old new → IsSpentAtStop t 0 old new
fault_spends laws t bytes o receiving old new f sound is survey needed (c, n, taken, reads) =
    let same : c ≡ Err f = outcome_is laws t bytes o receiving old c (Err f) n sound is survey taken needed in
    refused_spends laws.once t bytes (is_read t o.entry.node receiving) (greatest_counts t) f n old new
    (subst (λ (r : Result (List ℕ) CountFault). TakenAnew t bytes (is_read t o.entry.node receiving) (tables_of t) (kept_numbers old.counts.kept) (greatest_counts t) r n) same taken) reads

-- where a place is found
pub found_spends : Laws → (t : Forest Resolved) (bytes : List ℕ) (o : Operand) (receiving : Bool) (old new : Survey) (r : Result Place FindFault) (p : Place) → r ≡ Ok p → IsSound t → IsOperand t o
    → IsSurvey t bytes old → OnCounts r (KeptFor t bytes o receiving old new) → ReadsFor t bytes o receiving old new → IsSpent t 0 old new
found_spends laws t bytes o receiving old new r p e sound is survey kept reads =
    kept_spends laws t bytes o receiving old new sound is survey (subst (λ (s : Result Place FindFault). OnCounts s (KeptFor t bytes o receiving old new)) e kept) reads

stopped : Laws → (t : Forest Resolved) (bytes : List ℕ) (o : Operand) (receiving : Bool) (old new : Survey) (f : FindFault) → IsSound t → IsOperand t o → IsSurvey t bytes old
    → IsFound t o.entry receiving bytes (Err f) → OnCounts (Err f) (KeptFor t bytes o receiving old new) → ReadsFor t bytes o receiving old new → IsSpentAtStop t 0 old new
stopped laws t bytes o receiving old new (Count f) sound is survey needed kept reads =
    fault_spends laws t bytes o receiving old new f sound is survey needed reads
stopped laws t bytes o receiving old new (Subscript f) sound is survey found kept reads =
    at_stop t 0 old new (kept_spends laws t bytes o receiving old new sound is survey kept reads)

-- where none is
pub nowhere_spends : Laws → (t : Forest Resolved) (bytes : List ℕ) (o : Operand) (receiving : Bool) (old new : Survey) (r : Result Place FindFault) (f : FindFault) → r ≡ Err f → IsSound t → IsOperand t o
    → IsSurvey t bytes old → IsFound t o.entry receiving bytes r → OnCounts r (KeptFor t bytes o receiving old new) → ReadsFor t bytes o receiving old new → IsSpentAtStop t 0 old new
nowhere_spends laws t bytes o receiving old new r f e sound is survey found kept reads =
    stopped laws t bytes o receiving old new f sound is survey
    (subst (λ (s : Result Place FindFault). IsFound t o.entry receiving bytes s) e found)
    (subst (λ (s : Result Place FindFault). OnCounts s (KeptFor t bytes o receiving old new)) e kept) reads

-- where an element is past its table's count, and its counts are valid
pub past_spends : Laws → (t : Forest Resolved) (bytes : List ℕ) (o : Operand) (receiving : Bool) (old new : Survey) (r : Result Place FindFault) (g : FindFault) (f : PlaceFault) → r ≡ Err g → g ≡ Subscript f → IsSound t → IsOperand t o
    → IsSurvey t bytes old → OnCounts r (KeptFor t bytes o receiving old new) → ReadsFor t bytes o receiving old new → IsSpent t 0 old new
past_spends laws t bytes o receiving old new r g f e same sound is survey kept reads =
    let fault : OnCounts (Err g) (KeptFor t bytes o receiving old new) = subst (λ (s : Result Place FindFault). OnCounts s (KeptFor t bytes o receiving old new)) e kept in
    kept_spends laws t bytes o receiving old new sound is survey (subst (λ (h : FindFault). OnCounts (Err h) (KeptFor t bytes o receiving old new)) same fault) reads
