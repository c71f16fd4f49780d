-- Whether a record is one of its layout, and what of a storage is written, is determined.
use Rattle.std.proofs.Common.{◌≡◌, ℕ, List, take, refl, sym, ◌∙◌, ap, Ok, Err, Result, inl, inr, true, false}
use Rattle.cob_records.specs.declared.records.Form.{Form}
use Rattle.cob_records.specs.declared.records.Form.TheVariants.{Fixed, Variable, Blocked}
use Rattle.cob_copybook_tree.specs.Forests.{Forest}
use Rattle.cob_copybook_tree.specs.Nodes.{Resolved}
use Rattle.cob_layout_places.specs.declared.counts.CountFault.{CountFault}
use Rattle.cob_layout.specs.Counting.{CountsOf}
use Rattle.cob_layout.specs.Laws.{OneOfAll}
use Rattle.cob_layout.specs.Storage.{IsCurrent, IsCurrentPart, current_length}
use Rattle.cob_convert_stream.specs.declared.misfit.MeasureFault.{MeasureFault}
use Rattle.cob_convert_stream.specs.declared.misfit.MeasureFault.TheVariants.{Count, Length}
use Rattle.cob_convert_stream.specs.Sizes.{IsMisfit, IsSized, IsMeasureFault}
use Rattle.cob_convert_stream.specs.Output.{IsOutputOf}
use Rattle.cob_convert_stream.specs.Laws.{RecordsAreJudgedOnce, SizedAreStorages}

-- a record of its layout is a storage of it
pub sized_are_storages : SizedAreStorages
sized_are_storages Fixed t input sized = inl sized
sized_are_storages Variable t input sized = inr sized
sized_are_storages (Blocked most) t input sized = inr sized

-- counts that are valid are no fault
valid_or_not : OneOfAll → (t : Forest Resolved) (bytes counts : List ℕ) (fault : CountFault)
    → CountsOf t bytes (Ok counts) → CountsOf t bytes (Err fault) → ⊥
valid_or_not law t bytes counts fault valid faulty =
    let same : ◌≡◌ {A = Result (List ℕ) CountFault} (Ok counts) (Err fault) = law t bytes (Ok counts) (Err fault) valid faulty in
    cc

one_list : OneOfAll → (t : Forest Resolved) (bytes a b : List ℕ) → CountsOf t bytes (Ok a) → CountsOf t bytes (Ok b) → a ≡ b
one_list law t bytes a b p q =
    let same : ◌≡◌ {A = Result (List ℕ) CountFault} (Ok a) (Ok b) = law t bytes (Ok a) (Ok b) p q in
    cc

one_fault : OneOfAll → (t : Forest Resolved) (bytes : List ℕ) (a b : CountFault) → CountsOf t bytes (Err a) → CountsOf t bytes (Err b) → a ≡ b
one_fault law t bytes a b p q =
    let same : ◌≡◌ {A = Result (List ℕ) CountFault} (Err a) (Err b) = law t bytes (Err a) (Err b) p q in
    cc

current_or_misfit : OneOfAll → (t : Forest Resolved) (input : List ℕ) (why : MeasureFault) → IsCurrent t input → IsMisfit t input why → ⊥
current_or_misfit law t input (Count offset) (counts, valid, size) (fault, faulty, long, at) = valid_or_not law t input counts fault valid faulty
current_or_misfit law t input Length (counts, valid, size) misfit = elim misfit [
  | inl (fault, faulty, short) ↦ valid_or_not law t input counts fault valid faulty
  | inr (others, also, other) ↦ other (size ∙ ap (λ c. current_length c t) (one_list law t input counts others valid also))
]

sized_or_misfit : OneOfAll → (t : Forest Resolved) (form : Form) (input : List ℕ) (why : MeasureFault) → IsSized form t input → IsMeasureFault form t input why → ⊥
sized_or_misfit law t Fixed input why sized misfit = misfit
sized_or_misfit law t Variable input why sized misfit = current_or_misfit law t input why sized misfit
sized_or_misfit law t (Blocked most) input why sized misfit = current_or_misfit law t input why sized misfit

-- a count stands within the bytes or not
within_or_not : (a b : CountFault) → a ≡ b → a.short ≡ false → b.short ≡ true → ⊥
within_or_not a b same long short = cc

one_current : OneOfAll → (t : Forest Resolved) (input : List ℕ) (a b : MeasureFault) → IsMisfit t input a → IsMisfit t input b → a ≡ b
one_current law t input (Count m) (Count n) (f, p, long, at) (g, q, also, there) =
    ap Count (at ∙ ap (λ (x : CountFault). x.offset) (one_fault law t input f g p q) ∙ sym there)
one_current law t input (Count m) Length (f, p, long, at) q = elim q [
  | inl (g, faulty, short) ↦ absurd (within_or_not f g (one_fault law t input f g p faulty) long short)
  | inr (counts, valid, other) ↦ absurd (valid_or_not law t input counts f valid p)
]
one_current law t input Length (Count n) p (g, q, long, at) = elim p [
  | inl (f, faulty, short) ↦ absurd (within_or_not g f (one_fault law t input g f q faulty) long short)
  | inr (counts, valid, other) ↦ absurd (valid_or_not law t input counts g valid q)
]
one_current law t input Length Length p q = refl

one_misfit : OneOfAll → (t : Forest Resolved) (form : Form) (input : List ℕ) (a b : MeasureFault) → IsMeasureFault form t input a → IsMeasureFault form t input b → a ≡ b
one_misfit law t Fixed input a b p q = absurd p
one_misfit law t Variable input a b p q = one_current law t input a b p q
one_misfit law t (Blocked most) input a b p q = one_current law t input a b p q

-- what is written has counts that are valid
written_counts : (form : Form) (t : Forest Resolved) (storage written : List ℕ) → IsOutputOf form t storage written → (counts : List ℕ) × CountsOf t storage (Ok counts)
written_counts Fixed t storage written p = p.0
written_counts Variable t storage written (counts, valid, part) = (counts, valid)
written_counts (Blocked most) t storage written (counts, valid, part) = (counts, valid)

one_part : OneOfAll → (t : Forest Resolved) (storage a b : List ℕ) → IsCurrentPart t storage a → IsCurrentPart t storage b → a ≡ b
one_part law t storage a b (c, valid, part) (d, also, same) =
    part ∙ ap (λ x. take (current_length x t) storage) (one_list law t storage c d valid also) ∙ sym same

one_output : OneOfAll → (form : Form) (t : Forest Resolved) (storage a b : List ℕ) → IsOutputOf form t storage a → IsOutputOf form t storage b → a ≡ b
one_output law Fixed t storage a b p q = p.1 ∙ sym q.1
one_output law Variable t storage a b p q = one_part law t storage a b p q
one_output law (Blocked most) t storage a b p q = one_part law t storage a b p q

output_or_fault : OneOfAll → (form : Form) (t : Forest Resolved) (storage written : List ℕ) (fault : CountFault)
    → IsOutputOf form t storage written → CountsOf t storage (Err fault) → ⊥
output_or_fault law form t storage written fault writes faulty =
    let (counts, valid) = written_counts form t storage written writes in
    valid_or_not law t storage counts fault valid faulty

pub records_are_judged_once : OneOfAll → RecordsAreJudgedOnce
records_are_judged_once law form tree = record {
  sized_or_misfit = λ input why p q. sized_or_misfit law tree form input why p q;
  one_misfit = λ input a b p q. one_misfit law tree form input a b p q;
  one_output = λ storage a b p q. one_output law form tree storage a b p q;
  output_or_fault = λ storage written fault p q. output_or_fault law form tree storage written fault p q;
}
