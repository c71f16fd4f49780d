-- Whether a record is one of its layout, and what of a storage is written, is determined.
use Rattle.std.specs.Prelude.{◌≡◌, ℕ, List, Err}
use Rattle.cob_records.specs.declared.records.Form.{Form}
use Rattle.cob_copybook_tree.specs.Forests.{Forest}
use Rattle.cob_copybook_tree.specs.Nodes.{Resolved}
use Rattle.cob_layout_places.specs.declared.counts.CountFault.{CountFault}
use Rattle.cob_layout.specs.Counting.{CountsOf}
use Rattle.cob_layout.specs.Storage.{IsStorage}
use Rattle.cob_convert_stream.specs.declared.misfit.MeasureFault.{MeasureFault}
use Rattle.cob_convert_stream.specs.Sizes.{IsMeasureFault, IsSized}
use Rattle.cob_convert_stream.specs.Output.{IsOutputOf}

-- a record that is one of its layout holds a record of it
abbrev pub SizedAreStorages : Type 0
SizedAreStorages = (form : Form) (tree : Forest Resolved) (input : List ℕ) → IsSized form tree input → IsStorage tree input

-- A record is one of its layout or isn't, for one reason; and of a storage one part is written, where no count of it is at fault.
pub record IsJudgedOnce (form : Form) (tree : Forest Resolved) : Type 0 where
  pub sized_or_misfit : (input : List ℕ) (why : MeasureFault) → IsSized form tree input → IsMeasureFault form tree input why → ⊥
  pub one_misfit : (input : List ℕ) (a b : MeasureFault) → IsMeasureFault form tree input a → IsMeasureFault form tree input b → a ≡ b
  pub one_output : (storage a b : List ℕ) → IsOutputOf form tree storage a → IsOutputOf form tree storage b → a ≡ b
  pub output_or_fault : (storage written : List ℕ) (fault : CountFault) → IsOutputOf form tree storage written → CountsOf tree storage (Err fault) → ⊥

-- so it is in every form, for every record description
abbrev pub RecordsAreJudgedOnce : Type 0
RecordsAreJudgedOnce = (form : Form) (tree : Forest Resolved) → IsJudgedOnce form tree
