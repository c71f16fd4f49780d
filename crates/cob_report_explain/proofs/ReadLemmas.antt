-- Why a record that was read is none of its layout.
use Rattle.std.proofs.Common.{◌≡◌, ◌∙◌, ap, false, refl, List, ℕ}
use Rattle.cob_copybook_tree.specs.Forests.{Forest}
use Rattle.cob_copybook_tree.specs.Nodes.{Resolved}
use Rattle.cob_records.specs.declared.records.Form.{Form}
use Rattle.cob_convert_stream.specs.Reasons.{is_write_cause, misfit_reason}
use Rattle.cob_convert_stream.specs.Whole.{IsMisfitReason}
use Rattle.cob_convert_stream.specs.declared.fault.Reason.{Reason}
use Rattle.cob_convert_stream.specs.declared.misfit.MeasureFault.{MeasureFault}
use Rattle.cob_convert_stream.specs.declared.misfit.MeasureFault.TheVariants.{Count, Length}

misfit_kind : (misfit : MeasureFault) → is_write_cause (misfit_reason misfit).cause ≡ false
misfit_kind (Count offset) = refl
misfit_kind Length = refl

-- it is no fault of writing
pub misfit_is_read : (form : Form) (tree : Forest Resolved) (input : List ℕ) (why : Reason) → IsMisfitReason form tree input why → is_write_cause why.cause ≡ false
misfit_is_read form tree input why (misfit, is, reason) = ap (λ (r : Reason). is_write_cause r.cause) reason ∙ misfit_kind misfit
