-- What is answered of two conversions.
use Rattle.std.proofs.Common.{◌≡◌, Bool, List, Option, Some, None, subst, sym}
use Rattle.std.specs.Prelude.{IfNone, IfSome, IsTrue}
use Rattle.std.specs.Bool.{Decides}
use Rattle.cob_move_data.specs.Moves.{Move, Records}
use Rattle.cob_convert_record.specs.Conversion.{Conversion}
use Rattle.cob_back_moves.specs.Lossless.{IsLossless}
use Rattle.cob_back_moves.specs.Brought.{moves_between}
use Rattle.cob_back_moves.specs.Losses.{IsLoss}
use Rattle.cob_back_moves.specs.Tested.{layout_records}
use Rattle.cob_back_moves.specs.declared.lossless.Loss.{Loss}
use Rattle.cob_back_moves.specs.declared.some.MovesBetween.{MovesBetween}
use Rattle.cob_back_moves.proofs.LossLemmas.{no_loss}
use Rattle.cob_back_runs.specs.Keeps.{AreLossless, Keeps}
use Rattle.cob_back_runs.specs.Laws.{IsPrepared, LosslessKeep}
use Rattle.cob_move_deeds.specs.Deeds.{moves_of_deeds}
use Rattle.cob_back_runs.specs.declared.converters.ConversionLoss.{ConversionLoss}

-- what is decided of moves between records is decided of conversions that have these
pub decided : (answer : Bool) (there back : Conversion) (r s : Records) (forth home : List Move) → there.records ≡ r → back.records ≡ s
    → moves_of_deeds there.deeds ≡ forth → moves_of_deeds back.deeds ≡ home → Decides answer (IsLossless r s forth home)
    → Decides answer (IsLossless there.records back.records (moves_of_deeds there.deeds) (moves_of_deeds back.deeds))
decided answer there back r s forth home records records_back moves moves_back decides =
    subst (λ (x : Records). Decides answer (IsLossless x back.records (moves_of_deeds there.deeds) (moves_of_deeds back.deeds))) (sym records)
    (subst (λ (x : Records). Decides answer (IsLossless r x (moves_of_deeds there.deeds) (moves_of_deeds back.deeds))) (sym records_back)
    (subst (λ (x : List Move). Decides answer (IsLossless r s x (moves_of_deeds back.deeds))) (sym moves)
    (subst (λ (x : List Move). Decides answer (IsLossless r s forth x)) (sym moves_back) decides)))

-- where the answer is yes, they keep what the first one converts
pub kept : LosslessKeep → (answer : Bool) (there back : Conversion) → IsPrepared there → IsPrepared back → Decides answer (AreLossless there back)
    → IsTrue answer → Keeps there back
kept law answer there back ready ready_back decides true_of = law there back ready ready_back (decides.0 true_of)

-- what is said of moves between records is said of conversions that have these
carried_over : (P : Type 0 → Type 0) (there back : Conversion) (r s : Records) (forth home : List Move) → there.records ≡ r → back.records ≡ s
    → moves_of_deeds there.deeds ≡ forth → moves_of_deeds back.deeds ≡ home → P (IsLossless r s forth home)
    → P (IsLossless there.records back.records (moves_of_deeds there.deeds) (moves_of_deeds back.deeds))
carried_over P there back r s forth home records records_back moves moves_back said =
    subst (λ (x : Records). P (IsLossless x back.records (moves_of_deeds there.deeds) (moves_of_deeds back.deeds))) (sym records)
    (subst (λ (x : Records). P (IsLossless r x (moves_of_deeds there.deeds) (moves_of_deeds back.deeds))) (sym records_back)
    (subst (λ (x : List Move). P (IsLossless r s x (moves_of_deeds back.deeds))) (sym moves)
    (subst (λ (x : List Move). P (IsLossless r s forth x)) (sym moves_back) said)))

-- where moves between records fail in no point, conversions that have these lose nothing
pub fine : (o : Option Loss) (there back : Conversion) (r s : Records) (forth home : List Move) → there.records ≡ r → back.records ≡ s
    → moves_of_deeds there.deeds ≡ forth → moves_of_deeds back.deeds ≡ home → IfNone o (IsLossless r s forth home)
    → IfNone o (IsLossless there.records back.records (moves_of_deeds there.deeds) (moves_of_deeds back.deeds))
fine o there back r s forth home records records_back moves moves_back none =
    carried_over (λ (X : Type 0). IfNone o X) there back r s forth home records records_back moves moves_back none

-- where they lose nothing, they keep what the first one converts
pub fine_kept : LosslessKeep → (o : Option ConversionLoss) (there back : Conversion) → IsPrepared there → IsPrepared back → IfNone o (AreLossless there back)
    → IfNone o (Keeps there back)
fine_kept law None there back ready ready_back none = law there back ready ready_back none
fine_kept law (Some l) there back ready ready_back none = tt

failing : (o : Option Loss) (m n : MovesBetween) → IfSome o (λ l. IsLoss m n l)
    → IfSome o (λ l. IsLossless (layout_records m.layouts) (layout_records n.layouts) (moves_between m.layouts m.statements.now) (moves_between n.layouts n.statements.now) → ⊥)
failing None m n fails = tt
failing (Some l) m n fails = λ all. no_loss m n l all fails

-- where they fail in a point, they don't lose nothing
pub lost : (o : Option Loss) (m n : MovesBetween) (there back : Conversion) → there.records ≡ layout_records m.layouts → back.records ≡ layout_records n.layouts
    → moves_of_deeds there.deeds ≡ moves_between m.layouts m.statements.now → moves_of_deeds back.deeds ≡ moves_between n.layouts n.statements.now → IfSome o (λ l. IsLoss m n l)
    → IfSome o (λ l. IsLossless there.records back.records (moves_of_deeds there.deeds) (moves_of_deeds back.deeds) → ⊥)
lost o m n there back records records_back moves moves_back fails =
    carried_over (λ (X : Type 0). IfSome o (λ l. X → ⊥)) there back (layout_records m.layouts) (layout_records n.layouts) _ _ records records_back moves moves_back (failing o m n fails)
