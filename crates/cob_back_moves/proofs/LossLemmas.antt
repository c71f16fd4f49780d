-- Moves there and back that lose nothing fail in no point.
use Rattle.std.proofs.Common.{◌≡◌, ℕ, Bool, true, false, not, Option, Some, None, refl}
use Rattle.std.specs.Prelude.{is_some, IfNone, IfSome}
use Rattle.std.specs.Bool.{Decides}
use Rattle.cob_back_moves.specs.Losses.{IsLoss, LoseItem, LoseNothing, ReturnAll}
use Rattle.cob_back_moves.specs.declared.lossless.Loss.{Loss}
use Rattle.cob_back_moves.specs.declared.lossless.Loss.TheVariants as loss
use Rattle.cob_back_moves.specs.declared.lossless.Direction.TheVariants.{There, Back}
use Rattle.cob_back_moves.specs.declared.some.MovesBetween.{MovesBetween}

pub no_loss : (there back : MovesBetween) (l : Loss) → LoseNothing there back → IsLoss there back l → ⊥
no_loss there back loss.Records all fails = fails all.turned
no_loss there back (loss.Storage There) all fails = fails (all.input, all.output)
no_loss there back (loss.Storage Back) all fails = fails (all.input_back, all.output_back)
no_loss there back (loss.Operand There) all fails = fails all.returns.elementary
no_loss there back (loss.Operand Back) all fails = fails all.returns.elementary_back
no_loss there back (loss.Reading There) all fails = fails all.returns.pictured
no_loss there back (loss.Reading Back) all fails = fails all.returns.pictured_back
no_loss there back (loss.Receiver There) all fails = fails all.returns.once
no_loss there back (loss.Receiver Back) all fails = fails all.returns.once_back
no_loss there back loss.Name all fails = fails all.returns.named
no_loss there back (loss.Item entry) all fails = fails.lost (all.returns.returned fails.at fails.item fails.named)

pub decided : (there back : MovesBetween) (o : Option Loss) (b : Bool) → is_some o ≡ not b → IfSome o (λ l. IsLoss there back l) → IfNone o (LoseNothing there back) → Decides b (LoseNothing there back)
decided there back None true is fails lossless = (λ e. lossless, λ all. refl)
decided there back None false is fails lossless = absurd (cc)
decided there back (Some l) true is fails lossless = absurd (cc)
decided there back (Some l) false is fails lossless = (λ e. absurd (cc), λ all. absurd (no_loss there back l all fails))

-- where the first item that isn't returned is looked for, none is found exactly where all are
pub returned : (there back : MovesBetween) (o : Option ℕ) (b : Bool) → is_some o ≡ not b → IfNone o (ReturnAll there back) → IfSome o (LoseItem there back) → Decides b (ReturnAll there back)
returned there back None true is fine lost = (λ e. fine, λ all. refl)
returned there back None false is fine lost = absurd (cc)
returned there back (Some r) true is fine lost = absurd (cc)
returned there back (Some r) false is fine lost = (λ e. absurd (cc), λ all. absurd (lost.lost (all lost.at lost.item lost.named)))
