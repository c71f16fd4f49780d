use Rattle.std.proofs.Common.{sym, ◌∙◌, arith}
use Rattle.cob_picture.specs.declared.symbol.Symbol.{Symbol}
use Rattle.cob_picture.specs.declared.edited.EditedPart.TheVariants.{Lead}
use Rattle.cob_picture.specs.Positions.{is_that}
use Rattle.cob_picture.specs.Edited.{belongs, symbol_kind}
use Rattle.cob_picture.proofs.Placed.{any_runs}
use Rattle.cob_picture.proofs.Parts.{same_counts}
use Rattle.cob_picture.proofs.edited.counts_in.Goals as goal

pub returns : goal.returns
returns c =
    same_counts _ _
    (omega (arith, c.total.ensures.value, c.total-2.ensures.value))
    c.total-currencies.ensures.value
    c.total-points.ensures.value
    c.total-3.ensures.value
    (omega (arith, c.total-currencies.ensures.value, c.total-points.ensures.value, c.total-4.ensures.value, c.total-5.ensures.value))
    (omega (arith, c.count_of.ensures.value, c.count_of-2.ensures.value))
    (c.is_seen.ensures ∙ sym (any_runs (is_that c.args.run) c.args.split.now.front.now c.requires.r3.1))
    (c.is_seen-2.ensures ∙ sym (any_runs (is_that c.args.run) c.args.split.now.fraction.now c.requires.r6.1))
    (c.sign_trails.ensures ∙ sym (any_runs (λ (s : Symbol). belongs Lead (symbol_kind c.args.run s)) c.args.split.now.trail.now c.requires.r7.1))
