use Rattle.std.proofs.Common.{◌∙◌, List, rules, subst, sym}
use Rattle.cob_move_data.specs.Singles.{PlainSingle}
use Rattle.cob_move_apply.proofs.SpareLemmas.{NoneOfThese, all_begin}
use Rattle.cob_move_apply.proofs.spared.all_begin_from.Goals as goal

pub loop-single-init : goal.loop-single-init
loop-single-init c = λ h.
    subst (λ (ps : List PlainSingle). NoneOfThese c.args.output.now c.args.byte ps) (c.into_iter-single-iterator.ensures.into_iter_gives ∙ c.new-single-items.ensures) h

pub loop-single-preserved : goal.loop-single-preserved
loop-single-preserved c = λ h.
    c.loop-single.invariant (subst (λ (ps : List PlainSingle). NoneOfThese c.args.output.now c.args.byte ps) (sym c.in-Some.ensures.steps) (c.begins_from.ensures (search rules), h))

pub returns : goal.returns
returns c = λ yes r x same are.
    all_begin c.args.output.now c.args.byte c.args.statements.now r x same
    (c.loop-single.invariant (subst (λ (ps : List PlainSingle). NoneOfThese c.args.output.now c.args.byte ps) (sym c.in-None.ensures.steps.0) tt)) are
