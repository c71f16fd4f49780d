use Rattle.std.proofs.Common.{[], ◌∷◌, ◌++◌, arith, refl, sym, subst}
use Rattle.cob_codec.specs.declared.reading.Reading.{Reading}
use Rattle.cob_move_apply.specs.Planned.{records_between, meant}
use Rattle.cob_move_apply.specs.Steps.{IsMoveOfPart, IsPicturedMove}
use Rattle.cob_move_apply.specs.declared.step.Part.{Part}
use Rattle.cob_move_apply.proofs.PartLemmas.{part_there}
use Rattle.cob_move_apply.proofs.PlanLemmas.{by_pictured}
use Rattle.cob_move_apply.proofs.planning.push_pictured.Goals as goal

pub returns-clause-gains : goal.returns-clause-gains
returns-clause-gains c = λ x.
    let (own, grown, placed) = c.in_ok-push_bases.ensures.placed in
    by_pictured x (records_between c.args.both.now) c.args.given.now c.args.plan.now.prepared c.args.plan.now.pictured c.args.plan.now.constants.items c.args.plan.now.located.items c.args.plan.now.located_constants.items c.args.plan.now.within.items c.args.plan.now.bases.items c.push_bases.new.bases.items own c.args.plan.now.steps.items c.push.new.self.items c.args.one _
    (meant x (records_between c.args.both.now) c.args.part.now)
    grown c.in_ok-push.ensures.items
    (subst (λ (p : Part). IsMoveOfPart x (records_between c.args.both.now) c.args.given.now (c.args.plan.now.bases.items ++ own) p (meant x (records_between c.args.both.now) c.args.part.now)) (sym c.in_ok-whole.ensures)
    (part_there x (records_between c.args.both.now) c.args.given.now c.args.part.now c.args.plan.now.bases.items own _ c.len-base.result c.requires.part refl (omega (arith, c.len-base.ensures, c.args.plan.now.bases.ok.0)) placed))
    (λ e. subst (λ (y : Reading). IsPicturedMove (records_between c.args.both.now) c.args.plan.now.pictured c.args.one (meant y (records_between c.args.both.now) c.args.part.now ∷ [])) (sym e) c.requires.pictured)
