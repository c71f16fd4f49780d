use Rattle.std.proofs.Common.{◌≡◌, ◌∙◌, length, refl, subst, sym}
use Rattle.std.proofs.lemmas.Option.{same_Some, slice_get_read}
use Rattle.cob_move_data.specs.Moves.{Records}
use Rattle.cob_move_deeds.specs.Carrying.{records_of_sides}
use Rattle.cob_move_deeds.specs.Tests.{BoundSays, past_bound}
use Rattle.cob_move_deeds.specs.declared.flow.Bound.{Bound}
use Rattle.cob_move_deeds.proofs.FlowLemmas.{all_at}
use Rattle.cob_move_deeds.proofs.carrying.read_bound.Goals as goal

pub number_of-requires-clause-bound : goal.number_of-requires-clause-bound
number_of-requires-clause-bound c =
    all_at (records_of_sides c.args.sides.now) c.args.number c.args.deeds.now.bounds.items c.index-bound.result.now c.requires.within c.index-bound.ensures c.requires.prepared.bounds

pub returns-clause-says : goal.returns-clause-says
returns-clause-says c = λ b at.
    let r : Records = records_of_sides c.args.sides.now in
    let here : c.index-bound.result.now ≡ b = same_Some _ _ (sym (slice_get_read c.args.deeds.now.bounds.items (length c.args.deeds.now.bounds.items) c.args.number c.index-bound.result.now refl c.requires.within c.index-bound.ensures) ∙ at) in
    subst (λ (k : Bound). BoundSays r (past_bound r k 0) c.args.sides.now.input.now c.args.output.now c.number_of.result) here c.number_of.ensures.says
