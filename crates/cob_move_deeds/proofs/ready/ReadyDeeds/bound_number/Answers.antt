use Rattle.std.proofs.Common.{◌≡◌, ◌∙◌, List, Option, length, refl, subst, sym}
use Rattle.std.proofs.lemmas.Option.{same_Some, slice_get_read}
use Rattle.cob_layout.specs.declared.counts.StoredCount.{StoredCount}
use Rattle.cob_layout.specs.Kept.{AreKeptOf}
use Rattle.cob_move_data.specs.Moves.{Records}
use Rattle.cob_move_deeds.specs.Tests.{BoundSays, past_bound}
use Rattle.cob_move_deeds.specs.declared.flow.Bound.{Bound}
use Rattle.cob_move_deeds.proofs.FlowLemmas.{all_at}
use Rattle.cob_move_deeds.proofs.ready.ReadyDeeds.bound_number.Goals as goal

pub number_of-requires-clause-bound : goal.number_of-requires-clause-bound
number_of-requires-clause-bound c =
    let r : Records = record { input = c.args.input_layout.now; output = c.args.output_layout.now } in
    all_at r c.args.number c.args.self.now.bounds.items c.index.result.now c.requires.within c.index.ensures c.requires.prepared.bounds

pub number_of-requires-clause-kept : goal.number_of-requires-clause-kept
number_of-requires-clause-kept c = record {
  room = c.forget_output.ensures.room ∙ c.forget_input.ensures.room ∙ c.requires.room;
  of_input = subst (λ (ks : List (Option StoredCount)). AreKeptOf c.args.input_layout.now c.args.input.now ks) (sym c.forget_output.ensures.input)
      (c.forget_input.ensures.keeps c.args.input_layout.now c.args.input.now);
  of_output = c.forget_output.ensures.keeps c.args.output_layout.now c.args.output.now;
}

pub returns-clause-says : goal.returns-clause-says
returns-clause-says c = λ b at.
    let r : Records = record { input = c.args.input_layout.now; output = c.args.output_layout.now } in
    let here : c.index.result.now ≡ b = same_Some _ _ (sym (slice_get_read c.args.self.now.bounds.items (length c.args.self.now.bounds.items) c.args.number c.index.result.now refl c.requires.within c.index.ensures) ∙ at) in
    subst (λ (k : Bound). BoundSays r (past_bound r k 0) c.args.input.now c.args.output.now c.number_of.result) here c.number_of.ensures.says

pub returns-clause-room : goal.returns-clause-room
returns-clause-room c = c.number_of.ensures.kept.room ∙ sym c.requires.room
