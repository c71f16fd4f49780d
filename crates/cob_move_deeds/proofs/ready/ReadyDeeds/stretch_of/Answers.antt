use Rattle.std.proofs.Common.{◌≡◌, ◌∙◌, ap, length, refl, sym}
use Rattle.std.proofs.lemmas.Option.{same_Some, slice_get_read}
use Rattle.cob_move_deeds.specs.declared.flow.Bound.{Bound}
use Rattle.cob_move_deeds.proofs.SteadyLemmas.{all_steady}
use Rattle.cob_move_deeds.proofs.ready.ReadyDeeds.stretch_of.Goals as goal

pub returns-in-In : goal.returns-in-In
returns-in-In c = λ r b prepared at.
    let here : c.index.result.now ≡ b = same_Some _ _ (sym (slice_get_read c.args.self.now.bounds.items (length c.args.self.now.bounds.items) c.args.bound c.index.result.now refl c.requires.within c.index.ensures) ∙ at) in
    all_steady r c.args.self.now.moves b _ (sym (ap (λ (k : Bound). k.item.side) here) ∙ sym c.side.ensures ∙ c.in-In.is)
