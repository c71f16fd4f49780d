use Rattle.std.proofs.Common.{◌≡◌, ◌∙◌, ap, length, refl, subst, sym}
use Rattle.std.proofs.lemmas.Option.{same_Some, slice_get_read}
use Rattle.cob_move_apply.specs.Marked.{moves_between_marks}
use Rattle.cob_move_apply.specs.Spared.{SpareEntry}
use Rattle.cob_move_deeds.specs.declared.flow.Bound.{Bound}
use Rattle.cob_move_deeds.proofs.FlowLemmas.{all_at}
use Rattle.cob_move_deeds.proofs.SteadyLemmas.{none_steady, spared_steady}
use Rattle.cob_move_deeds.proofs.ready.ReadyDeeds.left_by.Goals as goal

pub returns-in_default : goal.returns-in_default
returns-in_default c = λ r b same prepared at. none_steady r c.args.self.now.moves b

pub spare-requires-clause-prepared : goal.spare-requires-clause-prepared
spare-requires-clause-prepared c = (c.requires.prepared.0, c.requires.prepared.1.moves)

pub returns-then-spare : goal.returns-then-spare
returns-then-spare c = λ r b same prepared at.
    let here : c.index.result.now ≡ b = same_Some _ _ (sym (slice_get_read c.args.self.now.bounds.items (length c.args.self.now.bounds.items) c.args.bound c.index.result.now refl c.requires.within c.index.ensures) ∙ at) in
    let placed = (all_at r c.args.bound c.args.self.now.bounds.items c.index.result.now c.requires.within c.index.ensures prepared.bounds).placed in
    let m = c.args.self.now.moves in
    let marks = c.in-Some.marks in
    spared_steady r m b marks prepared.moves c.in-Some.ensures.0 c.in-Some.ensures.1
    (subst (λ (k : Bound). SpareEntry r (moves_between_marks r m marks.first marks.last) k.item) here (c.spare.ensures c.if-spare.true r same prepared.moves placed))

pub returns-else-spare : goal.returns-else-spare
returns-else-spare c = λ r b same prepared at. none_steady r c.args.self.now.moves b
