use Rattle.cob_move_deeds.proofs.SteadyLemmas.{one_noted}
use Rattle.cob_move_deeds.proofs.ready.ReadyDeeds.note.Goals as goal

pub returns-then-is_none : goal.returns-then-is_none
returns-then-is_none c = λ r same prepared steady.
    one_noted r c.args.self.now.moves c.args.self.now.bounds.items c.args.noted.now c.in-Until.bound c.left_by.result steady (λ b at. c.left_by.ensures r b same prepared at)
