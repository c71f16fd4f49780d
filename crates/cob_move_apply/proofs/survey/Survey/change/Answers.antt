use Rattle.std.proofs.Common.{refl}
use Rattle.cob_move_apply.specs.declared.survey.Survey.{Survey}
use Rattle.cob_move_apply.proofs.SpentLemmas.{wrote_spends}
use Rattle.cob_move_apply.proofs.survey.Survey.change.Goals as goal

pub returns-clause-spends : goal.returns-clause-spends
returns-clause-spends c = λ before survey.
    let new : Survey = record { counts = c.wrote.new.counts; reads = c.args.self.now.reads } in
    wrote_spends c.args.layout.now before c.args.place c.args.self.now new survey refl c.wrote.ensures.drops
