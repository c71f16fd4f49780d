use Rattle.std.proofs.Common.{true}
use Rattle.cob_move_data.specs.Moves.{operand_in}
use Rattle.cob_move_data.specs.declared.operands.Side.TheVariants.{Out}
use Rattle.cob_move_apply.proofs.PlaceLemmas.{filled_at, noted_at, noted_first, noted_within}
use Rattle.cob_move_apply.proofs.SpentLemmas.{spent_none}
use Rattle.cob_move_apply.proofs.located.receiver_place.Goals as goal

pub returns-in-Some-clause-located : goal.returns-in-Some-clause-located
returns-in-Some-clause-located c =
    noted_at c.kept_place_elements.ensures Out c.args.layouts.now.output.now true (operand_in c.args.layouts.now.output.now c.args.one.now.receiver) c.args.output.now c.args.survey.now c.args.one.now.to c.in-Some.place
    c.requires.sound c.requires.placed c.requires.survey
    (noted_first c.args.layouts.now.output.now true (operand_in c.args.layouts.now.output.now c.args.one.now.receiver) c.args.output.now c.args.survey.now.counts.kept c.args.one.now.to c.in-Some.place c.in-Some.ensures)

pub returns-in-Some-clause-filled : goal.returns-in-Some-clause-filled
returns-in-Some-clause-filled c =
    filled_at Out c.args.layouts.now.output.now true (operand_in c.args.layouts.now.output.now c.args.one.now.receiver) c.args.output.now c.in-Some.place c.requires.sound c.requires.placed.operand
    (noted_at c.kept_place_elements.ensures Out c.args.layouts.now.output.now true (operand_in c.args.layouts.now.output.now c.args.one.now.receiver) c.args.output.now c.args.survey.now c.args.one.now.to c.in-Some.place
    c.requires.sound c.requires.placed c.requires.survey
    (noted_first c.args.layouts.now.output.now true (operand_in c.args.layouts.now.output.now c.args.one.now.receiver) c.args.output.now c.args.survey.now.counts.kept c.args.one.now.to c.in-Some.place c.in-Some.ensures))

pub returns-in-Some-clause-fits : goal.returns-in-Some-clause-fits
returns-in-Some-clause-fits c =
    noted_within c.args.layouts.now.output.now true (operand_in c.args.layouts.now.output.now c.args.one.now.receiver) c.args.output.now c.args.survey.now.counts.kept c.args.one.now.to c.in-Some.place c.requires.placed
    (noted_first c.args.layouts.now.output.now true (operand_in c.args.layouts.now.output.now c.args.one.now.receiver) c.args.output.now c.args.survey.now.counts.kept c.args.one.now.to c.in-Some.place c.in-Some.ensures)

pub returns-in-Some-clause-spends : goal.returns-in-Some-clause-spends
returns-in-Some-clause-spends c = spent_none c.args.layouts.now.output.now c.args.survey.now
