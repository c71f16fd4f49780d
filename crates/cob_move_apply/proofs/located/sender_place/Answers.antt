use Rattle.std.proofs.Common.{false}
use Rattle.cob_move_data.specs.Moves.{operand_in}
use Rattle.cob_move_data.specs.declared.operands.Side.TheVariants.{In}
use Rattle.cob_move_apply.proofs.PlaceLemmas.{filled_at, noted_at, noted_first}
use Rattle.cob_move_apply.proofs.located.sender_place.Goals as goal

pub returns-in-Some-clause-located : goal.returns-in-Some-clause-located
returns-in-Some-clause-located c =
    noted_at c.kept_place_elements.ensures In c.args.layouts.now.input.now false (operand_in c.args.layouts.now.input.now c.args.one.now.sent) c.args.input.now c.args.survey.now c.args.one.now.from c.in-Some.place
    c.requires.sound c.requires.placed c.requires.survey
    (noted_first c.args.layouts.now.input.now false (operand_in c.args.layouts.now.input.now c.args.one.now.sent) c.args.input.now c.args.survey.now.counts.kept c.args.one.now.from c.in-Some.place c.in-Some.ensures)

pub returns-in-Some-clause-filled : goal.returns-in-Some-clause-filled
returns-in-Some-clause-filled c =
    filled_at In c.args.layouts.now.input.now false (operand_in c.args.layouts.now.input.now c.args.one.now.sent) c.args.input.now c.in-Some.place c.requires.sound c.requires.placed.operand
    (noted_at c.kept_place_elements.ensures In c.args.layouts.now.input.now false (operand_in c.args.layouts.now.input.now c.args.one.now.sent) c.args.input.now c.args.survey.now c.args.one.now.from c.in-Some.place
    c.requires.sound c.requires.placed c.requires.survey
    (noted_first c.args.layouts.now.input.now false (operand_in c.args.layouts.now.input.now c.args.one.now.sent) c.args.input.now c.args.survey.now.counts.kept c.args.one.now.from c.in-Some.place c.in-Some.ensures))
