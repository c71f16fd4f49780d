use Rattle.cob_move_apply.proofs.PlaceLemmas.{filled_at, noted_at, noted_within}
use Rattle.cob_move_apply.specs.Seen.{operand_of}
use Rattle.cob_move_apply.proofs.SpentLemmas.{spent_none}
use Rattle.cob_move_apply.proofs.places.locate_if_there.Goals as goal

pub returns-in-Some-clause-located : goal.returns-in-Some-clause-located
returns-in-Some-clause-located c =
    noted_at c.kept_place_elements.ensures c.args.stored.now.side c.args.stored.now.layout.now c.args.receiving (operand_of c.args.placed.now) c.args.stored.now.bytes.now c.args.survey.now c.args.placed.now.basis.now c.in-Some.place
    c.requires.sound c.requires.placed c.requires.survey c.in-Some.ensures

pub returns-in-Some-clause-fits : goal.returns-in-Some-clause-fits
returns-in-Some-clause-fits c =
    noted_within c.args.stored.now.layout.now c.args.receiving (operand_of c.args.placed.now) c.args.stored.now.bytes.now c.args.survey.now.counts.kept c.args.placed.now.basis.now c.in-Some.place c.requires.placed c.in-Some.ensures

pub returns-in-Some-clause-filled : goal.returns-in-Some-clause-filled
returns-in-Some-clause-filled c =
    filled_at c.args.stored.now.side c.args.stored.now.layout.now c.args.receiving (operand_of c.args.placed.now) c.args.stored.now.bytes.now c.in-Some.place c.requires.sound c.requires.placed.operand
    (noted_at c.kept_place_elements.ensures c.args.stored.now.side c.args.stored.now.layout.now c.args.receiving (operand_of c.args.placed.now) c.args.stored.now.bytes.now c.args.survey.now c.args.placed.now.basis.now c.in-Some.place
    c.requires.sound c.requires.placed c.requires.survey c.in-Some.ensures)

pub returns-in-Some-clause-spends : goal.returns-in-Some-clause-spends
returns-in-Some-clause-spends c = spent_none c.args.stored.now.layout.now c.args.survey.now
