use Rattle.std.proofs.Common.{length, refl, subst, sym, Option, Some}
use Rattle.std.proofs.lemmas.Option.{slice_get_read}
use Rattle.cob_move_data.specs.Moves.{Records}
use Rattle.cob_move_apply.specs.declared.placed.PlacedEntry.{PlacedEntry}
use Rattle.cob_move_deeds.specs.Carrying.{records_of_sides}
use Rattle.cob_move_deeds.specs.Flows.{sender_placed}
use Rattle.cob_move_deeds.specs.Tests.{LacksIn}
use Rattle.cob_move_deeds.proofs.giving.GivingOperands.lack.Goals as goal

pub returns-clause-lacks : goal.returns-clause-lacks
returns-clause-lacks c =
    let g = c.args.self.now in
    let r : Records = records_of_sides g.sides.now in
    let at = slice_get_read g.entries.now (length g.entries.now) c.args.number c.index-self-number.result refl c.requires.there c.index-self-number.is in
    let own : LacksIn r g.sides.now.input.now g.output.now (sender_placed r g.reading (Some c.index-self-number.result)) c.lack_entry.result =
    subst (λ (e : PlacedEntry). LacksIn r g.sides.now.input.now g.output.now (sender_placed r g.reading (Some e)) c.lack_entry.result) (sym c.index-self-number.is) (c.lack_entry.ensures.lacks g.reading) in
    subst (λ (o : Option PlacedEntry). LacksIn r g.sides.now.input.now g.output.now (sender_placed r g.reading o) c.lack_entry.result) (sym at) own
