use Rattle.std.proofs.Common.{◌≡◌, subst, sym}
use Rattle.cob_move_data.specs.Moves.{Records}
use Rattle.cob_move.specs.DeedsRead.{MadeLists, IsMade, made_lists}
use Rattle.cob_move.proofs.BodyLemmas.{list_is_made, list_made, list_ready, set_list}
use Rattle.cob_move.proofs.body.straight_deeds.Goals as goal

pub ready_deeds-requires : goal.ready_deeds-requires
ready_deeds-requires c =
    let r : Records = record { input = c.args.input.now; output = c.args.output.now } in record {
      made = subst (λ (m : MadeLists). IsMade r m) (sym (set_list c.new-made.result c.args.list c.new-made.ensures)) (list_is_made r c.args.list.items c.requires.given);
    }

pub returns-clause-deeds : goal.returns-clause-deeds
returns-clause-deeds c =
    let r : Records = record { input = c.args.input.now; output = c.args.output.now } in
    (list_ready r c.args.list.items _ c.in_ok-deeds.deeds (set_list c.new-made.result c.args.list c.new-made.ensures) c.in_ok-deeds.ensures).0

pub returns-clause-ready : goal.returns-clause-ready
returns-clause-ready c =
    let r : Records = record { input = c.args.input.now; output = c.args.output.now } in
    (list_ready r c.args.list.items _ c.in_ok-deeds.deeds (set_list c.new-made.result c.args.list c.new-made.ensures) c.in_ok-deeds.ensures).1
