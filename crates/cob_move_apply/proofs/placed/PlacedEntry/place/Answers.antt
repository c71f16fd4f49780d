use Rattle.std.proofs.Common.{ap, false, sym, subst}
use Rattle.cob_move_data.specs.declared.operands.Side.{Side}
use Rattle.cob_move_data.specs.Moves.{Records, operand_in, record_of}
use Rattle.cob_move_apply.specs.Applied.{storage_of}
use Rattle.cob_move_apply.specs.Located.{Located}
use Rattle.cob_move_apply.specs.Placed.{IsPlaced}
use Rattle.cob_move_apply.specs.Room.{Scratching}
use Rattle.cob_move_apply.proofs.ReadsLemmas.{of_input_reads, seen_in}
use Rattle.cob_move_apply.proofs.placed.PlacedEntry.place.Goals as goal

pub place_in-requires-clause-placed : goal.place_in-requires-clause-placed
place_in-requires-clause-placed c =
    let r : Records = record { input = c.args.input_layout.now; output = c.args.output_layout.now } in
    let p = c.args.self.now in
    subst (λ (side : Side). IsPlaced (record_of r side) false (operand_in (record_of r side) p.entry) p.basis) c.in-In.is c.requires.placed

pub returns-in-In-clause-located : goal.returns-in-In-clause-located
returns-in-In-clause-located c =
    let r : Records = record { input = c.args.input_layout.now; output = c.args.output_layout.now } in
    let p = c.args.self.now in
    subst (λ (side : Side). Located p.side (record_of r side) false (operand_in (record_of r side) p.entry) (storage_of side c.args.input.now c.args.output.now) c.place_in.result) (sym c.in-In.is) c.place_in.ensures.located

pub returns-in-In-clause-reads : goal.returns-in-In-clause-reads
returns-in-In-clause-reads c =
    of_input_reads c.args.output_layout.now c.place_in.result c.args.scratch.now (seen_in (record { input = c.place_in.new.survey; output = c.scratch.inside.space.output; content = c.scratch.inside.space.content }))
    (ap (λ (s : Scratching). s.reads) c.scratch.view_is) (ap (λ (s : Scratching). s.kept_output) c.scratch.view_is)
