use Rattle.std.proofs.Common.{refl}
use Rattle.cob_move_data.specs.Moves.{Records}
use Rattle.cob_move_deeds.specs.declared.flow.Asked.{Asked}
use Rattle.cob_move.specs.DeedsRead.{made_lists}
use Rattle.cob_move.proofs.BodyLemmas.{now_asked, now_ends, now_moves, readied, still_readied}
use Rattle.cob_move.proofs.body.ready_deeds.Goals as goal

pub new-requires : goal.new-requires
new-requires c =
    let r : Records = record { input = c.args.input.now; output = c.args.output.now } in record {
      given = now_moves r (made_lists c.args.made) (made_lists c.close.new.self) c.requires.made c.in_ok-close.ensures.closed;
      ends = rw c.as_slice.ensures.value (now_ends r (made_lists c.args.made) (made_lists c.close.new.self) c.requires.made c.in_ok-close.ensures.closed);
    }

pub placed_entries-requires : goal.placed_entries-requires
placed_entries-requires c =
    let r : Records = record { input = c.args.input.now; output = c.args.output.now } in
    record { operands = now_asked r (made_lists c.args.made) (made_lists c.close.new.self) c.requires.made c.in_ok-close.ensures.closed }

pub with_steady_bounds-requires : goal.with_steady_bounds-requires
with_steady_bounds-requires c =
    let r : Records = record { input = c.args.input.now; output = c.args.output.now } in
    let tests : Asked = record { entries = c.in_ok-entries.entries; conditions = c.close.new.self.conditions } in
    let made = readied r (made_lists c.args.made) (made_lists c.close.new.self) c.in_ok-moves.moves c.new-loops.result.items tests c.new-deeds.result c.requires.made c.in_ok-close.ensures.closed (record {
      reading = c.in_ok-moves.ensures.reading;
      statements = c.in_ok-moves.ensures.statements;
      ends = rw c.as_slice.ensures.value at c.in_ok-moves.ensures.ends;
      are = c.in_ok-moves.ensures.made r;
      marked = c.in_ok-moves.ensures.prepared;
      same = c.new-deeds.ensures.moves;
      deeds = c.new-deeds.ensures.deeds r;
      entries = c.in_ok-entries.ensures.named;
      conditions = refl;
      placed = c.in_ok-entries.ensures.placed;
      prepared = c.new-deeds.ensures.prepared r;
    }) in record { prepared = (r, made.prepared) }

pub with_ready_tests-requires : goal.with_ready_tests-requires
with_ready_tests-requires c =
    let r : Records = record { input = c.args.input.now; output = c.args.output.now } in
    let tests : Asked = record { entries = c.in_ok-entries.entries; conditions = c.close.new.self.conditions } in
    let made = readied r (made_lists c.args.made) (made_lists c.close.new.self) c.in_ok-moves.moves c.new-loops.result.items tests c.new-deeds.result c.requires.made c.in_ok-close.ensures.closed (record {
      reading = c.in_ok-moves.ensures.reading;
      statements = c.in_ok-moves.ensures.statements;
      ends = rw c.as_slice.ensures.value at c.in_ok-moves.ensures.ends;
      are = c.in_ok-moves.ensures.made r;
      marked = c.in_ok-moves.ensures.prepared;
      same = c.new-deeds.ensures.moves;
      deeds = c.new-deeds.ensures.deeds r;
      entries = c.in_ok-entries.ensures.named;
      conditions = refl;
      placed = c.in_ok-entries.ensures.placed;
      prepared = c.new-deeds.ensures.prepared r;
    }) in
    record { prepared = c.in_ok-steady.ensures.prepared r refl made.prepared }

pub returns : goal.returns
returns c =
    let r : Records = record { input = c.args.input.now; output = c.args.output.now } in
    let tests : Asked = record { entries = c.in_ok-entries.entries; conditions = c.close.new.self.conditions } in
    let made = readied r (made_lists c.args.made) (made_lists c.close.new.self) c.in_ok-moves.moves c.new-loops.result.items tests c.new-deeds.result c.requires.made c.in_ok-close.ensures.closed (record {
      reading = c.in_ok-moves.ensures.reading;
      statements = c.in_ok-moves.ensures.statements;
      ends = rw c.as_slice.ensures.value at c.in_ok-moves.ensures.ends;
      are = c.in_ok-moves.ensures.made r;
      marked = c.in_ok-moves.ensures.prepared;
      same = c.new-deeds.ensures.moves;
      deeds = c.new-deeds.ensures.deeds r;
      entries = c.in_ok-entries.ensures.named;
      conditions = refl;
      placed = c.in_ok-entries.ensures.placed;
      prepared = c.new-deeds.ensures.prepared r;
    }) in
    let steady = still_readied r (made_lists c.args.made) c.new-deeds.result c.in_ok-steady.steady made c.in_ok-steady.ensures.moves (c.in_ok-steady.ensures.deeds r) (c.in_ok-steady.ensures.prepared r refl) in
    still_readied r (made_lists c.args.made) c.in_ok-steady.steady c.in_ok-ready.ready steady c.in_ok-ready.ensures.moves (c.in_ok-ready.ensures.deeds r) (λ was. c.in_ok-ready.ensures.prepared)
