use Rattle.std.proofs.Common.{rules}
use Rattle.std.proofs.lemmas.Result.{err_from_is_err_and}
use Rattle.cob_report_show.specs.Sent.{IsAddedTo}
use Rattle.cob_report_show.specs.Values.{ArePieces}
use Rattle.cob_report_show.proofs.PieceLemmas.{no_pieces, one_piece, all_pieces, cut_pieces, room_left}
use Rattle.cob_report_show.proofs.values.put_pieces.Goals as goal

pub loop-byte-init : goal.loop-byte-init
loop-byte-init g c = record {
  so_far = no_pieces c.args.notation c.args.line.now.items c.args.bytes.now c.args.sent.now (g.W.Sink.taken c.args.sink.now);
  room = search rules;
  writes = search rules;
  errors = search rules;
}

pub loop-byte-preserved : goal.loop-byte-preserved
loop-byte-preserved g c = record {
  so_far = one_piece c.args.notation c.args.line.now.items c.loop-byte.line.items c.make_room.new.line.items c.push_text.new.line.items c.piece_of.result.items c.args.bytes.now
      c.loop-byte.byte-index 0 c.args.sent.now c.loop-byte.sent c.make_room.new.sent (g.W.Sink.taken c.args.sink.now) (g.W.Sink.taken c.loop-byte.sink) (g.W.Sink.taken c.make_room.new.sink)
      c.loop-byte.invariant.so_far c.in_ok-make_room.ensures.lines c.loop-byte-test.true c.piece_of.ensures.piece (rw c.as_slice.ensures.value at c.push_text.ensures.text);
  room = room_left c.push_text.new.line.items c.make_room.new.line.items c.piece_of.result.items (rw c.as_slice.ensures.value at c.push_text.ensures.text) c.make_room.ensures.room c.piece_of.ensures.long;
  writes = search rules;
  errors = search rules;
}

pub returns-in_err-make_room-clause-lines : goal.returns-in_err-make_room-clause-lines
returns-in_err-make_room-clause-lines g c =
    let p = err_from_is_err_and c.from_residual.result c.from_residual.ensures.1 in
    rw p.1 (cut_pieces c.args.notation c.args.line.now.items c.loop-byte.line.items c.make_room.new.line.items c.args.bytes.now c.loop-byte.byte-index c.args.sent.now
    c.loop-byte.sent c.make_room.new.sent c.in_err-make_room.field-0.0 (g.W.Sink.taken c.args.sink.now) (g.W.Sink.taken c.loop-byte.sink) (g.W.Sink.taken c.make_room.new.sink)
    (IsAddedTo c.args.line.now.items c.make_room.new.line.items (ArePieces c.args.notation c.args.bytes.now)) c.loop-byte.invariant.so_far c.in_err-make_room.ensures.lines)

pub returns-clause-lines : goal.returns-clause-lines
returns-clause-lines g c =
    all_pieces c.args.notation c.args.line.now.items c.loop-byte.line.items c.args.bytes.now c.loop-byte.byte-index c.args.sent.now c.loop-byte.sent
    (g.W.Sink.taken c.args.sink.now) (g.W.Sink.taken c.loop-byte.sink) (λ part. Unit {0}) c.loop-byte.invariant.so_far c.loop-byte-test.false
