use Rattle.std.proofs.Common.{◌+◌, ◌≡◌, arith, false, length}
use Rattle.cob_source.specs.Tokens.{lexemes}
use Rattle.cob_move_loops.specs.Reading.{counters}
use Rattle.cob_move_loops.specs.Turns.{in_turn}
use Rattle.cob_move.specs.DeedsRead.{made_lists}
use Rattle.cob_move.proofs.MadeLemmas.{adds_moved, first_moved, leaves_list, moved_grown, moved_made, moves_refused, run_longer}
use Rattle.cob_move.proofs.deeds.add_moves.Goals as goal

pub overflow_sub-more : goal.overflow_sub-more
overflow_sub-more c =
    let longer = run_longer c.args.entries.now (in_turn (counters c.args.turn.now) false 0 (lexemes c.args.words.now)) c.args.made.now.list.items c.add_words_in.new.list.items c.in_default.ensures.added in
    omega (arith, longer, c.args.made.now.list.ok.0, c.add_words_in.new.list.ok.0, c.len-before.ensures, c.len.ensures)

pub returns-in-Err-clause-fault : goal.returns-in-Err-clause-fault
returns-in-Err-clause-fault c =
    moves_refused c.one_list_of_ended.ensures c.meant_break_no_rule.ensures c.not_read.result c.in-Err.fault c.args.entries.now (counters c.args.turn.now) (lexemes c.args.words.now) (made_lists c.args.made.now) c.requires.named c.not_read.ensures.memory c.not_read.ensures.broken c.in-Err.ensures.fault

pub returns-in-Err-clause-kept : goal.returns-in-Err-clause-kept
returns-in-Err-clause-kept c = leaves_list c.not_read.result (made_lists c.args.made.now) c.add_words_in.new.list.items c.in-Err.ensures.same

pub returns-then-more-left-clause-fault : goal.returns-then-more-left-clause-fault
returns-then-more-left-clause-fault c =
    let (many, first, size) = first_moved c.args.entries.now (counters c.args.turn.now) (lexemes c.args.words.now) c.args.made.now.list.items c.add_words_in.new.list.items c.requires.named c.in_default.ensures.added in
    (many, first, omega (arith, size, c.args.made.now.list.ok.0, c.add_words_in.new.list.ok.0, c.len-before.ensures, c.len.ensures, c.if-more-left.true))

pub returns-clause-added : goal.returns-clause-added
returns-clause-added c =
    let longer = run_longer c.args.entries.now (in_turn (counters c.args.turn.now) false 0 (lexemes c.args.words.now)) c.args.made.now.list.items c.add_words_in.new.list.items c.in_default.ensures.added in
    adds_moved c.one_list_of_ended.ensures c.args.entries.now (counters c.args.turn.now) (lexemes c.args.words.now) (made_lists c.args.made.now) c.add_words_in.new.list.items _ c.requires.named c.requires.made c.requires.run
    (omega (arith, c.requires.made.few, c.if-more-left.false)) (omega (arith, longer, c.args.made.now.list.ok.0, c.add_words_in.new.list.ok.0, c.len-before.ensures, c.len.ensures)) c.in_default.ensures.added

pub returns-clause-made : goal.returns-clause-made
returns-clause-made c =
    let longer = run_longer c.args.entries.now (in_turn (counters c.args.turn.now) false 0 (lexemes c.args.words.now)) c.args.made.now.list.items c.add_words_in.new.list.items c.in_default.ensures.added in
    moved_made c.args.entries.now (in_turn (counters c.args.turn.now) false 0 (lexemes c.args.words.now)) (made_lists c.args.made.now) c.add_words_in.new.list.items _ c.requires.named c.meant_are_moves.ensures c.root.ensures.record
    c.root-2.ensures.record c.requires.made (omega (arith, c.requires.made.few, c.if-more-left.false)) (omega (arith, longer, c.args.made.now.list.ok.0, c.add_words_in.new.list.ok.0, c.len-before.ensures, c.len.ensures)) c.in_default.ensures.added

pub returns-clause-grown : goal.returns-clause-grown
returns-clause-grown c =
    moved_grown c.args.entries.now (in_turn (counters c.args.turn.now) false 0 (lexemes c.args.words.now)) (made_lists c.args.made.now) c.add_words_in.new.list.items _ c.in_default.ensures.added
