use Rattle.std.proofs.Common.{◌≤◌, ◌+◌, ◌*◌, length}
use Rattle.cob_source.specs.Tokens.{lexemes}
use Rattle.cob_move_loops.specs.Reading.{item_front, written_loops}
use Rattle.cob_move_loops.proofs.FrontLemmas.{front_size}
use Rattle.cob_move_loops.proofs.NamingLemmas.{LeftOfLoops}
use Rattle.cob_move_loops.proofs.naming.+naming.Given as goal

abbrev pub decreases-add_loops : goal.decreases-add_loops
decreases-add_loops l = 3 * length (lexemes l.words.now)

abbrev pub decreases-add_item : goal.decreases-add_item
decreases-add_item l = 3 * front_size (item_front l.item.now) + 2

abbrev pub decreases-add_loop : goal.decreases-add_loop
decreases-add_loop l = 3 * length (lexemes l.body.now) + 1

abbrev pub invariant-add_loops-loop-item : goal.invariant-add_loops-loop-item
invariant-add_loops-loop-item l = record {
  left : LeftOfLoops l.place (written_loops l.around) (lexemes l.words) (lexemes l.rest) l.fn.out.items l.out.items;
  fewer : length (lexemes l.rest) ≤ length (lexemes l.words);
}

abbrev pub decreases-add_loops-loop-item : goal.decreases-add_loops-loop-item
decreases-add_loops-loop-item l = length (lexemes l.rest)
