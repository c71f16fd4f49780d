use Rattle.std.proofs.Common.{◌++◌}
use Rattle.cob_source.specs.Ahead.{AreReadOf}
use Rattle.cob_source.specs.Tokens.{lexemes}
use Rattle.cob_move.proofs.PieceLemmas.{goes_on_says}
use Rattle.cob_move.proofs.pieces.add_next.Goals as goal

pub returns-clause-says : goal.returns-clause-says
returns-clause-says c = λ text s.
    let read = rw c.in-Some.is at c.in_ok-more.ensures.read in
    let here : AreReadOf text (s.words ++ lexemes c.as_slice-piece.result.now) c.read_piece.new.ahead c.in-Some.more = rw c.as_slice-piece.ensures.value (read text s.words s.are_read) in
    goes_on_says text c.args.entries.now (lexemes c.as_slice-piece.result.now) c.args.list.now.items c.add_moves.new.list.items c.args.ahead.now c.read_piece.new.ahead c.in-Some.more s here (c.in_ok-done.ensures.added c.if-not-done.false)
    (c.statements_follow.ensures c.if-not-statements_follow.false)
