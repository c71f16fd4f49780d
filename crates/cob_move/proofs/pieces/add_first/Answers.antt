use Rattle.std.proofs.Common.{[]}
use Rattle.cob_source.specs.Ahead.{AreReadOf}
use Rattle.cob_source.specs.Tokens.{lexemes}
use Rattle.cob_move.proofs.PieceLemmas.{begins_says}
use Rattle.cob_move.proofs.pieces.add_first.Goals as goal

pub returns-clause-says : goal.returns-clause-says
returns-clause-says c = λ text is.
    let read = rw c.in-Some.is at c.in_ok-more.ensures.read in
    let here : AreReadOf text (lexemes c.as_slice-piece.result.now) c.read_piece.new.ahead c.in-Some.more = rw c.as_slice-piece.ensures.value (read text [] is) in
    begins_says text c.args.entries.now (lexemes c.as_slice-piece.result.now) c.args.list.now.items c.add_moves.new.list.items c.read_piece.new.ahead c.in-Some.more here (c.in_ok-done.ensures.added c.if-not-done.false) c.requires.none
