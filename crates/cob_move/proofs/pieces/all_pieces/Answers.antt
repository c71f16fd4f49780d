use Rattle.cob_move.proofs.PieceLemmas.{all_said, more_says}
use Rattle.cob_move.proofs.pieces.all_pieces.Goals as goal

pub loop-piece-init : goal.loop-piece-init
loop-piece-init c = record {
  pairs = c.in_ok-first.ensures.pairs;
  numbered = rw c.in-Some-2.is at c.in_ok-first.ensures.numbered;
  noted = rw c.in-Some-2.is at c.in_ok-first.ensures.noted;
  says = let said = rw c.in-Some-2.is at c.in_ok-first.ensures.says in said c.args.text.now c.in-Some.ensures.begins;
}

pub loop-piece-preserved : goal.loop-piece-preserved
loop-piece-preserved c = record {
  pairs = c.in_ok-next.ensures.pairs;
  numbered = rw c.in-Some-3.is at c.in_ok-next.ensures.numbered;
  noted = rw c.in-Some-3.is at c.in_ok-next.ensures.noted;
  says = let said = rw c.in-Some-3.is at c.in_ok-next.ensures.says in
      said c.args.text.now (more_says c.args.text.now c.args.entries.now c.loop-piece.list.items c.loop-piece.ahead c.loop-piece.more c.loop-piece.invariant.says c.if-not-more.false);
}

pub returns-then-not-more-clause-found : goal.returns-then-not-more-clause-found
returns-then-not-more-clause-found c = all_said c.args.text.now c.args.entries.now c.loop-piece.list.items c.loop-piece.ahead c.loop-piece.more c.loop-piece.invariant.says c.if-not-more.true c.requires.named c.no_turn.ensures
