use Rattle.cob_move.specs.Between.{ArePairsOf}
use Rattle.cob_move_tests.specs.Entries.{records_of}
use Rattle.cob_move.specs.Pieces.{SaysSoFar}
use Rattle.cob_source.specs.Ahead.{HaveLineNumbers, IsNoted}
use Rattle.cob_move.proofs.pieces.all_pieces.Given as goal

abbrev pub invariant-loop-piece : goal.invariant-loop-piece
invariant-loop-piece l = record {
  pairs : ArePairsOf (records_of l.entries) l.pairs;
  numbered : HaveLineNumbers l.ahead;
  noted : IsNoted l.ahead;
  says : SaysSoFar l.text l.entries l.list.items l.ahead l.more;
}
