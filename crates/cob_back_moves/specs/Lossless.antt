-- Moves there and back that lose nothing.
use Rattle.std.specs.Prelude.{List}
use Rattle.cob_move_data.specs.Moves.{Move, Records}
use Rattle.cob_back_moves.specs.Apart.{StandsOneWay}
use Rattle.cob_back_moves.specs.Returns.{AreTurned, Returns}

-- The records agree crosswise, and stand in one way; and the moves back bring back what those there take.
pub record IsLossless (r s : Records) (there back : List Move) : Type 0 where
  pub turned : AreTurned r s
  pub input : StandsOneWay r.input
  pub output : StandsOneWay r.output
  pub input_back : StandsOneWay s.input
  pub output_back : StandsOneWay s.output
  pub returns : Returns r.input there back
