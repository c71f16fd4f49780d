use Rattle.cob_move_deeds.proofs.ready.ReadyDeeds.with_steady_bounds.Goals as goal

pub returns-clause-prepared : goal.returns-clause-prepared
returns-clause-prepared c = λ r same prepared. record {
  moves = prepared.moves;
  bounds = prepared.bounds;
  asked = prepared.asked;
  flows = prepared.flows;
  steady = c.in_ok-noted.ensures r same prepared;
  tests = prepared.tests;
}
