use Rattle.std.proofs.Common.{refl}
use Rattle.cob_move_names.specs.Listed.{candidate_of}
use Rattle.cob_move_names.proofs.directory.Names.find.Goals as goal

pub returns-in-Some-clause-found : goal.returns-in-Some-clause-found
returns-in-Some-clause-found c = record {
  bearer = candidate_of c.in_ok-candidate.candidate.now;
  only = c.in_ok-candidate.ensures.found;
  subscripts = c.in-Some.ensures.yes;
  stands = refl;
  is = c.in-Some.ensures.found;
}

pub returns-in-None-clause-fault : goal.returns-in-None-clause-fault
returns-in-None-clause-fault c = (candidate_of c.in_ok-candidate.candidate.now, c.in_ok-candidate.ensures.found, c.in-None.ensures.no)
