use Rattle.cob_back_moves.proofs.NotedLemmas.{begins_by}
use Rattle.cob_back_moves.proofs.noted.byte_of.Goals as goal

pub returns : goal.returns
returns c =
    begins_by c.args.layout.now c.in_ok-reference.reference c.args.number c.args.subscripts.now c.in_ok-place.place c.in_ok-reference.ensures.found.0 c.in_ok-reference.ensures.found.1 c.in_ok-place.ensures.value
