use Rattle.std.proofs.Common.{◌≤◌, List, length, subst, ℕ}
use Rattle.cob_move_constants.proofs.LaidOutLemmas.{literal_room}
use Rattle.cob_move_constants.proofs.laying.has_room.Goals as goal

pub returns-in-Literal : goal.returns-in-Literal
returns-in-Literal c =
    rw c.in-Literal.is
    (λ fits text gives. literal_room c.args.size c.in-Literal.text text gives (subst (λ (t : List ℕ). length t ≤ c.args.size) c.as_bytes.ensures.value (c.is_within.ensures fits)))
