-- What follows of what passages come to, said as laws.
use Rattle.std.specs.Prelude.{◌≡◌, ℕ, List}
use Rattle.cob_copybook_tree.specs.Forests.{Forest}
use Rattle.cob_copybook_tree.specs.Nodes.{Resolved}
use Rattle.cob_move_apply.specs.Applied.{Ending}
use Rattle.cob_move_data.specs.Moves.{Records}
use Rattle.cob_move_deeds.specs.Deeds.{Carried, Deeds, both_deeds}
use Rattle.cob_move_deeds.specs.Tests.{Judged, Test}
use Rattle.cob_move_loops.specs.Passages.{Passage}
use Rattle.cob_move_loops.specs.Turns.{Counted}
use Rattle.cob_move_names.specs.Candidates.{Candidate, all_entries}
use Rattle.cob_move_statements.specs.declared.fault.MoveFault.{MoveFault}
use Rattle.cob_move_statements.specs.declared.fault.MoveRule.TheVariants.{Memory}
use Rattle.cob_copybook_names.specs.Naming.{Bearer}
use Rattle.cob_move_names.specs.Valued.{ValuedEntry}
use Rattle.cob_move.specs.Deeds.{AreDeeds, IsTurnRefused}
use Rattle.cob_move.specs.Joined.{joined_deeds}

-- Law: what is joined is done as the one is, and then the other.
abbrev pub JoinedIsBoth : Type 0
JoinedIsBoth = (r : Records) (d next : Deeds Test) (input before : List ℕ) (end : Ending)
    → (Carried (Judged r) r (joined_deeds d next) input before end → Carried (Judged r) r (both_deeds d next) input before end)
    × (Carried (Judged r) r (both_deeds d next) input before end → Carried (Judged r) r (joined_deeds d next) input before end)

-- Law: in a turn a passage comes to one thing at most, and to so many statements.
abbrev pub OneDeeds : Type 0
OneDeeds = (values : List (Bearer ValuedEntry)) (all : List Candidate) (input output : Forest Resolved) (ns : List Counted) (p : Passage) (d e : Deeds Test) (m n : ℕ)
    → AreDeeds values all input output ns p d m → AreDeeds values all input output ns p e n → (d ≡ e) × (m ≡ n)

-- Law: a passage that comes to something breaks no rule; it is refused for want of memory alone.
abbrev pub DeedsBreakNoRule : Type 0
DeedsBreakNoRule = (values : List (Bearer ValuedEntry)) (f : MoveFault) (input output : Forest Resolved) (ns : List Counted) (p : Passage) (d : Deeds Test) (m : ℕ)
    → AreDeeds values (all_entries input output) input output ns p d m → IsTurnRefused values f (all_entries input output) input output ns p → f.rule ≡ Memory
