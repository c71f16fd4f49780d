-- Steps carried out one after another.
use Rattle.std.proofs.Common.{◌≡◌, ℕ, ◌+◌, ◌<◌, ◌≤◌, List, [], ◌∷◌, ◌++◌, length, get_or, drop, refl, sym, ap, subst, ◌∙◌, arith, inl, inr, Option, Some, None}
use Rattle.std.proofs.lemmas.List.{drop_all, drop_more}
use Rattle.cob_codec.specs.Readings.{KeepsZones}
use Rattle.cob_codec.specs.declared.reading.Reading.{Reading}
use Rattle.cob_copybook_tree.specs.declared.node.Kind.{Kind}
use Rattle.cob_copybook_entry.specs.Described.{PlainValue}
use Rattle.cob_layout.specs.Fields.{field_of, with_field}
use Rattle.cob_layout.specs.Laws.{OneOfNeeded}
use Rattle.cob_layout.specs.Storage.{greatest_length, IsStorage}
use Rattle.cob_move_data.specs.declared.operands.Side.{Side}
use Rattle.cob_move_data.specs.declared.operands.StatementMoves.{StatementMoves}
use Rattle.cob_move_data.specs.Moves.{Move, Records}
use Rattle.cob_move_apply.specs.Applied.{Applied, Ending, IsMoved, OneEnding, done, stopped, storage_of}
use Rattle.cob_move_apply.specs.InPlace.{AppliedInPlace}
use Rattle.cob_move_apply.specs.Made.{IsMadeConstant, IsMadeReady}
use Rattle.cob_move_apply.specs.Steps.{AreSteps, IsConstantAt, IsMoveOfPart, IsPicturedPart, IsPreparedMove, IsStep, StandFor, Support}
use Rattle.cob_move_apply.specs.Going.{Left}
use Rattle.cob_move_apply.specs.Surveyed.{IsWorkspace}
use Rattle.cob_move_apply.specs.Written.{HasPlaces}
use Rattle.cob_move_steps.specs.Pool.{IsMoveStep, MoveKinds}
use Rattle.cob_move_steps.specs.declared.pool.MoveSteps.{MoveSteps}
use Rattle.cob_move_apply.specs.declared.step.ConstantMove.{ConstantMove}
use Rattle.cob_move_apply.specs.declared.step.MovePlaces.{MovePlaces}
use Rattle.cob_move_apply.specs.declared.step.Part.{Part}
use Rattle.cob_move_apply.specs.declared.step.PicturedMove.{PicturedMove}
use Rattle.cob_move_apply.specs.declared.step.PreparedMove.{PreparedMove}
use Rattle.cob_move_apply.specs.declared.step.Step.{Step}
use Rattle.cob_move_apply.specs.declared.step.Step.TheVariants as step
use Rattle.cob_move_apply.specs.declared.stop.Stop.{Stop}
use Rattle.cob_move_apply.specs.declared.workspace.Workspace.{Workspace}
use Rattle.cob_move_apply.proofs.CopyLemmas.{survey_left}
use Rattle.cob_move_apply.proofs.CutLemmas.{cut_moves}
use Rattle.cob_move_apply.proofs.InPlaceLemmas.{applied_of, in_place_both, in_place_stopped, step_in_place}

pub left_all : OneOfNeeded → (x : Reading) (r : Records) (given : List StatementMoves) (ms : List Move) (steps : List Step) (on : Support) (input before : List ℕ) → length before ≡ greatest_length r.output
    → StandFor x r given steps on ms → Left x r given ms steps on 0 input before before
left_all law x r given ms steps on input before long (parts, are, cut) = (parts, are, λ end h. cut_moves law r ms parts input before end long cut h)

pub left_same : (x : Reading) (r : Records) (given : List StatementMoves) (ms : List Move) (steps : List Step) (on : Support) (i : ℕ) (input before now same : List ℕ) → same ≡ now
    → Left x r given ms steps on i input before now → Left x r given ms steps on i input before same
left_same x r given ms steps on i input before now same is left = subst (λ (bytes : List ℕ). Left x r given ms steps on i input before bytes) (sym is) left

-- the step at a place, with the moves that it stands for
pub record Next (x : Reading) (r : Records) (given : List StatementMoves) (ms : List Move) (steps : List Step) (on : Support) (i : ℕ) (s : Step) (input before now : List ℕ) : Type 0 where
  pub own : List Move
  pub more : List Move
  pub is : IsStep x r given on s own
  pub others : AreSteps x r given on (drop (i + 1) steps) more
  pub so : (end : Ending) → AppliedInPlace r (own ++ more) input now end → Applied r ms input before end

pub next_step : (x : Reading) (r : Records) (given : List StatementMoves) (ms : List Move) (steps : List Step) (on : Support) (i : ℕ) (s d : Step) (input before now : List ℕ) → i < length steps → get_or steps i d ≡ s
    → Left x r given ms steps on i input before now → Next x r given ms steps on i s input before now
next_step x r given ms steps on i s d input before now lt is (rest, are, so) =
    let here : drop i steps ≡ s ∷ drop (i + 1) steps = drop_more steps i d lt ∙ ap (λ (t : Step). t ∷ drop (i + 1) steps) is in
    let (own, more, cut, one, others) = subst (λ (ss : List Step). AreSteps x r given on ss rest) here are in record {
      own = own;
      more = more;
      is = one;
      others = others;
      so = λ end h. so end (subst (λ (ps : List Move). AppliedInPlace r ps input now end) (sym cut) h);
    }

-- ---- a step carried out

pub left_made : OneEnding → (x : Reading) (r : Records) (given : List StatementMoves) (ms : List Move) (steps : List Step) (on : Support) (i : ℕ) (s : Step) (input before now after : List ℕ) → IsStorage r.input input
    → length now ≡ greatest_length r.output → length after ≡ length now → Next x r given ms steps on i s input before now
    → ((own : List Move) → IsStep x r given on s own → Applied r own input now (done after)) → Left x r given ms steps on (i + 1) input before after
left_made law x r given ms steps on i s input before now after is long size n made = (
  n.more,
  n.others,
  λ end h. n.so end (in_place_both r n.own n.more input now after end (step_in_place law x r given on s n.own input now (done after) is long size n.is (made n.own n.is)) h),
)

pub stopped_made : OneEnding → (x : Reading) (r : Records) (given : List StatementMoves) (ms : List Move) (steps : List Step) (on : Support) (i : ℕ) (s : Step) (input before now after : List ℕ) (stop : Stop) → IsStorage r.input input
    → length now ≡ greatest_length r.output → length after ≡ length now → Next x r given ms steps on i s input before now
    → ((own : List Move) → IsStep x r given on s own → Applied r own input now (stopped stop after)) → Applied r ms input before (stopped stop after)
stopped_made law x r given ms steps on i s input before now after stop is long size n made =
    n.so (stopped stop after) (in_place_stopped r n.own n.more input now after stop (step_in_place law x r given on s n.own input now (stopped stop after) is long size n.is (made n.own n.is)))

-- ---- a part

one_applied : (r : Records) (m : Move) (input now : List ℕ) (stop : Option Stop) (after : List ℕ) → IsMoved r m input now (record { stop = stop; storage = after }) → Applied r (m ∷ []) input now (record { stop = stop; storage = after })
one_applied r m input now None after moved = inl (after, moved, refl)
one_applied r m input now (Some stop) after moved = inr (stop, after, moved, refl)

pub made_one : (r : Records) (own : List Move) (m : Move) (input now : List ℕ) (end : Ending) → own ≡ m ∷ [] → IsMoved r m input now end → Applied r own input now end
made_one r own m input now end same moved = subst (λ (ps : List Move). Applied r ps input now end) (sym same) (one_applied r m input now end.stop end.storage moved)

pub the_part : (x : Reading) (r : Records) (given : List StatementMoves) (on : Support) (p : Part) (own : List Move) → IsStep x r given on (step.Part p) own → (m : Move) × IsMoveOfPart x r given on.bases p m
the_part x r given on p own (m, same, part) = (m, part)

pub made_part : (x : Reading) (r : Records) (given : List StatementMoves) (on : Support) (p : Part) (own : List Move) (input now : List ℕ) (end : Ending)
    → ((m : Move) → IsMoveOfPart x r given on.bases p m → IsMoved r m input now end) → IsStep x r given on (step.Part p) own → Applied r own input now end
made_part x r given on p own input now end moved (m, same, part) = made_one r own m input now end same (moved m part)

-- ---- a single move that was made ready

pub the_prepared : (side : Side) (x : Reading) (r : Records) (steps : MoveSteps) (p : PreparedMove) (own : List Move) → IsPreparedMove side x r steps p own → (k : MoveKinds) × IsMoveStep steps k p.step × HasPlaces p.places k
the_prepared side x r steps p own (k, is, fixed) = (k, is, fixed.places)

pub prepared_reads : (side : Side) (x : Reading) (r : Records) (steps : MoveSteps) (p : PreparedMove) (own : List Move) (input now : List ℕ) → IsPreparedMove side x r steps p own
    → IsStorage r.input input → length now ≡ greatest_length r.output → p.places.from.offset + p.places.from.length ≤ length (storage_of side input now)
prepared_reads side x r steps p own input now (k, step_is, fixed) is size = fixed.reads input now is size

pub prepared_within : (side : Side) (x : Reading) (r : Records) (steps : MoveSteps) (p : PreparedMove) (own : List Move) → IsPreparedMove side x r steps p own
    → p.places.to.offset + p.places.to.length ≤ greatest_length r.output
prepared_within side x r steps p own (k, step_is, fixed) = fixed.within

pub made_prepared : (side : Side) (x : Reading) (r : Records) (steps : MoveSteps) (p : PreparedMove) (own : List Move) (input now : List ℕ) (end : Ending)
    → KeepsZones x → IsStorage r.input input → length now ≡ greatest_length r.output → IsMadeReady side p steps (storage_of side input now) now end → IsPreparedMove side x r steps p own → Applied r own input now end
made_prepared side x r steps p own input now end keeps is size made (k, step_is, fixed) =
    let (outcome, received, same) = made k step_is fixed.places in
    subst (λ (e : Ending). Applied r own input now e) (sym same) (fixed.ends input now outcome is size (received x keeps))

-- ---- a part that was made ready where senders are read as their pictures say

pub the_pictured : (x : Reading) (r : Records) (given : List StatementMoves) (on : Support) (q : PicturedMove) (p : Part) (own : List Move)
    → IsStep x r given on (step.Pictured q p) own → (m : Move) × IsPicturedPart x r given on.bases on.pictured q p m
the_pictured x r given on q p own (m, same, part) = (m, part)

pub made_pictured : (x : Reading) (r : Records) (given : List StatementMoves) (on : Support) (q : PicturedMove) (p : Part) (own : List Move) (input now : List ℕ) (end : Ending)
    → ((m : Move) → IsPicturedPart x r given on.bases on.pictured q p m → IsMoved r m input now end) → IsStep x r given on (step.Pictured q p) own → Applied r own input now end
made_pictured x r given on q p own input now end moved (m, same, part) = made_one r own m input now end same (moved m part)

-- ---- a constant that was made ready

pub the_constant : (x : Reading) (r : Records) (given : List StatementMoves) (on : Support) (c : ConstantMove) (own : List Move)
    → IsStep x r given on (step.Constant c) own → (constant : PlainValue) × (to : Kind) × IsConstantAt on.constants c constant to
the_constant x r given on c own (constant, to, at, fixed) = (constant, to, at)

pub constant_within : (x : Reading) (r : Records) (given : List StatementMoves) (on : Support) (c : ConstantMove) (own : List Move) → IsStep x r given on (step.Constant c) own → c.to.offset + c.to.length ≤ greatest_length r.output
constant_within x r given on c own (constant, to, at, fixed) = fixed.within

pub made_constant : (x : Reading) (r : Records) (given : List StatementMoves) (on : Support) (c : ConstantMove) (own : List Move) (input now after : List ℕ)
    → IsMadeConstant c on.constants now after → IsStep x r given on (step.Constant c) own → Applied r own input now (done after)
made_constant x r given on c own input now after made (constant, to, at, fixed) =
    let (written, received, same) = made constant to at in
    subst (λ (s : List ℕ). Applied r own input now (done s)) (sym same) (fixed.ends input now written received)

-- ---- a copy

pub copy_reads : (x : Reading) (r : Records) (given : List StatementMoves) (on : Support) (c : MovePlaces) (own : List Move) (input : List ℕ)
    → IsStep x r given on (step.Copy c) own → IsStorage r.input input → c.from.offset + c.from.length ≤ length input
copy_reads x r given on c own input copied is = copied.reads input is

pub copy_within : (x : Reading) (r : Records) (given : List StatementMoves) (on : Support) (c : MovePlaces) (own : List Move) → IsStep x r given on (step.Copy c) own → c.to.offset + c.to.length ≤ greatest_length r.output
copy_within x r given on c own copied = copied.are.within

pub made_copy : (x : Reading) (r : Records) (given : List StatementMoves) (on : Support) (c : MovePlaces) (own : List Move) (input now after : List ℕ)
    → IsStorage r.input input → length now ≡ greatest_length r.output → after ≡ with_field now c.to (field_of c.from input) → IsStep x r given on (step.Copy c) own → Applied r own input now (done after)
made_copy x r given on c own input now after is size written copied = subst (λ (s : List ℕ). Applied r own input now (done s)) (sym written) (applied_of r own input now (done (with_field now c.to (field_of c.from input))) (copied.are.written input now is size))

pub space_copy : (x : Reading) (r : Records) (given : List StatementMoves) (on : Support) (c : MovePlaces) (own : List Move) (input now after : List ℕ) (w : Workspace)
    → IsStorage r.input input → length now ≡ greatest_length r.output → after ≡ with_field now c.to (field_of c.from input)
    → IsStep x r given on (step.Copy c) own → IsWorkspace r input now w → IsWorkspace r input after w
space_copy x r given on c own input now after w is size written copied space =
    subst (λ (s : List ℕ). IsWorkspace r input s w) (sym written) (record {
      surveyed_input = space.surveyed_input;
      surveyed_output = survey_left r.output now (field_of c.from input) c.to w.output copied.are.leaves (omega (arith, size, copied.are.within)) (copied.are.long input is) space.surveyed_output;
      content = space.content;
    })

-- ---- all are done

pub left_none : (x : Reading) (r : Records) (given : List StatementMoves) (ms : List Move) (steps : List Step) (on : Support) (i : ℕ) (input before now : List ℕ) → length steps ≤ i
    → Left x r given ms steps on i input before now → Applied r ms input before (done now)
left_none x r given ms steps on i input before now past (rest, are, so) =
    let none : rest ≡ [] = subst (λ (ss : List Step). AreSteps x r given on ss rest) (drop_all i steps past) are in
    so (done now) (subst (λ (ps : List Move). AppliedInPlace r ps input now (done now)) (sym none) refl)
