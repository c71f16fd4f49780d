-- Single moves from one place of the output record to another that are made ready.
use Rattle.std.proofs.Common.{◌≡◌, ℕ, ◌+◌, ◌-◌, ◌≤◌, Bool, true, false, List, [], ◌∷◌, ◌++◌, length, take, drop, refl, sym, ap, subst, ◌∙◌, arith, append_assoc, append-nil, drop-drop, length-take-le, length-drop, Option, Some, None}
use Rattle.std.proofs.lemmas.List.{drop-take, drop_all, take-append-drop, take-append-le}
use Rattle.cob_codec.specs.Readings.{KeepsZones}
use Rattle.cob_codec.specs.declared.reading.Reading.{Reading}
use Rattle.cob_codec.specs.declared.reading.Reading.TheVariants.{Pictured}
use Rattle.cob_copybook_tree.specs.declared.node.Kind.{Kind}
use Rattle.cob_copybook_tree.specs.Forests.{Forest}
use Rattle.cob_copybook_tree.specs.Nodes.{Resolved}
use Rattle.cob_layout.specs.declared.fields.Place.{Place}
use Rattle.cob_layout.specs.Fields.{field_of, with_field}
use Rattle.cob_move_data.specs.declared.operands.Side.{Side}
use Rattle.cob_move_data.specs.declared.operands.Side.TheVariants.{Out}
use Rattle.cob_move_data.specs.Moves.{Records, operand_in, record_of}
use Rattle.cob_move_steps.specs.Pictured.{IsPicturedStep, IsReceivedPictured}
use Rattle.cob_move_steps.specs.Pool.{IsMoveStep, IsReceived, MoveKinds}
use Rattle.cob_move_steps.specs.declared.pictured.PicturedStep.{PicturedStep}
use Rattle.cob_move_steps.specs.declared.pictured.PicturedSteps.{PicturedSteps}
use Rattle.cob_move_steps.specs.declared.pool.MoveStep.{MoveStep}
use Rattle.cob_move_steps.specs.declared.pool.MoveStep.TheVariants.{Characters}
use Rattle.cob_move_steps.specs.declared.pool.MoveSteps.{MoveSteps}
use Rattle.cob_move_receive.specs.Received.{Received, outcome}
use Rattle.cob_move_receive.specs.Sent as sent
use Rattle.cob_move_receive.specs.Sent.{Occupies}
use Rattle.cob_move_apply.specs.Applied.{IsMoved, done, stopped, storage_of}
use Rattle.cob_move_apply.specs.Located.{stop_at}
use Rattle.cob_move_apply.specs.Made.{IsMadeReady, StandAt}
use Rattle.cob_move_apply.specs.Spent.{HaveSpent, IsSpent, PlaceSpends}
use Rattle.cob_move_apply.specs.Steps.{CarriesAnywhere, CarriesPictured, GivesText, copied_move}
use Rattle.cob_move_apply.specs.Surveyed.{IsSurvey, SurveysField}
use Rattle.cob_move_apply.specs.Written.{HasPlaces, IsReceivedFrom, ended}
use Rattle.cob_move_apply.specs.declared.step.LocatedMove.{LocatedMove}
use Rattle.cob_move_apply.specs.declared.step.MovePlaces.{MovePlaces}
use Rattle.cob_move_apply.specs.declared.step.PreparedMove.{PreparedMove}
use Rattle.cob_move_apply.specs.declared.stop.StopCause.TheVariants.{NoValue}
use Rattle.cob_move_apply.specs.declared.survey.Survey.{Survey}
use Rattle.cob_move_apply.proofs.CopyLemmas.{as_long}
use Rattle.cob_move_apply.proofs.CutLemmas.{written_size}
use Rattle.cob_move_apply.proofs.LocatedLemmas.{located_ends}
use Rattle.cob_move_apply.proofs.PreparedLemmas.{IsAnswered, ends_there, last_bytes}
use Rattle.cob_move_apply.proofs.SpendingLemmas.{located_met, made_bytes}
use Rattle.cob_move_apply.proofs.SpentLemmas.{spent_behind}

-- what the step answers of bytes that the sender's end is what the receiver gets
from_bytes : (p : PreparedMove) (steps : MoveSteps) (bytes before : List ℕ) (n : ℕ) (o : Option (List ℕ)) (k : MoveKinds) → p.places.from.length ≤ length bytes → last_bytes p.places.from.length bytes ≡ field_of p.places.from before
    → n ≡ p.places.to.length → IsAnswered p steps bytes n o → IsMoveStep steps k p.step → HasPlaces p.places k → IsReceivedFrom p.places k before o
from_bytes p steps bytes before n o k reach ends size gets is has reading keeps =
    let same : last_bytes k.sent bytes ≡ field_of p.places.from before = ap (λ m. last_bytes m bytes) has.sent ∙ ends in
    subst (λ (xs : List ℕ). Received (sent.Entry k.sender xs reading) k.receiver k.received o) same (gets k is (omega (arith, has.sent, reach)) (size ∙ sym has.received) reading keeps)

-- a step that read such bytes, and left what it wrote at the receiver's place, or all as it was
pub made_within : (p : PreparedMove) (steps : MoveSteps) (bytes before new after : List ℕ) (n : ℕ) (b : Bool) → p.places.from.length ≤ length bytes → last_bytes p.places.from.length bytes ≡ field_of p.places.from before
    → n ≡ p.places.to.length → after ≡ with_field before p.places.to new → (b ≡ false → after ≡ before) → IsAnswered p steps bytes n (outcome b new)
    → IsMadeReady Out p steps before before (ended Out p.places b after)
made_within p steps bytes before new after n true reach ends size written same gets k is has =
    (Some new, from_bytes p steps bytes before n (Some new) k reach ends size gets is has, ap done written)
made_within p steps bytes before new after n false reach ends size written same gets k is has =
    (None, from_bytes p steps bytes before n None k reach ends size gets is has, ap (stopped (stop_at Out p.places.from.offset NoValue)) (same refl))

-- ---- the bytes of a storage in two parts

-- all bytes end themselves
all_bytes : (bytes : List ℕ) → last_bytes (length bytes) bytes ≡ bytes
all_bytes bytes = ap (λ n. drop n bytes) (none (length bytes))
  where
    none : (n : ℕ) → n - n ≡ 0
    none n = omega arith

-- the front of a front
front_of : (n m : ℕ) (xs : List ℕ) → n ≤ m → m ≤ length xs → take n (take m xs) ≡ take n xs
front_of n m xs le fits = sym (take-append-le n (take m xs) (drop m xs) (omega (arith, le, length-take-le m xs fits))) ∙ ap (take n) (take-append-drop m xs)

-- the sender's bytes end those before it in a front of the storage
pub onwards_ends : (p : Place) (start : ℕ) (storage : List ℕ) → p.offset + p.length ≤ start → start ≤ length storage → last_bytes p.length (take (p.offset + p.length) (take start storage)) ≡ field_of p storage
onwards_ends p start storage before fits =
    ap (last_bytes p.length) (front_of (p.offset + p.length) start storage before fits) ∙ ends_there p storage (omega (arith, before, fits))

-- and those behind such a front
pub backwards_ends : (p : Place) (end : ℕ) (storage : List ℕ) → end ≤ p.offset → p.offset + p.length ≤ length storage → last_bytes p.length (take (p.offset + p.length - end) (drop end storage)) ≡ field_of p storage
backwards_ends p end storage behind fits =
    let q : Place = record { offset = p.offset - end; length = p.length } in
    ap (λ n. last_bytes p.length (take n (drop end storage))) (shorter p.offset p.length end behind)
    ∙ ends_there q (drop end storage) (omega (arith, behind, fits, length-drop end storage))
    ∙ ap (take p.length) (drop-drop (p.offset - end) end storage ∙ ap (λ n. drop n storage) (back p.offset end behind))
  where
    shorter : (o l e : ℕ) → e ≤ o → o + l - e ≡ o - e + l
    shorter o l e le = omega (arith, le)

    back : (o e : ℕ) → e ≤ o → e + (o - e) ≡ o
    back o e le = omega (arith, le)

-- what was written at the end of a front of the storage was written to its place
pub backwards_is : (p : Place) (storage new : List ℕ) → p.offset + p.length ≤ length storage
    → (take p.offset (take (p.offset + p.length) storage) ++ (new ++ drop p.length (drop p.offset (take (p.offset + p.length) storage)))) ++ drop (p.offset + p.length) storage ≡ with_field storage p new
backwards_is p storage new fits =
    let end : ℕ = p.offset + p.length in
    let front : take p.offset (take end storage) ≡ take p.offset storage = front_of p.offset end storage (omega arith) fits in
    let none : drop p.length (drop p.offset (take end storage)) ≡ [] =
    ap (drop p.length) (drop-take p.offset p.length storage) ∙ drop_all p.length (take p.length (drop p.offset storage)) (omega (arith, fits, length-take-le p.length (drop p.offset storage) (omega (arith, fits, length-drop p.offset storage)))) in
    ap (λ t. (t ++ (new ++ drop p.length (drop p.offset (take end storage)))) ++ drop end storage) front
    ∙ ap (λ t. (take p.offset storage ++ (new ++ t)) ++ drop end storage) none
    ∙ append_assoc (take p.offset storage) (new ++ []) (drop end storage)
    ∙ ap (λ t. take p.offset storage ++ (t ++ drop end storage)) (append-nil new)
    ∙ ap (λ t. take p.offset storage ++ (new ++ t)) (sym (drop-drop p.length p.offset storage))

-- bytes that were taken are all that there are
pub taken_ends : (p : Place) (bytes storage : List ℕ) → p.offset + p.length ≤ length storage → bytes ≡ field_of p storage → last_bytes p.length bytes ≡ field_of p storage
taken_ends p bytes storage fits same = ap (λ n. last_bytes n bytes) (sym (as_long p storage fits) ∙ sym (ap length same)) ∙ (all_bytes bytes ∙ same)

-- bytes that were left as they were, behind a front and within one
pub onwards_kept : (start n : ℕ) (storage new : List ℕ) → new ≡ take n (drop start storage) → take start storage ++ (new ++ drop n (drop start storage)) ≡ storage
onwards_kept start n storage new same =
    ap (λ t. take start storage ++ (t ++ drop n (drop start storage))) same
    ∙ ap (λ t. take start storage ++ t) (take-append-drop n (drop start storage))
    ∙ take-append-drop start storage

-- what is kept of the output record once a step moved
pub survey_made : (t : Forest Resolved) (p : PreparedMove) (steps : MoveSteps) (k : MoveKinds) (before after : List ℕ) (old new : Survey) → IsMoveStep steps k p.step → HasPlaces p.places k
    → p.places.to.offset + p.places.to.length ≤ length before → length after ≡ length before → IsMadeReady Out p steps before before (done after) → SurveysField t p.places.to old new
    → IsSurvey t before old → IsSurvey t after new
survey_made t p steps k before after old new is has within size made changes surveyed =
    let (outcome, received, same) = made k is has in
    let (bytes, some, written) = made_bytes Out p.places before after outcome same in
    subst (λ (b : List ℕ). IsSurvey t b new) written
    (changes before bytes within (written_size p.places.to before bytes within (ap length written ∙ size)) surveyed)

-- ---- wherever both stand

-- between these kinds, of so many bytes
abbrev pub between : Kind → Kind → ℕ → ℕ → MoveKinds
between from to sent received = record { sender = from; sent = sent; receiver = to; received = received }

pub least : (n : ℕ) → n ≤ n
least n = omega arith

-- a step of these kinds that got all bytes of its sender
got_all : (steps : MoveSteps) (from to : Kind) (step : MoveStep) (bytes : List ℕ) (n : ℕ) (o : Option (List ℕ)) (reading : Reading) → KeepsZones reading → IsMoveStep steps (between from to (length bytes) n) step
    → ((k : MoveKinds) → IsMoveStep steps k step → k.sent ≤ length bytes → n ≡ k.received → IsReceived k bytes o) → Received (sent.Entry from bytes reading) to n o
got_all steps from to step bytes n o reading keeps is gets =
    subst (λ (xs : List ℕ). Received (sent.Entry from xs reading) to n o) (all_bytes bytes) (gets (between from to (length bytes) n) is (least (length bytes)) refl reading keeps)

pub got_always : (steps : MoveSteps) (from to : Kind) (step : MoveStep) (bytes : List ℕ) (n : ℕ) (o : Option (List ℕ)) (reading : Reading) → KeepsZones reading → CarriesAnywhere steps from to step → Occupies from (length bytes) → Occupies to n
    → ((k : MoveKinds) → IsMoveStep steps k step → k.sent ≤ length bytes → n ≡ k.received → IsReceived k bytes o) → Received (sent.Entry from bytes reading) to n o
got_always steps from to step bytes n o reading keeps carries has gets h = got_all steps from to step bytes n o reading keeps (carries (length bytes) n has gets) h

pub got_pictured : (steps : PicturedSteps) (from to : Kind) (step : PicturedStep) (bytes : List ℕ) (n : ℕ) (o : Option (List ℕ)) (reading : Reading) → reading ≡ Pictured → CarriesPictured steps from to step
    → Occupies from (length bytes) → Occupies to n
    → ((k : MoveKinds) → IsPicturedStep steps k step → k.sent ≤ length bytes → n ≡ k.received → IsReceivedPictured k bytes o) → Received (sent.Entry from bytes reading) to n o
got_pictured steps from to step bytes n o reading read carries has gets h =
    subst (λ (x : Reading). Received (sent.Entry from bytes x) to n o) (sym read)
    (subst (λ (xs : List ℕ). Received (sent.Entry from xs Pictured) to n o) (all_bytes bytes) (h (between from to (length bytes) n) (carries (length bytes) n has gets) (least (length bytes)) refl))

-- the step of characters of as many bytes as there are
pub characters_of : (steps : MoveSteps) (from to : Kind) (right : Bool) (size : ℕ) (n : ℕ) → GivesText from to right → Occupies from size → Occupies to n
    → IsMoveStep steps (between from to size n) (Characters (record { sent = size; right = right }))
characters_of steps from to right size n (gives, side) has gets = record {
  occupied = record { sender = has; receiver = gets };
  between = record { gives = gives; count = refl; side = side };
}

pub got_characters : (steps : MoveSteps) (from to : Kind) (right : Bool) (bytes : List ℕ) (n : ℕ) (o : Option (List ℕ)) (reading : Reading) → KeepsZones reading → GivesText from to right → Occupies from (length bytes) → Occupies to n
    → ((k : MoveKinds) → IsMoveStep steps k (Characters (record { sent = length bytes; right = right })) → k.sent ≤ length bytes → n ≡ k.received → IsReceived k bytes o) → Received (sent.Entry from bytes reading) to n o
got_characters steps from to right bytes n o reading keeps gives has gets h =
    got_all steps from to (Characters (record { sent = length bytes; right = right })) bytes n o reading keeps (characters_of steps from to right (length bytes) n gives has gets) h

-- the receiver got what the sender had where both stand
pub there_moved : (side : Side) (r : Records) (x : Reading) (one : LocatedMove) (p : MovePlaces) (input before bytes after : List ℕ) → StandAt side r one input before p
    → Received (sent.Entry (operand_in (record_of r side) one.sent).kind (field_of p.from (storage_of side input before)) x) (operand_in r.output one.receiver).kind p.to.length (Some bytes)
    → after ≡ with_field before p.to bytes → IsMoved r (copied_move side x r one.sent one.receiver) input before (done after)
there_moved side r x one p input before bytes after stand received written =
    subst (λ (b : List ℕ). IsMoved r (copied_move side x r one.sent one.receiver) input before (done b)) (sym written) (located_ends side r x one p input before (Some bytes) stand received)

pub there_has_spent : (side : Side) (r : Records) (x : Reading) (one : LocatedMove) (p : MovePlaces) (input before bytes after : List ℕ) (old mid new : Survey) → StandAt side r one input before p
    → Received (sent.Entry (operand_in (record_of r side) one.sent).kind (field_of p.from (storage_of side input before)) x) (operand_in r.output one.receiver).kind p.to.length (Some bytes)
    → after ≡ with_field before p.to bytes → IsSpent r.output 0 old mid → PlaceSpends r.output before p.to mid new → HaveSpent r (copied_move side x r one.sent one.receiver ∷ []) input before after old new
there_has_spent side r x one p input before bytes after old mid new stand received written first (met, meets, then) =
    (met, located_met side r x one p input before after (Some bytes) met stand received (ap done written) meets, spent_behind r.output met old mid new first then)

-- what was received of such kinds
pub received_as : (s t k l : Kind) (x : Reading) (sent_bytes field : List ℕ) (n m : ℕ) (b : Bool) (new : List ℕ) → s ≡ k → t ≡ l → sent_bytes ≡ field → n ≡ m → b ≡ true
    → Received (sent.Entry s sent_bytes x) t n (outcome b new) → Received (sent.Entry k field x) l m (Some new)
received_as s t k l x sent_bytes field n m b new from to same size there h =
    subst (λ (y : Kind). Received (sent.Entry y field x) l m (Some new)) from
    (subst (λ (y : Kind). Received (sent.Entry s field x) y m (Some new)) to
    (subst (λ (ys : List ℕ). Received (sent.Entry s ys x) t m (Some new)) same
    (subst (λ (i : ℕ). Received (sent.Entry s sent_bytes x) t i (Some new)) size (subst (λ (c : Bool). Received (sent.Entry s sent_bytes x) t n (outcome c new)) there h))))
