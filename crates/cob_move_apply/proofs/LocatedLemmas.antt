-- Single moves that are made ready wherever their items stand.
use Rattle.std.proofs.Common.{◌≡◌, ℕ, ◌+◌, ◌-◌, ◌≤◌, Bool, true, false, List, [], ◌∷◌, ◌++◌, drop, get_or, length, replicate, refl, sym, ap, subst, ◌∙◌, arith, inl, inr, Option, Some, None}
use Rattle.std.proofs.Math.Seq.{take-append_seam}
use Rattle.cob_codec.specs.Readings.{KeepsZones}
use Rattle.cob_codec.specs.declared.reading.Reading.{Reading}
use Rattle.cob_codec.specs.declared.reading.Reading.TheVariants.{AnyZones, Pictured, Whole, WholeAnyZones}
use Rattle.cob_copybook_tree.specs.declared.node.Kind.{Kind}
use Rattle.cob_copybook_tree.specs.Forests.{Forest}
use Rattle.cob_copybook_tree.specs.Nodes.{Resolved}
use Rattle.cob_layout.specs.Fields.{field_of, with_field}
use Rattle.cob_layout_places.specs.declared.reference.Ref.{Ref}
use Rattle.cob_move_data.specs.declared.operands.Side.{Side}
use Rattle.cob_move_data.specs.declared.operands.Side.TheVariants.{In}
use Rattle.cob_move_data.specs.Moves.{IsOperand, Move, Records, operand_in, record_of}
use Rattle.cob_move_steps.specs.Pool.{IsMoveStep, MoveKinds}
use Rattle.cob_move_steps.specs.declared.characters_step.CharactersStep.{CharactersStep}
use Rattle.cob_move_steps.specs.declared.pictured.PicturedStep.{PicturedStep}
use Rattle.cob_move_steps.specs.declared.pictured.PicturedSteps.{PicturedSteps}
use Rattle.cob_move_steps.specs.declared.pool.MoveStep.{MoveStep}
use Rattle.cob_move_steps.specs.declared.pool.MoveStep.TheVariants.{Characters}
use Rattle.cob_move_steps.specs.declared.pool.MoveSteps.{MoveSteps}
use Rattle.cob_move_steps.proofs.CopyLemmas.{characters_received}
use Rattle.cob_move_steps.proofs.PoolLemmas.{read_at}
use Rattle.cob_move_receive.specs.Characters.{padded, padded_left}
use Rattle.cob_move_receive.specs.Received.{Received}
use Rattle.cob_move_receive.specs.Sent as sent
use Rattle.cob_move_apply.specs.Applied.{Applied, Ending, IsMoved, content_at, done, storage_of}
use Rattle.cob_move_apply.specs.Located.{stop_at}
use Rattle.cob_move_apply.specs.Made.{IsMadePictured, IsMadeReady, StandAt}
use Rattle.cob_move_apply.specs.Placed.{IsBasis}
use Rattle.cob_move_apply.specs.Planned.{AlwaysLocated}
use Rattle.cob_move_apply.specs.Steps.{CarriesAnywhere, CarriesLocated, CarriesPictured, GivesText, IsLocatedMove, IsReadyAnywhere, copied_move, serves}
use Rattle.cob_move_apply.specs.Written.{received_at}
use Rattle.cob_move_apply.specs.declared.step.LocatedMove.{LocatedMove}
use Rattle.cob_move_apply.specs.declared.step.LocatedStep.{LocatedStep}
use Rattle.cob_move_apply.specs.declared.step.LocatedStep.TheVariants as located_step
use Rattle.cob_move_apply.specs.declared.step.MovePlaces.{MovePlaces}
use Rattle.cob_move_apply.specs.declared.stop.Stop.{Stop}
use Rattle.cob_move_apply.specs.declared.stop.StopCause.TheVariants.{NoValue}
use Rattle.cob_move_apply.proofs.CopyLemmas.{as_long}
use Rattle.cob_move_apply.proofs.PreparedLemmas.{kinds_of}
use Rattle.cob_move_apply.proofs.StepLemmas.{made_one}

-- ---- what is made ready

-- one whose sender is of what a layout says that it is
pub ready_anywhere : (side : Side) (r : Records) (t : Forest Resolved) (steps : MoveSteps) (pictured : PicturedSteps) (sent receiver : Ref) (one : LocatedMove) (k l : Kind) → t ≡ record_of r side → one.sent ≡ sent → one.receiver ≡ receiver
    → IsOperand (record_of r side) (operand_in (record_of r side) sent) → IsOperand r.output (operand_in r.output receiver) → IsBasis t false (operand_in t sent) one.from
    → IsBasis r.output true (operand_in r.output receiver) one.to → k ≡ (operand_in t sent).kind → l ≡ (operand_in r.output receiver).kind → CarriesLocated steps pictured k l one.step
    → AlwaysLocated side r steps pictured one (λ reading. copied_move side reading r sent receiver ∷ [])
ready_anywhere side r t steps pictured sent receiver one k l is sent_is receiver_is sending receiving from to k_is l_is carries =
    let tree : Forest Resolved = record_of r side in
    let sent_kind : k ≡ (operand_in tree sent).kind = k_is ∙ ap (λ (f : Forest Resolved). (operand_in f sent).kind) is in (
      record {
        sends = record {
          operand = subst (λ (q : Ref). IsOperand tree (operand_in tree q)) (sym sent_is) sending;
          basis = subst (λ (q : Ref). IsBasis tree false (operand_in tree q) one.from) (sym sent_is) (subst (λ (f : Forest Resolved). IsBasis f false (operand_in f sent) one.from) is from);
        };
        receives = record {
          operand = subst (λ (q : Ref). IsOperand r.output (operand_in r.output q)) (sym receiver_is) receiving;
          basis = subst (λ (q : Ref). IsBasis r.output true (operand_in r.output q) one.to) (sym receiver_is) to;
        };
        carries = subst (λ (q : Ref). CarriesLocated steps pictured (operand_in tree q).kind (operand_in r.output one.receiver).kind one.step) (sym sent_is)
            (subst (λ (q : Ref). CarriesLocated steps pictured (operand_in tree sent).kind (operand_in r.output q).kind one.step) (sym receiver_is)
            (subst (λ (x : Kind). CarriesLocated steps pictured x (operand_in r.output receiver).kind one.step) sent_kind (subst (λ (x : Kind). CarriesLocated steps pictured k x one.step) l_is carries)));
      },
      λ x. ap (λ (q : Ref). copied_move side x r q receiver ∷ []) (sym sent_is) ∙ ap (λ (q : Ref). copied_move side x r one.sent q ∷ []) (sym receiver_is),
    )

-- ---- what was carried out

-- a move whose sender and receiver stand there ends with what the receiver gets, or at the sender
pub located_ends : (side : Side) (r : Records) (x : Reading) (one : LocatedMove) (p : MovePlaces) (input before : List ℕ) (outcome : Option (List ℕ)) → StandAt side r one input before p
    → Received (sent.Entry (operand_in (record_of r side) one.sent).kind (field_of p.from (storage_of side input before)) x) (operand_in r.output one.receiver).kind p.to.length outcome
    → IsMoved r (copied_move side x r one.sent one.receiver) input before (received_at side p before outcome)
located_ends side r x one p input before (Some bytes) stand received =
    inl (content_at side x (operand_in (record_of r side) one.sent) (storage_of side input before) p.from, (p.from, stand.sends, refl), inl (with_field before p.to bytes, (p.to, bytes, stand.receives, received, refl), refl))
located_ends side r x one p input before None stand received =
    let stop : Stop = stop_at side p.from.offset NoValue in
    inl (content_at side x (operand_in (record_of r side) one.sent) (storage_of side input before) p.from, (p.from, stand.sends, refl), inr (stop, inr (p.to, stand.receives, received, refl), refl))

-- a step of the kinds of both where these stand
made_there : (side : Side) (r : Records) (x : Reading) (steps : MoveSteps) (one : LocatedMove) (step : MoveStep) (p : MovePlaces) (input before : List ℕ) (end : Ending) → KeepsZones x → StandAt side r one input before p
    → IsMoveStep steps (kinds_of (operand_in (record_of r side) one.sent).kind (operand_in r.output one.receiver).kind p.from p.to) step
    → IsMadeReady side (record { places = p; step = step }) steps (storage_of side input before) before end → IsMoved r (copied_move side x r one.sent one.receiver) input before end
made_there side r x steps one step p input before end keeps stand is made =
    let k : MoveKinds = kinds_of (operand_in (record_of r side) one.sent).kind (operand_in r.output one.receiver).kind p.from p.to in
    let (outcome, received, same) = made k is (record { sent = refl; received = refl }) in
    subst (λ (e : Ending). IsMoved r (copied_move side x r one.sent one.receiver) input before e) (sym same) (located_ends side r x one p input before outcome stand (received x keeps))

pub made_always : (side : Side) (r : Records) (x : Reading) (steps : MoveSteps) (one : LocatedMove) (step : MoveStep) (p : MovePlaces) (input before : List ℕ) (end : Ending) → KeepsZones x → StandAt side r one input before p
    → CarriesAnywhere steps (operand_in (record_of r side) one.sent).kind (operand_in r.output one.receiver).kind step → IsMadeReady side (record { places = p; step = step }) steps (storage_of side input before) before end → IsMoved r (copied_move side x r one.sent one.receiver) input before end
made_always side r x steps one step p input before end keeps stand carries made = made_there side r x steps one step p input before end keeps stand (carries p.from.length p.to.length stand.sent stand.received) made

-- the step of characters, of as many bytes as the sender has there
abbrev pub characters_at : MovePlaces → Bool → MoveStep
characters_at p right = Characters (record { sent = p.from.length; right = right })

pub characters_there : (side : Side) (r : Records) (steps : MoveSteps) (one : LocatedMove) (right : Bool) (p : MovePlaces) (input before : List ℕ) → StandAt side r one input before p
    → GivesText (operand_in (record_of r side) one.sent).kind (operand_in r.output one.receiver).kind right
    → IsMoveStep steps (kinds_of (operand_in (record_of r side) one.sent).kind (operand_in r.output one.receiver).kind p.from p.to) (characters_at p right)
characters_there side r steps one right p input before stand (gives, stands) = record {
  occupied = record { sender = stand.sent; receiver = stand.received };
  between = record { gives = gives; count = refl; side = stands };
}

pub made_characters : (side : Side) (r : Records) (x : Reading) (steps : MoveSteps) (one : LocatedMove) (right : Bool) (p : MovePlaces) (input before : List ℕ) (end : Ending) → KeepsZones x → StandAt side r one input before p
    → GivesText (operand_in (record_of r side) one.sent).kind (operand_in r.output one.receiver).kind right → IsMadeReady side (record { places = p; step = characters_at p right }) steps (storage_of side input before) before end
    → IsMoved r (copied_move side x r one.sent one.receiver) input before end
made_characters side r x steps one right p input before end keeps stand gives made =
    made_there side r x steps one (characters_at p right) p input before end keeps stand (characters_there side r steps one right p input before stand gives) made

-- characters that stand in as many bytes stay as they are
same_padded : (n : ℕ) (bytes : List ℕ) → length bytes ≡ n → bytes ≡ padded n bytes
same_padded n bytes long = sym (take-append_seam bytes (replicate (length bytes) 0x40)) ∙ ap (λ (m : ℕ). padded m bytes) long

same_padded_left : (n : ℕ) (bytes : List ℕ) → length bytes ≡ n → bytes ≡ padded_left n bytes
same_padded_left n bytes long =
    let none : n - length bytes ≡ 0 = omega (arith, long) in
    let all : length bytes - n ≡ 0 = omega (arith, long) in
    sym (ap (λ (m : ℕ). replicate m 0x40 ++ drop (length bytes - n) bytes) none ∙ ap (λ (m : ℕ). drop m bytes) all)

-- a step of characters copies them to a receiver of as many bytes
pub made_by_copy : (steps : MoveSteps) (step : CharactersStep) (p : MovePlaces) (input before after : List ℕ) → p.from.length ≡ p.to.length → p.from.offset + p.from.length ≤ length input → after ≡ with_field before p.to (field_of p.from input)
    → IsMadeReady In (record { places = p; step = Characters step }) steps input before (done after)
made_by_copy steps step p input before after same reads copied k is places =
    let bytes : List ℕ = field_of p.from input in
    let long : length bytes ≡ k.received = as_long p.from input reads ∙ same ∙ sym places.received in (
      Some bytes,
      λ reading keeps. characters_received k.sender k.receiver reading k.received bytes bytes step.right is.between.gives is.between.side (λ left. same_padded k.received bytes long) (λ other. same_padded_left k.received bytes long),
      ap done copied,
    )

pub made_by_picture : (r : Records) (x : Reading) (steps : PicturedSteps) (one : LocatedMove) (step : PicturedStep) (p : MovePlaces) (input before : List ℕ) (end : Ending) → x ≡ Pictured → StandAt In r one input before p
    → CarriesPictured steps (operand_in r.input one.sent).kind (operand_in r.output one.receiver).kind step → IsMadePictured (record { places = p; step = step }) steps input before end → IsMoved r (copied_move In x r one.sent one.receiver) input before end
made_by_picture r x steps one step p input before end read stand carries made =
    let k : MoveKinds = kinds_of (operand_in r.input one.sent).kind (operand_in r.output one.receiver).kind p.from p.to in
    let (outcome, received, same) = made k (carries p.from.length p.to.length stand.sent stand.received) (record { sent = refl; received = refl }) in
    subst (λ (e : Ending). IsMoved r (copied_move In x r one.sent one.receiver) input before e) (sym same)
    (located_ends In r x one p input before outcome stand (subst (λ (y : Reading). Received (sent.Entry k.sender (field_of p.from input) y) k.receiver k.received outcome) (sym read) received))

-- ---- the one that has a number

-- it was made ready
pub the_located : (side : Side) (x : Reading) (r : Records) (steps : MoveSteps) (pictured : PicturedSteps) (located : List LocatedMove) (number : ℕ) (own : List Move) (one : LocatedMove) → IsLocatedMove side x r steps pictured located number own → one ≡ get_or located number one
    → IsReadyAnywhere side r steps pictured one × (own ≡ copied_move side x r one.sent one.receiver ∷ [])
the_located side x r steps pictured located number own one is at = read_at LocatedMove (λ p. IsReadyAnywhere side r steps pictured p × (own ≡ copied_move side x r p.sent p.receiver ∷ [])) located number one is at

-- by the step that it has
pub carries_as : (steps : MoveSteps) (pictured : PicturedSteps) (sender receiver : Kind) (s t : LocatedStep) → s ≡ t → CarriesLocated steps pictured sender receiver s → CarriesLocated steps pictured sender receiver t
carries_as steps pictured sender receiver s t same carries = subst (λ (u : LocatedStep). CarriesLocated steps pictured sender receiver u) same carries

-- which serves where senders are read as their pictures say
serves_pictured : (t : PicturedStep) (x : Reading) → serves (located_step.Pictured t) x ≡ true → x ≡ Pictured
serves_pictured t Pictured so = refl
serves_pictured t Whole so = cc
serves_pictured t AnyZones so = cc
serves_pictured t WholeAnyZones so = cc

pub read_by_picture : (s : LocatedStep) (t : PicturedStep) (x : Reading) → s ≡ located_step.Pictured t → serves s x ≡ true → x ≡ Pictured
read_by_picture s t x same so = serves_pictured t x (subst (λ (u : LocatedStep). serves u x ≡ true) same so)

pub applied_located : (side : Side) (x : Reading) (r : Records) (steps : MoveSteps) (pictured : PicturedSteps) (located : List LocatedMove) (number : ℕ) (own : List Move) (one : LocatedMove) (input before : List ℕ) (end : Ending)
    → IsLocatedMove side x r steps pictured located number own → one ≡ get_or located number one → IsMoved r (copied_move side x r one.sent one.receiver) input before end → Applied r own input before end
applied_located side x r steps pictured located number own one input before end is at moved =
    let (ready, same) = the_located side x r steps pictured located number own one is at in
    made_one r own (copied_move side x r one.sent one.receiver) input before end same moved
