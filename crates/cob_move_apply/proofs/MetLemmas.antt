-- Receivers whose places meet the items of counts.
use Rattle.std.proofs.Common.{◌≡◌, ℕ, ◌+◌, ◌<◌, ◌≤◌, true, List, [], ◌∷◌, ◌++◌, length, get_or, drop, refl, sym, ap, subst, arith, inl, inr, Ok}
use Rattle.std.proofs.lemmas.List.{drop_all}
use Rattle.cob_copybook_tree.specs.Forests.{Forest}
use Rattle.cob_copybook_tree.specs.Nodes.{Resolved}
use Rattle.cob_layout.specs.declared.fields.Place.{Place}
use Rattle.cob_layout.specs.Kept.{IsIn}
use Rattle.cob_layout.specs.Laws.{OneOfNeeded}
use Rattle.cob_layout_places.specs.Counts.{tables_of}
use Rattle.cob_layout_places.specs.declared.varying.Table.{Table}
use Rattle.cob_move_data.specs.declared.operands.Operand.{Operand}
use Rattle.cob_move_data.specs.declared.operands.Side.TheVariants.{In, Out}
use Rattle.cob_move_data.specs.Moves.{Entry, Literal, Sender, Move, Records}
use Rattle.cob_move_apply.specs.Applied.{AllGet, Applied, Content, Gets, Gives, done}
use Rattle.cob_move_apply.specs.Located.{Located}
use Rattle.cob_move_apply.specs.Cut.{LeaveSender}
use Rattle.cob_move_apply.specs.Met.{HaveMet, MeetsItem, ReceiverMet, ReceiversMet}
use Rattle.cob_move_apply.specs.Spent.{PlaceMet}
use Rattle.cob_move_apply.specs.Steps.{AreMovesCut, AreReceived, IsMoveCut, SendsTheSame}
use Rattle.cob_move_apply.proofs.CutLemmas.{gives_on}
use Rattle.cob_move_apply.proofs.ListLemmas.{next}
use Rattle.cob_move_apply.proofs.OneLemmas.{ok_is, one_given, stop_of}

-- ---- none

pub none_met : (r : Records) (ms : List Move) (input before : List ℕ) → HaveMet r ms input before 0
none_met r [] input before = refl
none_met r (m ∷ ms) input before = inl refl

none_received : (t : Forest Resolved) (content : Content) (os : List Operand) (before : List ℕ) (others : List ℕ → ℕ → Type 0) → ((now : List ℕ) → others now 0) → ReceiversMet t content os before 0 others
none_received t content [] before others none = none before
none_received t content (o ∷ os) before others none = inl refl

-- ---- a place

-- a receiver that stands at the place
pub met_there : (t : Forest Resolved) (o : Operand) (before : List ℕ) (p : Place) (n : ℕ) → Located Out t true o before (Ok p) → PlaceMet t before p n → ReceiverMet t o before n
met_there t o before p n at (inl none) = inl none
met_there t o before p n at (inr (one, meets)) = inr (one, (p, at, meets))

-- ---- receivers

-- what is so of the others
with_others : (t : Forest Resolved) (content : Content) (os : List Operand) (before : List ℕ) (n : ℕ) (others them : List ℕ → ℕ → Type 0) → ((now : List ℕ) (k : ℕ) → others now k → them now k)
    → ReceiversMet t content os before n others → ReceiversMet t content os before n them
with_others t content [] before n others them so h = so before n h
with_others t content (o ∷ os) before n others them so (inl none) = inl none
with_others t content (o ∷ os) before n others them so (inr (after, own, rest, sum, gets, met, more)) =
    inr (after, own, rest, sum, gets, met, with_others t content os after rest others them so more)

-- receivers behind receivers
met_append : (t : Forest Resolved) (content : Content) (os ps : List Operand) (before : List ℕ) (n : ℕ) (others : List ℕ → ℕ → Type 0)
    → ReceiversMet t content os before n (λ now k. ReceiversMet t content ps now k others) → ReceiversMet t content (os ++ ps) before n others
met_append t content [] ps before n others h = h
met_append t content (o ∷ os) ps before n others (inl none) = inl none
met_append t content (o ∷ os) ps before n others (inr (after, own, rest, sum, gets, met, more)) =
    inr (after, own, rest, sum, gets, met, met_append t content os ps after rest others more)

-- one receiver, and others behind it
pub met_one : (t : Forest Resolved) (content : Content) (o : Operand) (os : List Operand) (before after : List ℕ) (own rest : ℕ) (others : List ℕ → ℕ → Type 0)
    → Gets t content o before (Ok after) → ReceiverMet t o before own → ReceiversMet t content os after rest others → ReceiversMet t content (o ∷ os) before (own + rest) others
met_one t content o os before after own rest others gets met more = inr (after, own, rest, refl, gets, met, more)

-- whatever met of the receivers from place i on and of the moves behind, so many more met of all
abbrev pub MetFrom : Forest Resolved → Content → List Operand → ℕ → List ℕ → List ℕ → ℕ → Type 0
MetFrom t content os i before now met = (r : Records) (ms : List Move) (input : List ℕ) (n : ℕ)
    → ReceiversMet t content (drop i os) now n (λ b k. HaveMet r ms input b k) → ReceiversMet t content os before (met + n) (λ b k. HaveMet r ms input b k)

pub met_more : (t : Forest Resolved) (content : Content) (os : List Operand) (i : ℕ) (o : Operand) (before now after : List ℕ) (met own : ℕ) → i < length os → o ≡ get_or os i o
    → MetFrom t content os i before now met → Gets t content o now (Ok after) → ReceiverMet t o now own → MetFrom t content os (i + 1) before after (met + own)
met_more t content os i o before now after met own lt is so gets one r ms input n h =
    let others : List ℕ → ℕ → Type 0 = λ b k. HaveMet r ms input b k in
    let sum : met + (own + n) ≡ met + own + n = omega arith in
    subst (λ (k : ℕ). ReceiversMet t content os before k others) sum
    (so r ms input (own + n) (subst (λ (xs : List Operand). ReceiversMet t content xs now (own + n) others) (sym (next os i o lt is))
    (met_one t content o (drop (i + 1) os) now after own n others gets one h)))

pub met_stops : (t : Forest Resolved) (content : Content) (os : List Operand) (i : ℕ) (before now : List ℕ) (met : ℕ) → MetFrom t content os i before now met
    → (r : Records) (ms : List Move) (input : List ℕ) → ReceiversMet t content os before met (λ b k. HaveMet r ms input b k)
met_stops t content os i before now met so r ms input =
    let others : List ℕ → ℕ → Type 0 = λ b k. HaveMet r ms input b k in
    let sum : met + 0 ≡ met = omega arith in
    subst (λ (k : ℕ). ReceiversMet t content os before k others) sum
    (so r ms input 0 (none_received t content (drop i os) now others (λ b. none_met r ms input b)))

pub met_all : (t : Forest Resolved) (content : Content) (os : List Operand) (i : ℕ) (before now : List ℕ) (met : ℕ) → length os ≤ i → MetFrom t content os i before now met
    → (r : Records) (ms : List Move) (input : List ℕ) (rest : ℕ) → HaveMet r ms input now rest → ReceiversMet t content os before (met + rest) (λ b n. HaveMet r ms input b n)
met_all t content os i before now met past so r ms input rest h =
    let others : List ℕ → ℕ → Type 0 = λ b k. HaveMet r ms input b k in
    so r ms input rest (subst (λ (xs : List Operand). ReceiversMet t content xs now rest others) (sym (drop_all i os past)) h)

-- ---- moves

-- where receivers got what is sent, whether they met or not
past_receivers : (t : Forest Resolved) (content : Content) (os : List Operand) (before after : List ℕ) (n : ℕ) (others : List ℕ → ℕ → Type 0) → AllGet t content os before (done after) → others after n
    → ReceiversMet t content os before n others
past_receivers t content [] before after n others e h = subst (λ (b : List ℕ). others b n) (ap (λ x. x.storage) e) h
past_receivers t content (o ∷ os) before after n others (inl (mid, gets, more)) h =
    inr (mid, 0, n, omega arith, gets, inl refl, past_receivers t content os mid after n others more h)
past_receivers t content (o ∷ os) before after n others (inr (stop, gets, e)) h = absurd (stop_of after before stop e)

-- where moves were carried out, whether their receivers met or not
pub past_moves : (r : Records) (own ms : List Move) (input before after : List ℕ) (n : ℕ) → Applied r own input before (done after) → HaveMet r ms input after n → HaveMet r (own ++ ms) input before n
past_moves r [] ms input before after n e h = subst (λ (b : List ℕ). HaveMet r ms input b n) (ap (λ x. x.storage) e) h
past_moves r (m ∷ own) ms input before after n (inl (mid, inl (content, gives, get), more)) h =
    inr (content, gives, past_receivers r.output content m.receivers before mid n (λ b k. HaveMet r (own ++ ms) input b k) get (past_moves r own ms input mid after n more h))
past_moves r (m ∷ own) ms input before after n (inl (mid, inr (stop, gives, e), more)) h = absurd (stop_of mid before stop e)
past_moves r (m ∷ own) ms input before after n (inr (stop, mid, moved, e)) h = absurd (stop_of after mid stop e)

-- ---- parts of moves

parts_met : OneOfNeeded → (r : Records) (s : Sender) (ps : List Move) (os : List Operand) (content : Content) (rest : List Move) (input first before : List ℕ) (n : ℕ) → SendsTheSame s
    → Gives r s input first (Ok content) → AreReceived s ps os → HaveMet r (ps ++ rest) input before n → ReceiversMet r.output content os before n (λ b k. HaveMet r rest input b k)
parts_met law r s [] os content rest input first before n steady gives none h =
    subst (λ (xs : List Operand). ReceiversMet r.output content xs before n (λ b k. HaveMet r rest input b k)) (sym none) h
parts_met law r s (p ∷ ps) os content rest input first before n steady gives are (inl none) =
    subst (λ (k : ℕ). ReceiversMet r.output content os before k (λ b k. HaveMet r rest input b k)) (sym none)
    (none_received r.output content os before (λ b k. HaveMet r rest input b k) (λ b. none_met r rest input b))
parts_met law r s (p ∷ ps) os content rest input first before n steady gives (is, (others, cut, more)) (inr (other, gave, met)) =
    let given : Gives r s input before (Ok other) = subst (λ (q : Sender). Gives r q input before (Ok other)) is gave in
    let same : other ≡ content = ok_is other content (one_given law r s input before (Ok other) (Ok content) given (gives_on r s input first before (Ok content) steady gives)) in
    let them : List ℕ → ℕ → Type 0 = λ b k. HaveMet r rest input b k in
    let now : ReceiversMet r.output content p.receivers before n (λ b k. HaveMet r (ps ++ rest) input b k) =
    subst (λ (c : Content). ReceiversMet r.output c p.receivers before n (λ b k. HaveMet r (ps ++ rest) input b k)) same met in
    subst (λ (xs : List Operand). ReceiversMet r.output content xs before n them) (sym cut)
    (met_append r.output content p.receivers others before n them
    (with_others r.output content p.receivers before n (λ b k. HaveMet r (ps ++ rest) input b k) (λ b k. ReceiversMet r.output content others b k them)
    (λ b k h. parts_met law r s ps others content rest input first b k steady gives more h) now))

-- where no table varies, no place meets the item of a count
nowhere_met : (t : Forest Resolved) (before : List ℕ) (p : Place) → tables_of t ≡ [] → MeetsItem t before p → ⊥
nowhere_met t before p none (x, item, is, at, meets) = subst (λ (xs : List Table). IsIn x xs) none is

no_receiver_met : (t : Forest Resolved) (o : Operand) (before : List ℕ) (n : ℕ) → tables_of t ≡ [] → ReceiverMet t o before n → n ≡ 0
no_receiver_met t o before n none (inl zero) = zero
no_receiver_met t o before n none (inr (one, (p, at, meets))) = absurd (nowhere_met t before p none meets)

no_receivers_met : (t : Forest Resolved) (content : Content) (os : List Operand) (before : List ℕ) (n : ℕ) (others : List ℕ → ℕ → Type 0) → tables_of t ≡ [] → ((b : List ℕ) (k : ℕ) → others b k → k ≡ 0)
    → ReceiversMet t content os before n others → n ≡ 0
no_receivers_met t content [] before n others none so h = so before n h
no_receivers_met t content (o ∷ os) before n others none so (inl zero) = zero
no_receivers_met t content (o ∷ os) before n others none so (inr (after, own, rest, sum, gets, met, more)) =
    omega (arith, sum, no_receiver_met t o before own none met, no_receivers_met t content os after rest others none so more)

none_have_met : (r : Records) (ms : List Move) (input before : List ℕ) (n : ℕ) → tables_of r.output ≡ [] → HaveMet r ms input before n → n ≡ 0
none_have_met r [] input before n none h = h
none_have_met r (m ∷ ms) input before n none (inl zero) = zero
none_have_met r (m ∷ ms) input before n none (inr (content, gives, met)) =
    no_receivers_met r.output content m.receivers before n (λ b k. HaveMet r ms input b k) none (λ b k h. none_have_met r ms input b k none h) met

-- a record whose entry receivers leave has no table that varies
no_tables : (r : Records) (s : Sender) (os : List Operand) → LeaveSender r s os → tables_of r.output ≡ []
no_tables r (Entry In reading o) os leave = absurd leave
no_tables r (Entry Out reading o) os leave = leave.none
no_tables r (Literal c) os leave = absurd leave

move_met : OneOfNeeded → (r : Records) (m : Move) (own rest ms : List Move) (input before : List ℕ) (n : ℕ) → ((b : List ℕ) (k : ℕ) → HaveMet r rest input b k → HaveMet r ms input b k)
    → IsMoveCut r m own → HaveMet r (own ++ rest) input before n → HaveMet r (m ∷ ms) input before n
move_met law r m [] rest ms input before n so h met = absurd h
move_met law r m (p ∷ ps) rest ms input before n so h (inl none) = inl none
move_met law r m (p ∷ ps) rest ms input before n so (inl (same, none)) (inr (content, gave, met)) =
    subst (λ (q : Move). HaveMet r (q ∷ ms) input before n) same
    (inr (
      content,
      gave,
      with_others r.output content p.receivers before n (λ b k. HaveMet r (ps ++ rest) input b k) (λ b k. HaveMet r ms input b k)
          (λ b k h. so b k (subst (λ (xs : List Move). HaveMet r (xs ++ rest) input b k) none h)) met,
    ))
move_met law r m (p ∷ ps) rest ms input before n so (inr (inr (leave, same))) met =
    inl (none_have_met r ((p ∷ ps) ++ rest) input before n (no_tables r m.sender m.receivers leave) met)
move_met law r m (p ∷ ps) rest ms input before n so (inr (inl (steady, are))) (inr (content, gave, met)) =
    let gives : Gives r m.sender input before (Ok content) = subst (λ (q : Sender). Gives r q input before (Ok content)) are.0 gave in
    inr (
      content,
      gives,
      with_others r.output content m.receivers before n (λ b k. HaveMet r rest input b k) (λ b k. HaveMet r ms input b k) so
          (parts_met law r m.sender (p ∷ ps) m.receivers content rest input before before n steady gives are (inr (content, gave, met))),
    )

-- what met of parts met of the moves that are cut into them
pub cut_met : OneOfNeeded → (r : Records) (ms parts : List Move) (input before : List ℕ) (n : ℕ) → AreMovesCut r ms parts → HaveMet r parts input before n → HaveMet r ms input before n
cut_met law r [] parts input before n none h = subst (λ (ps : List Move). HaveMet r ps input before n) none h
cut_met law r (m ∷ ms) parts input before n (own, rest, cut, one, more) h =
    move_met law r m own rest ms input before n (λ b k met. cut_met law r ms rest input b k more met) one
    (subst (λ (ps : List Move). HaveMet r ps input before n) cut h)
