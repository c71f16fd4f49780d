-- What the parts of moves do, the moves do.
use Rattle.std.proofs.Common.{◌≡◌, ℕ, ◌+◌, ◌≤◌, ◌==◌, Bool, true, false, not, List, [], ◌∷◌, ◌++◌, length, take, drop, refl, sym, ap, subst, ◌∙◌, arith, append_assoc, append-nil, inl, inr, Ok, Err, Result, ◌⊎◌, length-append, length-take-le, length-drop}
use Rattle.std.specs.List.{AllByRecursion}
use Rattle.cob_codec.specs.declared.reading.Reading.{Reading}
use Rattle.cob_copybook_tree.specs.Forests.{Forest}
use Rattle.cob_copybook_tree.specs.Nodes.{Resolved}
use Rattle.cob_layout.specs.declared.fields.Place.{Place}
use Rattle.cob_layout.specs.Fields.{field_of, with_field}
use Rattle.cob_layout.specs.Laws.{OneOfNeeded}
use Rattle.cob_layout.specs.Storage.{greatest_length}
use Rattle.cob_layout.proofs.KeepLaw.{beside}
use Rattle.cob_layout_places.specs.Counts.{tables_of}
use Rattle.cob_move_data.specs.declared.operands.Side.TheVariants.{In, Out}
use Rattle.cob_move_data.specs.declared.operands.Operand.{Operand}
use Rattle.cob_move_data.specs.Moves.{Sender, Entry, Literal, Move, Records}
use Rattle.cob_move_receive.specs.Sent as sent
use Rattle.cob_move_apply.specs.declared.stop.Stop.{Stop}
use Rattle.cob_move_apply.specs.Applied.{AllGet, Applied, Content, Ending, Gets, Gives, IsMoved, content_at, done, stopped}
use Rattle.cob_move_apply.specs.Cut.{ArePlacesApart, LeaveSender, LeavesPlace}
use Rattle.cob_move_apply.specs.InPlace.{AppliedInPlace}
use Rattle.cob_move_apply.specs.Placed.{IsFixed}
use Rattle.cob_move_apply.specs.Steps.{AreMovesCut, AreReceived, IsMoveCut, MayBeCut, SendsTheSame, alone, singles}
use Rattle.cob_move_apply.proofs.InPlaceLemmas.{applied_of}
use Rattle.cob_move_apply.proofs.PlainLemmas.{none_of}
use Rattle.cob_move_apply.proofs.OneLemmas.{one_given, one_place, ok_is, ok_not, stop_of}

-- ---- moves behind moves

pub applied_both : (r : Records) (ms ns : List Move) (input before mid : List ℕ) (end : Ending) → Applied r ms input before (done mid) → Applied r ns input mid end → Applied r (ms ++ ns) input before end
applied_both r [] ns input before mid end x y = subst (λ (s : List ℕ). Applied r ns input s end) (ap (λ (e : Ending). e.storage) x) y
applied_both r (m ∷ ms) ns input before mid end (inl (after, g, x)) y = inl (after, g, applied_both r ms ns input after mid end x y)
applied_both r (m ∷ ms) ns input before mid end (inr (stop, after, g, e)) y = absurd (stop_of mid after stop e)

pub applied_stopped : (r : Records) (ms ns : List Move) (input before mid : List ℕ) (stop : Stop) → Applied r ms input before (stopped stop mid) → Applied r (ms ++ ns) input before (stopped stop mid)
applied_stopped r [] ns input before mid stop e = absurd (stop_of before mid stop (sym e))
applied_stopped r (m ∷ ms) ns input before mid stop (inl (after, g, x)) = inl (after, g, applied_stopped r ms ns input after mid stop x)
applied_stopped r (m ∷ ms) ns input before mid stop (inr (other, after, g, e)) = inr (other, after, g, e)

-- ---- receivers behind receivers

get_both : (t : Forest Resolved) (content : Content) (os ps : List Operand) (before mid : List ℕ) (end : Ending)
    → AllGet t content os before (done mid) → AllGet t content ps mid end → AllGet t content (os ++ ps) before end
get_both t content [] ps before mid end x y = subst (λ (s : List ℕ). AllGet t content ps s end) (ap (λ (e : Ending). e.storage) x) y
get_both t content (o ∷ os) ps before mid end (inl (after, g, x)) y = inl (after, g, get_both t content os ps after mid end x y)
get_both t content (o ∷ os) ps before mid end (inr (stop, g, e)) y = absurd (stop_of mid before stop e)

get_stopped : (t : Forest Resolved) (content : Content) (os ps : List Operand) (before mid : List ℕ) (stop : Stop)
    → AllGet t content os before (stopped stop mid) → AllGet t content (os ++ ps) before (stopped stop mid)
get_stopped t content [] ps before mid stop e = absurd (stop_of before mid stop (sym e))
get_stopped t content (o ∷ os) ps before mid stop (inl (after, g, x)) = inl (after, g, get_stopped t content os ps after mid stop x)
get_stopped t content (o ∷ os) ps before mid stop (inr (other, g, e)) = inr (other, g, e)

-- ---- a move

-- what becomes of receivers, and then of the moves behind
abbrev Gained : Records → Content → List Operand → List Move → List ℕ → List ℕ → Ending → Type 0
Gained r content os ms input before end =
    ((after : List ℕ) × (length after ≡ length before) × AllGet r.output content os before (done after) × AppliedInPlace r ms input after end)
    ⊎ ((stop : Stop) × (after : List ℕ) × AllGet r.output content os before (stopped stop after) × (end ≡ stopped stop after))

-- a steady sender gives the same, whatever the output is
pub gives_on : (r : Records) (s : Sender) (input a b : List ℕ) (g : Result Content Stop) → SendsTheSame s → Gives r s input a g → Gives r s input b g
gives_on r (Entry In reading o) input a b g steady h = h
gives_on r (Entry Out reading o) input a b g steady h = absurd steady
gives_on r (Literal c) input a b g steady h = h

-- a part of a move gets what its sender gives
part_gets : OneOfNeeded → (r : Records) (s : Sender) (p : Move) (content : Content) (input before : List ℕ) (end : Ending) → p.sender ≡ s
    → Gives r s input before (Ok content) → IsMoved r p input before end → AllGet r.output content p.receivers before end
part_gets law r s p content input before end is gives (inl (other, g, x)) =
    let given : Gives r s input before (Ok other) = subst (λ (q : Sender). Gives r q input before (Ok other)) is g in
    let same : other ≡ content = ok_is other content (one_given law r s input before (Ok other) (Ok content) given gives) in
    subst (λ (k : Content). AllGet r.output k p.receivers before end) same x
part_gets law r s p content input before end is gives (inr (stop, g, e)) =
    let given : Gives r s input before (Err stop) = subst (λ (q : Sender). Gives r q input before (Err stop)) is g in
    absurd (ok_not content stop (one_given law r s input before (Ok content) (Err stop) gives given))

parts_get : OneOfNeeded → (r : Records) (s : Sender) (ps : List Move) (os : List Operand) (content : Content) (rest : List Move) (input first before : List ℕ) (end : Ending) → SendsTheSame s
    → Gives r s input first (Ok content) → AreReceived s ps os → AppliedInPlace r (ps ++ rest) input before end → Gained r content os rest input before end
parts_get law r s [] os content rest input first before end steady gives none x =
    subst (λ (xs : List Operand). Gained r content xs rest input before end) (sym none) (inl (before, refl, refl, x))
parts_get law r s (p ∷ ps) os content rest input first before end steady gives (is, (others, cut, more)) (inl (after, size, g, x)) =
    let got = part_gets law r s p content input before (done after) is (gives_on r s input first before (Ok content) steady gives) g in
    subst (λ (xs : List Operand). Gained r content xs rest input before end) (sym cut)
    (elim (parts_get law r s ps others content rest input first after end steady gives more x) [
      | inl (last, long, h, y) ↦ inl (last, long ∙ size, get_both r.output content p.receivers others before after (done last) got h, y)
      | inr (stop, last, h, e) ↦ inr (stop, last, get_both r.output content p.receivers others before after (stopped stop last) got h, e)
    ])
parts_get law r s (p ∷ ps) os content rest input first before end steady gives (is, (others, cut, more)) (inr (stop, after, g, e)) =
    let got = part_gets law r s p content input before (stopped stop after) is (gives_on r s input first before (Ok content) steady gives) g in
    subst (λ (xs : List Operand). Gained r content xs rest input before end) (sym cut)
    (inr (stop, after, get_stopped r.output content p.receivers others before after stop got, e))

-- where its receivers gained what the sender of a move gives
gained_moved : (r : Records) (s : Sender) (os : List Operand) (rest : List Move) (content : Content) (input before : List ℕ) (end : Ending) → Gives r s input before (Ok content)
    → Gained r content os rest input before end → AppliedInPlace r (record { sender = s; receivers = os } ∷ rest) input before end
gained_moved r s os rest content input before end gives (inl (after, size, g, y)) = inl (after, size, inl (content, gives, g), y)
gained_moved r s os rest content input before end gives (inr (stop, after, g, e)) = inr (stop, after, inl (content, gives, g), e)

-- with the content that the move's sender gives
with_content : OneOfNeeded → (r : Records) (m : Move) (ps rest : List Move) (content : Content) (input before : List ℕ) (end : Ending) → SendsTheSame m.sender
    → Gives r m.sender input before (Ok content) → AreReceived m.sender ps m.receivers → AppliedInPlace r (ps ++ rest) input before end → AppliedInPlace r (m ∷ rest) input before end
with_content law r m ps rest content input before end steady gives h x =
    gained_moved r m.sender m.receivers rest content input before end gives (parts_get law r m.sender ps m.receivers content rest input before before end steady gives h x)

-- the first part says whether there is a content
first_part : OneOfNeeded → (r : Records) (m p : Move) (ps rest : List Move) (input before : List ℕ) (end : Ending) → SendsTheSame m.sender
    → AreReceived m.sender (p ∷ ps) m.receivers → AppliedInPlace r (p ∷ (ps ++ rest)) input before end → AppliedInPlace r (m ∷ rest) input before end
first_part law r m p ps rest input before end steady h (inl (after, size, inl (content, g, x), y)) =
    with_content law r m (p ∷ ps) rest content input before end steady (subst (λ (s : Sender). Gives r s input before (Ok content)) h.0 g) h
    (inl (after, size, inl (content, g, x), y))
first_part law r m p ps rest input before end steady h (inl (after, size, inr (stop, g, e), y)) = absurd (stop_of after before stop e)
first_part law r m p ps rest input before end steady h (inr (stop, after, inl (content, g, x), e)) =
    with_content law r m (p ∷ ps) rest content input before end steady (subst (λ (s : Sender). Gives r s input before (Ok content)) h.0 g) h
    (inr (stop, after, inl (content, g, x), e))
first_part law r m p ps rest input before end steady h (inr (stop, after, inr (other, g, e), f)) =
    inr (stop, after, inr (other, subst (λ (s : Sender). Gives r s input before (Err other)) h.0 g, e), f)

-- ---- receivers that leave what an entry of their record sends

-- the bytes that were written are as many as the place has, where the storage is as long as before
pub written_size : (p : Place) (before bytes : List ℕ) → p.offset + p.length ≤ length before → length (with_field before p bytes) ≡ length before → length bytes ≡ p.length
written_size p before bytes fits same = omega (
  arith,
  fits,
  same,
  length-append (take p.offset before) (bytes ++ drop p.length (drop p.offset before)),
  length-append bytes (drop p.length (drop p.offset before)),
  length-take-le p.offset before (omega (arith, fits)),
  length-drop p.length (drop p.offset before),
  length-drop p.offset before,
)

-- a receiver by itself got it
one_got : (t : Forest Resolved) (content : Content) (q : Operand) (before after : List ℕ) → AllGet t content (q ∷ []) before (done after) → Gets t content q before (Ok after)
one_got t content q before after (inl (mid, gets, e)) = subst (λ (b : List ℕ). Gets t content q before (Ok b)) (sym (ap (λ (x : Ending). x.storage) e)) gets
one_got t content q before after (inr (stop, gets, e)) = absurd (stop_of after before stop e)

-- a receiver by itself gets the bytes that stood at the sender's place first, which stand there still
entry_gets : OneOfNeeded → (r : Records) (reading : Reading) (o : Operand) (from : Place) (first : List ℕ) (q : Operand) (input before : List ℕ) (end : Ending) → IsFixed r.output false o from
    → field_of from before ≡ field_of from first → IsMoved r (alone (Entry Out reading o) q) input before end → AllGet r.output (content_at Out reading o first from) (q ∷ []) before end
entry_gets law r reading o from first q input before end sends same moved =
    part_gets law r (Entry Out reading o) (alone (Entry Out reading o) q) (content_at Out reading o first from) input before end refl
    (from, sends.place Out before, ap (λ (bytes : List ℕ). record { sent = sent.Entry o.kind bytes reading; side = Out; offset = from.offset }) (sym same)) moved

-- a receiver that got what is sent, at a place apart from the sender's, left the bytes of this
left_bytes : OneOfNeeded → (t : Forest Resolved) (from : Place) (q : Operand) (content : Content) (before after : List ℕ) → from.offset + from.length ≤ length before → length before ≡ greatest_length t
    → length after ≡ length before → LeavesPlace t from q → Gets t content q before (Ok after) → field_of from after ≡ field_of from before
left_bytes law t from q content before after within long size (to, fixed, apart) (p, bytes, at, received, same) =
    let there : p ≡ to = one_place law Out t true q before p to at (fixed.place Out before) in
    let fits : p.offset + p.length ≤ length before = omega (arith, long, fixed.within, ap (λ (x : Place). x.offset) there, ap (λ (x : Place). x.length) there) in
    let as_many : length bytes ≡ p.length = written_size p before bytes fits (sym (ap length same) ∙ size) in
    ap (field_of from) same ∙ sym (beside from.offset from.length p before bytes fits as_many (subst (λ (x : Place). (x.offset + x.length ≤ from.offset) ⊎ (from.offset + from.length ≤ x.offset)) (sym there) (other_side apart)))
  where
    other_side : (ArePlacesApart from to) → (to.offset + to.length ≤ from.offset) ⊎ (from.offset + from.length ≤ to.offset)
    other_side (inl before) = inr before
    other_side (inr behind) = inl behind

leave_get : OneOfNeeded → (r : Records) (reading : Reading) (o : Operand) (from : Place) (first : List ℕ) (os : List Operand) (rest : List Move) (input before : List ℕ) (end : Ending) → IsFixed r.output false o from
    → AllByRecursion (LeavesPlace r.output from) os → field_of from before ≡ field_of from first → length before ≡ greatest_length r.output
    → AppliedInPlace r (singles (Entry Out reading o) os ++ rest) input before end → Gained r (content_at Out reading o first from) os rest input before end
leave_get law r reading o from first [] rest input before end sends none same long x = inl (before, refl, refl, x)
leave_get law r reading o from first (q ∷ qs) rest input before end sends (leaves, more) same long (inl (after, size, g, x)) =
    let content : Content = content_at Out reading o first from in
    let got : AllGet r.output content (q ∷ []) before (done after) = entry_gets law r reading o from first q input before (done after) sends same g in
    let kept : field_of from after ≡ field_of from first =
    left_bytes law r.output from q content before after (omega (arith, sends.within, long)) long size leaves (one_got r.output content q before after got) ∙ same in
    elim (leave_get law r reading o from first qs rest input after end sends more kept (size ∙ long) x) [
      | inl (last, longer, h, y) ↦ inl (last, longer ∙ size, get_both r.output content (q ∷ []) qs before after (done last) got h, y)
      | inr (stop, last, h, e) ↦ inr (stop, last, get_both r.output content (q ∷ []) qs before after (stopped stop last) got h, e)
    ]
leave_get law r reading o from first (q ∷ qs) rest input before end sends (leaves, more) same long (inr (stop, after, g, e)) =
    let content : Content = content_at Out reading o first from in
    let got : AllGet r.output content (q ∷ []) before (stopped stop after) = entry_gets law r reading o from first q input before (stopped stop after) sends same g in
    inr (stop, after, get_stopped r.output content (q ∷ []) qs before after stop got, e)

leave_moved : OneOfNeeded → (r : Records) (s : Sender) (os : List Operand) (rest : List Move) (input before : List ℕ) (end : Ending) → length before ≡ greatest_length r.output → LeaveSender r s os
    → AppliedInPlace r (singles s os ++ rest) input before end → AppliedInPlace r (record { sender = s; receivers = os } ∷ rest) input before end
leave_moved law r (Entry In reading o) os rest input before end long leave x = absurd leave
leave_moved law r (Literal c) os rest input before end long leave x = absurd leave
leave_moved law r (Entry Out reading o) os rest input before end long leave x =
    gained_moved r (Entry Out reading o) os rest (content_at Out reading o before leave.from) input before end (leave.from, leave.sends.place Out before, refl)
    (leave_get law r reading o leave.from before os rest input before end leave.sends leave.leave refl long x)

cut_move : OneOfNeeded → (r : Records) (m : Move) (own rest : List Move) (input before : List ℕ) (end : Ending) → length before ≡ greatest_length r.output → IsMoveCut r m own
    → AppliedInPlace r (own ++ rest) input before end → AppliedInPlace r (m ∷ rest) input before end
cut_move law r m [] rest input before end long h x = absurd h
cut_move law r m (p ∷ ps) rest input before end long (inl (same, none)) x =
    subst (λ (n : Move). AppliedInPlace r (n ∷ rest) input before end) same (subst (λ (ns : List Move). AppliedInPlace r (p ∷ (ns ++ rest)) input before end) none x)
cut_move law r m (p ∷ ps) rest input before end long (inr (inl (steady, h))) x = first_part law r m p ps rest input before end steady h x
cut_move law r m (p ∷ ps) rest input before end long (inr (inr (leave, same))) x =
    leave_moved law r m.sender m.receivers rest input before end long leave (subst (λ (ns : List Move). AppliedInPlace r (ns ++ rest) input before end) same x)

-- ---- moves

pub cut_moves : OneOfNeeded → (r : Records) (ms parts : List Move) (input before : List ℕ) (end : Ending) → length before ≡ greatest_length r.output → AreMovesCut r ms parts
    → AppliedInPlace r parts input before end → Applied r ms input before end
cut_moves law r [] parts input before end long none x = applied_of r [] input before end (subst (λ (ps : List Move). AppliedInPlace r ps input before end) none x)
cut_moves law r (m ∷ ms) parts input before end long (own, rest, cut, one, more) x =
    elim (cut_move law r m own rest input before end long one (subst (λ (ps : List Move). AppliedInPlace r ps input before end) cut x)) [
      | inl (after, size, g, y) ↦ inl (after, g, cut_moves law r ms rest input after end (size ∙ long) more y)
      | inr (stop, after, g, e) ↦ inr (stop, after, g, e)
    ]

-- ---- cutting

not_false : (b : Bool) → not b ≡ false → b ≡ true
not_false true e = refl
not_false false e = absurd (cc)

-- no table of a record varies, where one says so
pub no_table : (t : Forest Resolved) (b : Bool) → b ≡ not (length (tables_of t) == 0) → b ≡ false → tables_of t ≡ []
no_table t b e f = none_of (tables_of t) (not_false (length (tables_of t) == 0) (sym e ∙ f))

-- moves behind moves
pub cut_both : (r : Records) (ms ns parts others : List Move) → AreMovesCut r ms parts → AreMovesCut r ns others → AreMovesCut r (ms ++ ns) (parts ++ others)
cut_both r [] ns parts others none more = subst (λ (ps : List Move). AreMovesCut r ns (ps ++ others)) (sym none) more
cut_both r (m ∷ ms) ns parts others (own, rest, cut, one, left) more =
    (own, rest ++ others, ap (λ (xs : List Move). xs ++ others) cut ∙ append_assoc own rest others, one, cut_both r ms ns rest others left more)

-- each by itself
pub cut_selves : (r : Records) (ms : List Move) → AreMovesCut r ms ms
cut_selves r [] = refl
cut_selves r (m ∷ ms) = (m ∷ [], ms, refl, inl (refl, refl), cut_selves r ms)

singles_received : (s : Sender) (os : List Operand) → AreReceived s (singles s os) os
singles_received s [] = refl
singles_received s (o ∷ os) = (refl, (os, refl, singles_received s os))

singles_cut : (r : Records) (s : Sender) (os : List Operand) → MayBeCut r s os → (os ≡ [] → ⊥) → IsMoveCut r (record { sender = s; receivers = os }) (singles s os)
singles_cut r s [] may some = absurd (some refl)
singles_cut r s (o ∷ os) (inl steady) some = inr (inl (steady, singles_received s (o ∷ os)))
singles_cut r s (o ∷ []) (inr (inl one)) some = inl (refl, refl)
singles_cut r s (o ∷ q ∷ os) (inr (inl one)) some = absurd (omega (arith, one))
singles_cut r s (o ∷ os) (inr (inr leave)) some = inr (inr (leave, refl))

-- a move that is cut into its single moves
pub cut_singles : (r : Records) (m : Move) → MayBeCut r m.sender m.receivers → (m.receivers ≡ [] → ⊥) → AreMovesCut r (m ∷ []) (singles m.sender m.receivers)
cut_singles r m may some =
    (singles m.sender m.receivers, [], sym (append-nil (singles m.sender m.receivers)), singles_cut r m.sender m.receivers may some, refl)
