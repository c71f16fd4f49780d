-- The moves that statements mean are moves between the records.
use Rattle.std.proofs.Common.{◌≡◌, Bool, true, false, List, [], ◌∷◌, map, refl, sym, ap, subst, inl, inr}
use Rattle.std.specs.Prelude.{filter}
use Rattle.std.specs.List.{AllByRecursion}
use Rattle.cob_copybook.specs.Books.{IsRecordDescription}
use Rattle.cob_copybook_tree.specs.Forests.{Forest}
use Rattle.cob_copybook_tree.specs.Nodes.{Resolved}
use Rattle.cob_move_data.specs.declared.operands.Side.{Side}
use Rattle.cob_move_data.specs.declared.operands.Side.TheVariants.{In, Out}
use Rattle.cob_move_data.specs.declared.operands.Operand.{Operand}
use Rattle.cob_move_data.specs.Moves.{AreMoves, IsMove, IsOperand, IsSender, Move, Records, Sender, record_of}
use Rattle.cob_move_statements.specs.Written.{WrittenReference, WrittenSender, SentReference, SentConstant, WrittenAction, MoveTo, MoveCorresponding, WrittenStatement}
use Rattle.cob_move_names.specs.Candidates.{Candidate, all_entries}
use Rattle.cob_move_names.specs.Laws.{NamedAreOperands}
use Rattle.cob_move_names.specs.Groups.{IsListed, SubordinatesAreOperands, entries_below}
use Rattle.cob_move_names.specs.Pairs.{Pair, Subordinate, correspond, pairs_among, pairs_from, subordinates}
use Rattle.cob_layout.specs.Sound.{RecordsAreSound}
use Rattle.cob_move.specs.declared.corresponding.TwoGroups.{TwoGroups}
use Rattle.cob_move.specs.Meaning.{AreGroupsOf, AreMeant, AreMovesOf, AreReceiversOf, IsMeaning, pair_move, pairs_of}
use Rattle.cob_move_names.specs.Senders.{IsSenderOf}
use Rattle.cob_move_names.specs.Between.{entries_of}
use Rattle.cob_move.specs.MeaningLaws.{MeantAreMoves}
use Rattle.cob_move.proofs.SomeLemmas.{all_append, all_map, all_weaken}

-- ---- the entries of a pair are those that were listed

abbrev IsFrom : Subordinate → List Subordinate → Pair → Type 0
IsFrom x ys p = (p.from ≡ x) × IsListed p.to ys

abbrev IsAmong : List Subordinate → List Subordinate → Pair → Type 0
IsAmong xs ys p = IsListed p.from xs × IsListed p.to ys

one_pair : (x y : Subordinate) (ys : List Subordinate) (t : Bool) → correspond x y ≡ t → AllByRecursion (IsFrom x ys) (pairs_from ys x) → AllByRecursion (IsFrom x (y ∷ ys)) (pairs_from (y ∷ ys) x)
one_pair x y ys true e h =
    let more : AllByRecursion (IsFrom x (y ∷ ys)) (pairs_from ys x) = all_weaken (IsFrom x ys) (IsFrom x (y ∷ ys)) (λ p a. (a.0, inr a.1)) (pairs_from ys x) h in
    subst (λ (zs : List Subordinate). AllByRecursion (IsFrom x (y ∷ ys)) (map (λ (to : Subordinate). record { from = x; to = to }) zs)) (sym (kept e)) ((refl, inl refl), more)
  where
    kept : correspond x y ≡ true → filter (λ z. correspond x z) (y ∷ ys) ≡ y ∷ filter (λ z. correspond x z) ys
    kept k = rw k refl
one_pair x y ys false e h =
    let more : AllByRecursion (IsFrom x (y ∷ ys)) (pairs_from ys x) = all_weaken (IsFrom x ys) (IsFrom x (y ∷ ys)) (λ p a. (a.0, inr a.1)) (pairs_from ys x) h in
    subst (λ (zs : List Subordinate). AllByRecursion (IsFrom x (y ∷ ys)) (map (λ (to : Subordinate). record { from = x; to = to }) zs)) (sym (left e)) more
  where
    left : correspond x y ≡ false → filter (λ z. correspond x z) (y ∷ ys) ≡ filter (λ z. correspond x z) ys
    left k = rw k refl

from_one : (x : Subordinate) (ys : List Subordinate) → AllByRecursion (IsFrom x ys) (pairs_from ys x)
from_one x [] = tt
from_one x (y ∷ ys) = one_pair x y ys (correspond x y) refl (from_one x ys)

among : (xs ys : List Subordinate) → AllByRecursion (IsAmong xs ys) (pairs_among xs ys)
among [] ys = tt
among (x ∷ xs) ys =
    all_append (IsAmong (x ∷ xs) ys) (pairs_from ys x) (pairs_among xs ys)
    (all_weaken (IsFrom x ys) (IsAmong (x ∷ xs) ys) (λ p a. (inl (sym a.0), a.1)) (pairs_from ys x) (from_one x ys))
    (all_weaken (IsAmong xs ys) (IsAmong (x ∷ xs) ys) (λ p a. (inr a.0, a.1)) (pairs_among xs ys) (among xs ys))

-- ---- moves

-- the records are such, and what a reference names is an operand
pub record AreGiven (records : Records) : Type 0 where
  pub input : IsRecordDescription records.input
  pub output : IsRecordDescription records.output
  pub named : NamedAreOperands
  pub below : SubordinatesAreOperands
  pub sound : RecordsAreSound

abbrev pub all_of : Records → List Candidate
all_of records = all_entries records.input records.output

is_sender : (records : Records) → AreGiven records → (s : WrittenSender) (m : Sender) → IsSenderOf (all_of records) s m → IsSender records m
is_sender records given (SentReference r) m (side, o, h, e) = subst (λ (x : Sender). IsSender records x) (sym e) (given.named records r side o given.input given.output h)
is_sender records given (SentConstant w) m (c, h, e) = subst (λ (x : Sender). IsSender records x) (sym e) tt

are_receivers : (records : Records) → AreGiven records → (ws : List WrittenReference) (os : List Operand) → AreReceiversOf (all_of records) ws os → AllByRecursion (IsOperand records.output) os
are_receivers records given [] os h = subst (λ (xs : List Operand). AllByRecursion (IsOperand records.output) xs) (sym h) tt
are_receivers records given (w ∷ ws) os (o, more, h, hs, e) =
    subst (λ (xs : List Operand). AllByRecursion (IsOperand records.output) xs) (sym e) (given.named records w Out o given.input given.output h, are_receivers records given ws more hs)

record_is : (records : Records) → AreGiven records → (side : Side) → IsRecordDescription (record_of records side)
record_is records given In = given.input
record_is records given Out = given.output

same_entries : (records : Records) (side : Side) → entries_of records.input records.output side ≡ record_of records side
same_entries records In = refl
same_entries records Out = refl

is_pair : (records : Records) → AreGiven records → (g : TwoGroups) (p : Pair) → IsOperand (record_of records g.side) g.from → IsOperand records.output g.to
    → IsAmong (subordinates [] (entries_below g.from.entry.node (record_of records g.side))) (subordinates [] (entries_below g.to.entry.node records.output)) p
    → IsMove records (pair_move g p)
is_pair records given g p a b x = record {
  sender = given.below (record_of records g.side) g.from p.from (given.sound (record_of records g.side) (record_is records given g.side)).numbered a x.0;
  receivers = (given.below records.output g.to p.to (given.sound records.output given.output).numbered b x.1, tt);
}

pub group_moves : (records : Records) → AreGiven records → (from to : WrittenReference) (g : TwoGroups) → AreGroupsOf (all_of records) from to g
    → AreMoves records (map (pair_move g) (pairs_of records.input records.output g))
group_moves records given from to g named =
    let froms : List Subordinate = subordinates [] (entries_below g.from.entry.node (record_of records g.side)) in
    let tos : List Subordinate = subordinates [] (entries_below g.to.entry.node records.output) in
    let each : AllByRecursion (IsMove records) (map (pair_move g) (pairs_among froms tos)) =
    all_map (IsAmong froms tos) (IsMove records) (pair_move g)
    (λ p x. is_pair records given g p (given.named records from g.side g.from given.input given.output named.sending) (given.named records to Out g.to given.input given.output named.receiving) x)
    (pairs_among froms tos) (among froms tos) in
    let same : map (pair_move g) (pairs_of records.input records.output g) ≡ map (pair_move g) (pairs_among froms tos) =
    ap (λ (f : Forest Resolved). map (pair_move g) (pairs_among (subordinates [] (entries_below g.from.entry.node f)) tos)) (same_entries records g.side) in
    subst (λ (xs : List Move). AreMoves records xs) (sym same) each

are_pairs : (records : Records) → AreGiven records → (from to : WrittenReference) (ms : List Move) → AreMovesOf (all_of records) records.input records.output from to ms → AreMoves records ms
are_pairs records given from to ms h = subst (λ (xs : List Move). AreMoves records xs) (sym h.moves) (group_moves records given from to h.groups h.named)

are_moves : (records : Records) → AreGiven records → (a : WrittenAction) (ms : List Move) → IsMeaning (all_of records) records.input records.output a ms → AreMoves records ms
are_moves records given (MoveTo s ws) ms (m, h, e) =
    let one : IsMove records m = record { sender = is_sender records given s m.sender h.sender; receivers = are_receivers records given ws m.receivers h.receivers } in
    subst (λ (xs : List Move). AreMoves records xs) (sym e) (one, tt)
are_moves records given (MoveCorresponding from to) ms h = are_pairs records given from to ms h

all_moves : (records : Records) → AreGiven records → (ss : List WrittenStatement) (ms : List Move) → AreMeant records.input records.output ss ms → AreMoves records ms
all_moves records given [] ms h = subst (λ (xs : List Move). AreMoves records xs) (sym h) tt
all_moves records given (s ∷ ss) ms (own, more, h, hs, e) =
    subst (λ (xs : List Move). AreMoves records xs) (sym e)
    (all_append (IsMove records) own more (are_moves records given s.action own h) (all_moves records given ss more hs))

pub meant_are_moves : NamedAreOperands → SubordinatesAreOperands → RecordsAreSound → MeantAreMoves
meant_are_moves named below sound records ss ms input output h =
    all_moves records (record { input = input; output = output; named = named; below = below; sound = sound }) ss ms h
