-- What a bound gives behind moves that leave it alone.
use Rattle.std.proofs.Common.{◌≡◌, ◌⊎◌, ℕ, zero, suc, ◌+◌, ◌<◌, ◌≤◌, false, List, [], ◌∷◌, ◌++◌, length, map, replicate, set, refl, sym, ap, subst, ◌∙◌, arith, inl, inr, Ok, Option, Some, None}
use Rattle.std.specs.Prelude.{IfSome, slice_index_or}
use Rattle.std.specs.List.{AllByRecursion, slice_get}
use Rattle.std.proofs.lemmas.Option.{same_Some}
use Rattle.cob_codec.specs.declared.reading.Reading.{Reading}
use Rattle.cob_copybook_tree.specs.declared.node.Item.{Item}
use Rattle.cob_layout.specs.declared.fields.Place.{Place}
use Rattle.cob_layout.specs.Fields.{field_of}
use Rattle.cob_layout.specs.Laws.{OneOfNeeded}
use Rattle.cob_layout.specs.Storage.{greatest_length}
use Rattle.cob_layout_places.specs.Counts.{IsCountValue, SaysOfTable}
use Rattle.cob_layout_places.specs.declared.reference.Ref.{Ref}
use Rattle.cob_layout_places.specs.declared.varying.Table.{Table}
use Rattle.cob_move_data.specs.declared.operands.Side.{Side}
use Rattle.cob_move_data.specs.declared.operands.Side.TheVariants.{In, Out}
use Rattle.cob_move_data.specs.Moves.{Move, Records, operand_in, read_by, record_of}
use Rattle.cob_move_apply.specs.Applied.{Applied, done, storage_of}
use Rattle.cob_move_apply.specs.Located.{Located}
use Rattle.cob_move_apply.specs.Marked.{AreMarkedPrepared, moves_between_marks}
use Rattle.cob_move_apply.specs.Placed.{IsFixed}
use Rattle.cob_move_apply.specs.Spared.{AllBeginFrom, BeginsFrom, SpareEntry}
use Rattle.cob_move_apply.specs.declared.marked.MarkedMoves.{MarkedMoves}
use Rattle.cob_move_apply.specs.declared.placed.PlacedEntry.{PlacedEntry}
use Rattle.cob_move_apply.proofs.OneLemmas.{one_place}
use Rattle.cob_move_apply.proofs.SpareLemmas.{all_mapped, all_parts, applied_front, place_kept}
use Rattle.cob_move_deeds.specs.declared.flow.Bound.{Bound}
use Rattle.cob_move_deeds.specs.declared.known.KnownBound.{KnownBound}
use Rattle.cob_move_deeds.specs.declared.steady.Stretch.{Stretch}
use Rattle.cob_move_deeds.specs.Flows.{FlowSupport}
use Rattle.cob_move_deeds.specs.Known.{Gives, IsKnown, StillGives}
use Rattle.cob_move_deeds.specs.Steady.{AreSteady, IsSteady}
use Rattle.cob_move_deeds.specs.Tests.{BoundGives, Past, past_bound, there, up_to}
use Rattle.cob_move_deeds.proofs.LoopLemmas.{moves_on}

-- ---- bounds of the input record

-- a bound of the input record gives the same, whatever the output record holds
pub gives_still : (r : Records) (t : Past) (input before now : List ℕ) (v : ℕ) → t.side ≡ In → BoundGives r t input before v → BoundGives r t input now v
gives_still r t input before now v in_ (p, i, located, kind, says) =
    let same : storage_of t.side input before ≡ storage_of t.side input now = ap (λ (d : Side). storage_of d input before) in_ ∙ sym (ap (λ (d : Side). storage_of d input now) in_) in (
      p,
      i,
      subst (λ (b : List ℕ). Located t.side (record_of r t.side) false t.bound b (Ok p)) same located,
      kind,
      subst (λ (b : List ℕ). SaysOfTable i (up_to t.most) (there p) b (Ok v)) same says,
    )

-- ---- bounds of the output record

-- bytes at a place say what they said, where they are as they were
says_still : (i : Item) (x : Table) (p : Place) (before after : List ℕ) (v : ℕ) → p.offset + p.length ≤ length after → field_of p after ≡ field_of p before
    → SaysOfTable i x (there p) before (Ok v) → SaysOfTable i x (there p) after (Ok v)
says_still i x p before after v fits same (within, counted) = (fits, subst (λ (bytes : List ℕ). IsCountValue i x bytes v) (sym same) counted)

-- the test of the bound that an entry of the record of a side holds
abbrev test_of : Records → Side → Ref → ℕ → Past
test_of r side entry most = record { number = 0; most = most; side = side; bound = operand_in (record_of r side) entry }

gives_behind : OneOfNeeded → (r : Records) (entry : Ref) (most : ℕ) (p : Place) (ms : List Move) (input before after : List ℕ) (v : ℕ) → IsFixed r.output false (operand_in r.output entry) p
    → AllBeginFrom r.output (p.offset + p.length) ms → length before ≡ greatest_length r.output → Applied r ms input before (done after)
    → BoundGives r (test_of r Out entry most) input before v → BoundGives r (test_of r Out entry most) input after v
gives_behind law r entry most p ms input before after v fixed begin long applied (q, i, located, kind, says) =
    let here : q ≡ p = one_place law Out r.output false (operand_in r.output entry) before q p located (fixed.place Out before) in
    let kept = applied_front r (p.offset + p.length) ms input before (done after) begin (omega (arith, fixed.within, long)) applied in (
      p,
      i,
      fixed.place Out after,
      kind,
      says_still i (up_to most) p before after v kept.1 (place_kept p before after kept) (subst (λ (x : Place). SaysOfTable i (up_to most) (there x) before (Ok v)) here says),
    )

gives_of_side : OneOfNeeded → (r : Records) (side : Side) (entry : Ref) (most : ℕ) (p : Place) (ms : List Move) (input before after : List ℕ) (v : ℕ) → side ≡ Out → IsFixed r.output false (operand_in r.output entry) p
    → AllBeginFrom r.output (p.offset + p.length) ms → length before ≡ greatest_length r.output → Applied r ms input before (done after)
    → BoundGives r (test_of r side entry most) input before v → BoundGives r (test_of r side entry most) input after v
gives_of_side law r In entry most p ms input before after v is fixed begin long applied gives = absurd (cc)
gives_of_side law r Out entry most p ms input before after v is fixed begin long applied gives = gives_behind law r entry most p ms input before after v fixed begin long applied gives

-- ---- behind moves that spare a bound

-- it gives what it gave
pub gives_spared : OneOfNeeded → (r : Records) (b : Bound) (ms : List Move) (input before after : List ℕ) (v : ℕ) → SpareEntry r ms b.item → length before ≡ greatest_length r.output → Applied r ms input before (done after)
    → BoundGives r (past_bound r b 0) input before v → BoundGives r (past_bound r b 0) input after v
gives_spared law r b ms input before after v (inl of_input) long applied gives = gives_still r (past_bound r b 0) input before after v of_input gives
gives_spared law r b ms input before after v (inr (side, (p, fixed, begin))) long applied gives =
    gives_of_side law r b.item.side b.item.entry b.most p ms input before after v side fixed begin long applied gives

-- so it does up to any mark of its stretch
pub still_gives : OneOfNeeded → (r : Records) (on : FlowSupport) (b : Bound) (s : Stretch) (bound last first end : ℕ) (input before : List ℕ) → slice_get on.bounds bound ≡ Some b → IsSteady r on.moves b s → s.first ≤ first → end ≤ s.last
    → length before ≡ greatest_length r.output → BoundGives r (past_bound r b 0) input before last → StillGives r on bound last first end input before
still_gives law r on b s bound last first end input before at steady low high long gives to after le near within applied = record {
  given = b;
  at = at;
  gives = gives_spared law r b (moves_between_marks r on.moves first to) input before after last (steady first to low le (omega (arith, near, high)) within) long applied gives;
}

-- ---- what is known

known_still : OneOfNeeded → (r : Records) (on : FlowSupport) (k : KnownBound) (from to : ℕ) (input before after : List ℕ) → from ≤ to → to < length on.moves.marks.items → length before ≡ greatest_length r.output
    → Applied r (moves_between_marks r on.moves from to) input before (done after) → k.steady.first ≤ from → to ≤ k.steady.last → IsKnown r on input before k → IsKnown r on input after k
known_still law r on k from to input before after le within long applied low high known = record {
  given = known.given;
  at = known.at;
  steady = known.steady;
  gives = gives_spared law r known.given (moves_between_marks r on.moves from to) input before after k.gave (known.steady from to low le high within) long applied known.gives;
}

-- what is still known of a bound behind moves
pub left_known : OneOfNeeded → (r : Records) (on : FlowSupport) (old new : Option KnownBound) (from to : ℕ) (input before after : List ℕ) → from ≤ to → to < length on.moves.marks.items → length before ≡ greatest_length r.output
    → Applied r (moves_between_marks r on.moves from to) input before (done after) → IfSome new (λ k. (old ≡ Some k) × (k.steady.first ≤ from) × (to ≤ k.steady.last)) → IfSome old (IsKnown r on input before)
    → IfSome new (IsKnown r on input after)
left_known law r on old None from to input before after le within long applied is known = tt
left_known law r on old (Some k) from to input before after le within long applied (same, low, high) known =
    known_still law r on k from to input before after le within long applied low high (subst (λ (o : Option KnownBound). IfSome o (IsKnown r on input before)) same known)

-- what a bound gave that is known
pub known_gave : (r : Records) (on : FlowSupport) (input before : List ℕ) (k : KnownBound) (bound : ℕ) → k.bound ≡ bound → IsKnown r on input before k → Gives r on bound k.gave input before
known_gave r on input before k bound same known = record { given = known.given; at = ap (λ (n : ℕ). slice_get on.bounds n) (sym same) ∙ known.at; gives = known.gives }

-- ---- what is noted

-- no moves lie between marks of none
pub none_steady : (r : Records) (m : MarkedMoves) (b : Bound) → IsSteady r m b (record { first = 1; last = 0 })
none_steady r m b from to low le high within = absurd (omega (arith, low, le, high))

-- a bound of the input record is spared by all
pub all_steady : (r : Records) (m : MarkedMoves) (b : Bound) (s : Stretch) → b.item.side ≡ In → IsSteady r m b s
all_steady r m b s of_input from to low le high within = inl of_input

begin_between : (r : Records) (byte : ℕ) (xs ys zs ms : List Move) → xs ++ (ys ++ zs) ≡ ms → AllBeginFrom r.output byte ms → AllBeginFrom r.output byte ys
begin_between r byte xs ys zs ms is h =
    let begin : Move → Type 0 = λ m. AllByRecursion (BeginsFrom r.output byte) m.receivers in
    (all_parts begin ys zs (all_parts begin xs (ys ++ zs) (subst (λ (ns : List Move). AllBeginFrom r.output byte ns) (sym is) h)).1).0

spare_between : (r : Records) (e : PlacedEntry) (xs ys zs ms : List Move) → xs ++ (ys ++ zs) ≡ ms → SpareEntry r ms e → SpareEntry r ys e
spare_between r e xs ys zs ms is (inl of_input) = inl of_input
spare_between r e xs ys zs ms is (inr (side, (p, fixed, begin))) = inr (side, (p, fixed, begin_between r (p.offset + p.length) xs ys zs ms is begin))

-- what all moves between two marks spare, those between any marks among them do
pub spared_steady : (r : Records) (m : MarkedMoves) (b : Bound) (s : Stretch) → AreMarkedPrepared r m → s.first ≤ s.last → s.last < length m.marks.items → SpareEntry r (moves_between_marks r m s.first s.last) b.item → IsSteady r m b s
spared_steady r m b s prepared rises within spare from to low le high lt =
    spare_between r b.item (moves_between_marks r m s.first from) (moves_between_marks r m from to) (moves_between_marks r m to s.last) (moves_between_marks r m s.first s.last)
    (ap (λ (ms : List Move). moves_between_marks r m s.first from ++ ms) (moves_on r m from to s.last prepared le high within)
    ∙ moves_on r m s.first from s.last prepared low (omega (arith, le, high)) within) spare

-- ---- senders read otherwise

spare_read : (x : Reading) (r : Records) (ms : List Move) (e : PlacedEntry) → SpareEntry r ms e → SpareEntry r (map (read_by x) ms) e
spare_read x r ms e (inl of_input) = inl of_input
spare_read x r ms e (inr (side, (p, fixed, begin))) =
    inr (side, (p, fixed, all_mapped (λ (m : Move). AllByRecursion (BeginsFrom r.output (p.offset + p.length)) m.receivers) (read_by x) ms begin))

-- what is noted of bounds stays so
pub steady_read : (x : Reading) (r : Records) (m new : MarkedMoves) (bounds : List Bound) (noted : List (Option Stretch)) → ((from to : ℕ) → moves_between_marks r new from to ≡ map (read_by x) (moves_between_marks r m from to))
    → length new.marks.items ≡ length m.marks.items → AreSteady r m bounds noted → AreSteady r new bounds noted
steady_read x r m new bounds noted between many steady number b s at is from to low le high within =
    subst (λ (ms : List Move). SpareEntry r ms b.item) (sym (between from to))
    (spare_read x r (moves_between_marks r m from to) b.item (steady number b s at is from to low le high (omega (arith, within, many))))

pub steady_noted_read : {V : Type 0} (items : V → List (Option Stretch)) (x : Reading) (r : Records) (m new : MarkedMoves) (bounds : List Bound) (noted : Option V) → ((from to : ℕ) → moves_between_marks r new from to ≡ map (read_by x) (moves_between_marks r m from to))
    → length new.marks.items ≡ length m.marks.items → IfSome noted (λ v. AreSteady r m bounds (items v)) → IfSome noted (λ v. AreSteady r new bounds (items v))
steady_noted_read items x r m new bounds None between many steady = tt
steady_noted_read items x r m new bounds (Some noted) between many steady = steady_read x r m new bounds (items noted) between many steady

-- ---- as it is noted

at_set : {A : Type 0} (xs : List A) (n k : ℕ) (a x : A) → slice_get (set xs n a) k ≡ Some x → ((k ≡ n) × (a ≡ x)) ⊎ (slice_get xs k ≡ Some x)
at_set [] n k a x h = inr h
at_set (y ∷ ys) zero zero a x h = inl (refl, same_Some a x h)
at_set (y ∷ ys) zero (suc k) a x h = inr h
at_set (y ∷ ys) (suc n) zero a x h = inr h
at_set (y ∷ ys) (suc n) (suc k) a x h = elim (at_set ys n k a x h) [
  | inl (same, is) ↦ inl (ap (λ (j : ℕ). suc j) same, is)
  | inr there ↦ inr there
]

at_replicate : {A : Type 0} (n k : ℕ) (a x : A) → slice_get (replicate n a) k ≡ Some x → a ≡ x
at_replicate zero k a x h = absurd (cc)
at_replicate (suc n) zero a x h = same_Some a x h
at_replicate (suc n) (suc k) a x h = at_replicate n k a x h

-- what is noted of a bound
pub there_noted : (noted : List (Option Stretch)) (n : ℕ) (s : Stretch) → Some s ≡ slice_index_or noted n None → slice_get noted n ≡ Some (Some s)
there_noted [] n s h = let no : ◌≡◌ {A = Option Stretch} (Some s) None = h in absurd (cc)
there_noted (x ∷ xs) zero s h = ap (λ (o : Option Stretch). Some o) (sym h)
there_noted (x ∷ xs) (suc n) s h = there_noted xs n s h

pub noted_steady : {V : Type 0} (items : V → List (Option Stretch)) (r : Records) (m : MarkedMoves) (bounds : List Bound) (noted : Option V) (v : V) → noted ≡ Some v → IfSome noted (λ w. AreSteady r m bounds (items w))
    → AreSteady r m bounds (items v)
noted_steady items r m bounds noted v is steady = subst (λ o. IfSome o (λ w. AreSteady r m bounds (items w))) is steady

-- where nothing is noted of any bound
pub none_noted : (r : Records) (m : MarkedMoves) (bounds : List Bound) (n : ℕ) → AreSteady r m bounds (replicate n None)
none_noted r m bounds n number b s at is =
    let no : ◌≡◌ {A = Option Stretch} None (Some s) = at_replicate n number None (Some s) is in
    absurd (cc)

-- and where it is noted of one
pub one_noted : (r : Records) (m : MarkedMoves) (bounds : List Bound) (noted : List (Option Stretch)) (bound : ℕ) (s : Stretch) → AreSteady r m bounds noted → ((b : Bound) → slice_get bounds bound ≡ Some b → IsSteady r m b s)
    → AreSteady r m bounds (set noted bound (Some s))
one_noted r m bounds noted bound s steady own number b t at is = elim (at_set noted bound number (Some s) (Some t) is) [
  | inl (same, here) ↦ subst (λ (u : Stretch). IsSteady r m b u) (same_Some s t here) (own b (ap (λ (n : ℕ). slice_get bounds n) (sym same) ∙ at))
  | inr there ↦ steady number b t at there
]
