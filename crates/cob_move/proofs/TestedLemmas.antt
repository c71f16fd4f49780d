-- The turns of a loop to an item, read up to the first that has not the elements that it names.
use Rattle.std.proofs.Common.{◌≡◌, ◌⊎◌, inl, inr, ℕ, zero, suc, ◌+◌, ◌-◌, ◌*◌, ◌/◌, ◌<◌, ◌≤◌, Bool, true, false, nat_eq, List, [], ◌∷◌, ◌++◌, length, map, refl, sym, ap, subst, ◌∙◌, append_assoc, append-nil, arith, Option, Some}
use Rattle.std.specs.Global.{Vec}
use Rattle.std.specs.List.{AllByRecursion, slice_get}
use Rattle.std.proofs.lemmas.List.{length-append, map-append}
use Rattle.std.proofs.lemmas.Nat.{div-mul-add}
use Rattle.std.proofs.Math.Nat.{suc-mul}
use Rattle.cob_limits.specs.Limits.{longest_record, most_written_out}
use Rattle.cob_source.specs.Tokens.{Lexeme}
use Rattle.cob_copybook_tree.specs.declared.node.Item.{Item}
use Rattle.cob_move_data.specs.declared.operands.StatementMoves.{StatementMoves}
use Rattle.cob_layout_places.specs.declared.reference.Ref.{Ref}
use Rattle.cob_move_data.specs.declared.operands.Side.{Side}
use Rattle.cob_move_data.specs.Moves.{Move, Records, moves, operand_in, record_of}
use Rattle.cob_move_apply.specs.declared.placed.PlacedEntry.{PlacedEntry}
use Rattle.cob_move_apply.specs.Entries.{IsPlacedEntry}
use Rattle.cob_move_condition.specs.declared.condition.Condition.{Condition}
use Rattle.cob_move_deeds.specs.declared.flow.Bound.{Bound}
use Rattle.cob_move_deeds.specs.declared.flow.Flow.{Flow}
use Rattle.cob_move_deeds.specs.Deeds.{Choice, Deeds, Moving, Nothing, both_deeds, moves_of_deeds}
use Rattle.cob_move_deeds.specs.Flows.{AreFlows, FlowSupport}
use Rattle.cob_move_deeds.specs.Tests.{IsBound, IsBoundItem, Past, Test, Until, past_bound, with_number}
use Rattle.cob_move_deeds.specs.Turns.{turns_from}
use Rattle.cob_move_loops.specs.Passages.{IsPassage, Passage, ToItem, WrittenBound, WrittenLoop}
use Rattle.cob_move_loops.specs.Turns.{Counted, in_turn, turns as loop_turns, turns_between}
use Rattle.cob_move_names.specs.Candidates.{Candidate}
use Rattle.cob_move_names.specs.Laws.{NamedBreakNoRule, OneNamed}
use Rattle.cob_move_statements.specs.Laws.{OneReference}
use Rattle.cob_move_statements.specs.declared.fault.MoveFault.{MoveFault}
use Rattle.cob_move_statements.specs.declared.fault.MoveRule.{MoveRule}
use Rattle.cob_move_statements.specs.declared.fault.MoveRule.TheVariants as rule
use Rattle.cob_move.specs.declared.made.NotRead.{NotRead}
use Rattle.cob_move.specs.declared.made.NotRead.TheVariants as why
use Rattle.cob_move.specs.declared.made.Sizes.{Sizes}
use Rattle.cob_move_tests.specs.declared.entries.Entries.{Entries}
use Rattle.cob_move_tests.specs.declared.entries.NamedEntry.{NamedEntry}
use Rattle.cob_move_tests.specs.Entries.{AllMayBeNamed, nameable, records_of, valued_in}
use Rattle.cob_move.specs.Deeds.{AreDeeds, ComeFirstInLoop, IsBoundOf, IsLoopOf, IsLoopRefused, IsTurnRefused, count_of_turns}
use Rattle.cob_move.specs.DeedsRead.{AddsDeeds, AddsLoop, AddsMade, AreKept, AreParted, AreTurns, BoundNotRead, BreaksInSomeTurn, FewWith, FirstBelow, FirstIn, FirstInLoop, HasBounds, HasGrown, HasNoTurn, IsBoundRead, IsFrontOf, IsMade, IsNotBroken, IsRefusedIn, IsSizeOf, LeavesFront, LoopComesTo, LoopRefused, MadeLists, PassageComesTo, ReadsTurns, TurnRefused, all_deeds, closed, closed_where, flow_lists, in_its_turn, last_marked, linked_turns, made_deeds, open_deeds, open_statements, taken_back, without_flows}
use Rattle.cob_move.specs.DeedsLaws.{DeedsBreakNoRule, OneDeeds}
use Rattle.cob_move.specs.Joined.{before_deeds, joined_deeds}
use Rattle.cob_move.proofs.CloseLemmas.{closed_deeds, closed_flows, closed_grown, closed_made, closed_open, closed_read, equal_is, equal_not}
use Rattle.cob_move.proofs.DeedsLemmas.{counted_same, either_side, mul_within, up_to_some}
use Rattle.cob_move_deeds.proofs.AppendLemmas.{are_flows_behind}
use Rattle.cob_move.proofs.FlowLemmas.{before_parted, before_turns, both_assoc, both_flows, both_nothing, both_parted, linked_deeds, linked_flows, parted_joined, turns_parted}
use Rattle.cob_move.proofs.FewLemmas.{below_few_first, below_few_next, bound_few, far_few, first_turn_few, item_few, kept_below}
use Rattle.cob_move.proofs.MadeLemmas.{back_again, front_back, grown_both, grown_none, read_front, read_grown, read_made, with_read}
use Rattle.cob_move.proofs.TurnsLemmas.{changed, changed_elsewhere, changed_there}
use Rattle.cob_move.proofs.WholeLemmas.{moves_of_tested, tested_not_straight, turns_as, turns_one_more}

-- ---- which numbers are kept

pub kept_first : (from by kept behind next : ℕ) → kept ≡ 0 → behind ≡ from → next ≡ from → AreKept from by kept behind next
kept_first from by kept behind next none first same = record {
  at = same ∙ sym (ap (λ (n : ℕ). from + n * by) none ∙ omega arith);
  first = omega (arith, first);
  below = omega (arith, first, same);
  last = λ some. absurd (omega (arith, some, none));
  none = λ e. first;
}

pub kept_more : (from by kept behind next : ℕ) → 0 < by → AreKept from by kept behind next → behind ≡ next → AreKept from by (kept + 1) (behind + 1) (next + by)
kept_more from by kept behind next some k here = record {
  at = omega (arith, k.at, one_more kept by);
  first = omega (arith, k.first);
  below = omega (arith, k.below, some, here);
  last = λ more. omega (arith, here);
  none = λ e. absurd (omega (arith, e));
}
  where
    next_of : (n : ℕ) → n + 1 ≡ suc n
    next_of n = omega arith

    one_more : (n m : ℕ) → (n + 1) * m ≡ n * m + m
    one_more n m = ap (λ (j : ℕ). j * m) (next_of n) ∙ suc-mul n m

pub kept_same : (from by kept behind next : ℕ) → AreKept from by kept behind next → (behind ≡ next → ⊥) → AreKept from by kept (behind + 1) next
kept_same from by kept behind next k other = record {
  at = k.at;
  first = omega (arith, k.first);
  below = elim (either_side behind next) [
    | inl less ↦ omega (arith, less)
    | inr above ↦ absurd (other (omega (arith, above, k.below)))
  ];
  last = λ some. omega (arith, k.last some);
  none = λ e. absurd (other (k.none e ∙ zero_next e ∙ sym k.at));
}
  where
    zero_next : kept ≡ 0 → from ≡ from + kept * by
    zero_next e = sym (ap (λ (n : ℕ). from + n * by) e ∙ omega arith)

-- as many are kept as the counter takes up to the number before
pub kept_turns : (from by kept behind next : ℕ) → AreKept from by kept behind next → from < behind → turns_between from by (behind - 1) ≡ kept
kept_turns from by zero behind next is some = absurd (omega (arith, is.none refl, some))
kept_turns from by (suc kept) behind next is some =
    let low : from + kept * by < behind = kept_below from by (suc kept) behind next kept is (omega arith) in
    let rest = behind - 1 - from - kept * by in
    let whole : behind - 1 - from ≡ kept * by + rest = omega (arith, low) in
    let small : rest < by = omega (arith, is.below, is.at, suc-mul kept by, low, some) in
    up_to_some from by (behind - 1) (omega (arith, some))
    ∙ ap (λ (n : ℕ). n / by + 1) whole ∙ ap (λ (n : ℕ). n + 1) (div-mul-add kept by rest small) ∙ omega arith

-- ---- turns, one more

count_more : (f : ℕ → ℕ) (by n i : ℕ) → count_of_turns f by (suc n) i ≡ count_of_turns f by n i + f (i + n * by)
count_more f by zero i = let at : i + 0 * by ≡ i = omega arith in omega (arith, ap f at)
count_more f by (suc n) i =
    let at : i + by + n * by ≡ i + suc n * by = omega (arith, suc-mul n by) in
    omega (arith, count_more f by n (i + by), ap f at)

-- before the first number there is nothing to count
none_before : (f : ℕ → ℕ) (from behind : ℕ) → behind ≡ from → count_of_turns f 1 (behind - from) from ≡ 0
none_before f from behind first =
    let none : behind - from ≡ 0 = omega (arith, first) in
    ap (λ (n : ℕ). count_of_turns f 1 n from) none

-- one number more counts, whether its turn is kept or not
one_counted : (f : ℕ → ℕ) (from behind m : ℕ) → from ≤ behind → count_of_turns (changed f behind m) 1 (behind + 1 - from) from ≡ count_of_turns f 1 (behind - from) from + m
one_counted f from behind m le =
    let g = changed f behind m in
    let more : behind + 1 - from ≡ suc (behind - from) = omega (arith, le) in
    let at : from + (behind - from) * 1 ≡ behind = omega (arith, le) in
    let before : count_of_turns f 1 (behind - from) from ≡ count_of_turns g 1 (behind - from) from =
    counted_same f g 1 (behind - from) from (λ k less. sym (changed_elsewhere f behind m (from + k * 1) (λ e. omega (arith, less, e)))) in
    let last : g (from + (behind - from) * 1) ≡ m = changed_there f behind m (from + (behind - from) * 1) at in
    omega (arith, ap (λ (n : ℕ). count_of_turns g 1 n from) more, count_more g 1 (behind - from) from, before, last)

turns_same : (r : Records) (on : FlowSupport) (f g : ℕ → Deeds Test) (by i : ℕ) (turns : List (List Flow)) → ((k : ℕ) → k < length turns → f (i + k * by) ≡ g (i + k * by)) → AreTurns r on f by i turns → AreTurns r on g by i turns
turns_same r on f g by i [] same are = tt
turns_same r on f g by i (fs ∷ turns) same are =
    let here : i + 0 * by ≡ i = omega arith in (
      are.0,
      are.1 ∙ sym (ap f here) ∙ same 0 (omega arith) ∙ ap g here,
      turns_same r on f g by (i + by) turns (λ k less. ap f (later k) ∙ same (suc k) (omega (arith, less)) ∙ sym (ap g (later k))) are.2,
    )
  where
    later : (k : ℕ) → i + by + k * by ≡ i + suc k * by
    later k = omega (arith, suc-mul k by)

turns_more : (r : Records) (on : FlowSupport) (f : ℕ → Deeds Test) (by i : ℕ) (turns : List (List Flow)) (fs : List Flow) → AreTurns r on f by i turns → AreFlows on fs → all_deeds r on fs ≡ f (i + length turns * by)
    → AreTurns r on f by i (turns ++ fs ∷ [])
turns_more r on f by i [] fs are flows is = (flows, is ∙ ap f (omega arith), tt)
turns_more r on f by i (gs ∷ turns) fs are flows is =
    (are.0, are.1, turns_more r on f by (i + by) turns fs are.2 flows (is ∙ ap f (omega (arith, suc-mul (length turns) by))))

long_more : (turns : List (List Flow)) (fs : List Flow) → length (turns ++ fs ∷ []) ≡ suc (length turns)
long_more turns fs = omega (arith, length-append turns (fs ∷ []))

-- ---- a turn that is read

no_reads : (e : Entries) (ns : List Counted) (l : WrittenLoop) (p : Passage) (m : MadeLists) → ReadsTurns e ns l p l.from [] m m
no_reads e ns l p m = record {
  comes = λ i. Nothing;
  count = λ i. 0;
  are = λ i low less. absurd (omega (arith, low, less));
  flows = λ on f. tt;
  longer = omega (arith, none_before (λ i. 0) l.from l.from refl);
  whole = sym (append-nil (moves (records_of e) m.list));
  fits = λ le. le;
  few = below_few_first e ns l p m.read;
}

pub reads_first : (e : Entries) (ns : List Counted) (l : WrittenLoop) (p : Passage) (behind : ℕ) (turns : List (List Flow)) (m : MadeLists) → behind ≡ l.from → turns ≡ [] → ReadsTurns e ns l p behind turns m m
reads_first e ns l p behind turns m first none =
    subst (λ (i : ℕ). ReadsTurns e ns l p i turns m m) (sym first) (subst (λ (ts : List (List Flow)). ReadsTurns e ns l p l.from ts m m) (sym none) (no_reads e ns l p m))

read_each : (e : Entries) (ns : List Counted) (l : WrittenLoop) (p : Passage) (behind : ℕ) (f : ℕ → Deeds Test) (count : ℕ → ℕ) (d : Deeds Test) (c : ℕ) → PassageComesTo e (in_its_turn ns l behind) p d c
    → ((i : ℕ) → l.from ≤ i → i < behind → PassageComesTo e (in_its_turn ns l i) p (f i) (count i))
    → (i : ℕ) → l.from ≤ i → i < behind + 1 → PassageComesTo e (in_its_turn ns l i) p (changed f behind d i) (changed count behind c i)
read_each e ns l p behind f count d c is are i low less = elim (either_side i behind) [
  | inl below ↦
      let other : (i ≡ behind) → ⊥ = λ k. omega (arith, below, k) in
      subst (λ (n : ℕ). PassageComesTo e (in_its_turn ns l i) p (changed f behind d i) n) (sym (changed_elsewhere count behind c i other))
      (subst (λ (t : Deeds Test). PassageComesTo e (in_its_turn ns l i) p t (count i)) (sym (changed_elsewhere f behind d i other)) (are i low below))
  | inr above ↦
      let same : i ≡ behind = omega (arith, above, less) in
      subst (λ (n : ℕ). PassageComesTo e (in_its_turn ns l i) p (changed f behind d i) n) (sym (changed_there count behind c i same))
      (subst (λ (t : Deeds Test). PassageComesTo e (in_its_turn ns l i) p t c) (sym (changed_there f behind d i same))
      (subst (λ (j : ℕ). PassageComesTo e (in_its_turn ns l j) p d c) (sym same) is))
]

-- the moves of turns before a number, where another turn is read
moves_changed : (f : ℕ → Deeds Test) (behind : ℕ) (d : Deeds Test) (by n i : ℕ) → ((k : ℕ) → k < n → (i + k * by ≡ behind) → ⊥)
    → loop_turns (λ j. moves_of_deeds (f j)) by n i ≡ loop_turns (λ j. moves_of_deeds (changed f behind d j)) by n i
moves_changed f behind d by n i other =
    turns_as (λ j. moves_of_deeds (f j)) (λ j. moves_of_deeds (changed f behind d j)) by n i
    (λ k less. ap (λ (t : Deeds Test). moves_of_deeds t) (sym (changed_elsewhere f behind d (i + k * by) (other k less))))

-- the turn of a number that the counter doesn't take is not kept, but its statements were read
pub reads_passed : OneDeeds → (e : Entries) (ns : List Counted) (l : WrittenLoop) (p : Passage) (behind next : ℕ) (turns : List (List Flow)) (old now after : MadeLists) → AreKept l.from l.by (length turns) behind next
    → ReadsTurns e ns l p behind turns old now → AddsMade e (λ d many. PassageComesTo e (in_its_turn ns l behind) p d many) (λ many. FirstIn e (in_its_turn ns l behind) p many) now after
    → ReadsTurns e ns l p (behind + 1) turns old (with_read now after.read)
reads_passed law e ns l p behind next turns old now after kept so a =
    let other : (k : ℕ) → k < length turns → (l.from + k * l.by ≡ behind) → ⊥ = λ k less e. omega (arith, kept_below l.from l.by (length turns) behind next k kept less, e) in
    record {
      comes = changed so.comes behind a.deeds;
      count = changed so.count behind a.many;
      are = read_each e ns l p behind so.comes so.count a.deeds a.many a.are so.are;
      flows = λ on f. turns_same (records_of e) on so.comes (changed so.comes behind a.deeds) l.by l.from turns (λ k less. sym (changed_elsewhere so.comes behind a.deeds (l.from + k * l.by) (other k less)))
          (so.flows on (read_front now after.read on f));
      longer = omega (arith, a.longer, so.longer, one_counted so.count l.from behind a.many kept.first);
      whole = so.whole ∙ ap (λ (t : List Move). moves (records_of e) old.list ++ t)
          (moves_changed so.comes behind a.deeds l.by (length turns) l.from (λ k less. other k less));
      fits = λ le. a.fits (so.fits le);
      few = below_few_next law e ns l p behind old.read now.read so.comes so.count so.are so.longer so.fits a.few so.few;
    }

-- nothing is made but what has a mark behind it
pub nothing_open : (r : Records) (m : MadeLists) (on : FlowSupport) → m.flows ≡ [] → open_statements m ≡ [] → made_deeds r on m ≡ Nothing
nothing_open r m on none marked =
    ap (λ (fs : List Flow). both_deeds (all_deeds r on fs) (open_deeds r (open_statements m))) none ∙ ap (λ (ss : List StatementMoves). open_deeds r ss) marked

pub front_closed : (m : MadeLists) (on : FlowSupport) → IsFrontOf (without_flows m) on → IsFrontOf m on
front_closed m on f = record { reading = f.reading; statements = f.statements; marks = f.marks; bounds = f.bounds; asked = f.asked; conditions = f.conditions }

pub closed_list : (m : MadeLists) → (closed m).list ≡ m.list
closed_list m = list_where (nat_eq (length m.list) (last_marked 0 m.ends)) m
  where
    list_where : (b : Bool) (m : MadeLists) → (closed_where b m).list ≡ m.list
    list_where true m = refl
    list_where false m = refl

pub closed_after : (now mid : MadeLists) → now.flows ≡ [] → HasGrown now mid → HasGrown now (without_flows (closed mid))
closed_after now mid none g =
    let h = closed_grown mid in record {
      list = (g.list.0 ++ h.list.0, h.list.1 ∙ ap (λ (t : List StatementMoves). t ++ h.list.0) g.list.1 ∙ append_assoc now.list g.list.0 h.list.0);
      ends = (g.ends.0 ++ h.ends.0, h.ends.1 ∙ ap (λ (t : List ℕ). t ++ h.ends.0) g.ends.1 ∙ append_assoc now.ends g.ends.0 h.ends.0);
      bounds = (g.bounds.0 ++ h.bounds.0, h.bounds.1 ∙ ap (λ (t : List Bound). t ++ h.bounds.0) g.bounds.1 ∙ append_assoc now.bounds g.bounds.0 h.bounds.0);
      asked = (g.asked.0 ++ h.asked.0, h.asked.1 ∙ ap (λ (t : List NamedEntry). t ++ h.asked.0) g.asked.1 ∙ append_assoc now.asked g.asked.0 h.asked.0);
      conditions = (g.conditions.0 ++ h.conditions.0, h.conditions.1 ∙ ap (λ (t : List Condition). t ++ h.conditions.0) g.conditions.1 ∙ append_assoc now.conditions g.conditions.0 h.conditions.0);
      flows = ([], sym (ap (λ (t : List Flow). t ++ []) none));
    }

pub reads_kept : OneDeeds → (e : Entries) (ns : List Counted) (l : WrittenLoop) (p : Passage) (behind next : ℕ) (turns : List (List Flow)) (old now mid : MadeLists) → AreKept l.from l.by (length turns) behind next → behind ≡ next
    → now.flows ≡ [] → open_statements now ≡ [] → HasGrown now mid → IsMade (records_of e) mid
    → ReadsTurns e ns l p behind turns old now → AddsMade e (λ d many. PassageComesTo e (in_its_turn ns l behind) p d many) (λ many. FirstIn e (in_its_turn ns l behind) p many) now mid
    → ReadsTurns e ns l p (behind + 1) (turns ++ (closed mid).flows ∷ []) old (without_flows (closed mid))
reads_kept law e ns l p behind next turns old now mid kept here none marked grown made so a =
    let r = records_of e in
    let after = without_flows (closed mid) in
    let other : (k : ℕ) → k < length turns → (l.from + k * l.by ≡ behind) → ⊥ = λ k less e. omega (arith, kept_below l.from l.by (length turns) behind next k kept less, e) in
    let at : l.from + length turns * l.by ≡ behind = sym kept.at ∙ sym here in
    let f = changed so.comes behind a.deeds in
    let count = changed so.count behind a.many in
    record {
      comes = f;
      count = count;
      are = read_each e ns l p behind so.comes so.count a.deeds a.many a.are so.are;
      flows = λ on front.
          let stands : IsFrontOf (closed mid) on = front_closed (closed mid) on front in
          let before : IsFrontOf now on = front_back now after on (closed_after now mid none grown) front in
          let middle : IsFrontOf mid on = front_back mid (closed mid) on (closed_grown mid) stands in
          turns_more r on f l.by l.from turns (closed mid).flows
          (turns_same r on so.comes f l.by l.from turns (λ k less. sym (changed_elsewhere so.comes behind a.deeds (l.from + k * l.by) (other k less))) (so.flows on before))
          (closed_flows r mid made on stands)
          (closed_deeds r mid made on stands ∙ a.added on middle ∙ ap (λ (t : Deeds Test). joined_deeds t a.deeds) (nothing_open r now on none marked)
          ∙ sym (changed_there so.comes behind a.deeds (l.from + length turns * l.by) at));
      longer = omega (arith, closed_read mid, a.longer, so.longer, one_counted so.count l.from behind a.many kept.first);
      whole =
          let g = λ (i : ℕ). moves_of_deeds (f i) in
          let last : moves_of_deeds a.deeds ≡ g (l.from + length turns * l.by) =
          ap (λ (d : Deeds Test). moves_of_deeds d) (sym (changed_there so.comes behind a.deeds (l.from + length turns * l.by) at)) in
          let size : length (turns ++ (closed mid).flows ∷ []) ≡ suc (length turns) = long_more turns (closed mid).flows in
          ap (λ (ss : List StatementMoves). moves r ss) (closed_list mid) ∙ a.whole ∙ ap (λ (t : List Move). t ++ moves_of_deeds a.deeds) so.whole
          ∙ append_assoc (moves r old.list) (loop_turns (λ i. moves_of_deeds (so.comes i)) l.by (length turns) l.from) (moves_of_deeds a.deeds)
          ∙ ap (λ (t : List Move). moves r old.list ++ (t ++ moves_of_deeds a.deeds)) (moves_changed so.comes behind a.deeds l.by (length turns) l.from (λ k less. other k less))
          ∙ ap (λ (t : List Move). moves r old.list ++ (loop_turns g l.by (length turns) l.from ++ t)) last
          ∙ ap (λ (t : List Move). moves r old.list ++ t) (sym (turns_one_more g l.by (length turns) l.from))
          ∙ ap (λ (n : ℕ). moves r old.list ++ loop_turns g l.by n l.from) (sym size);
      fits = λ le. subst (λ (n : ℕ). n ≤ most_written_out) (sym (closed_read mid)) (a.fits (so.fits le));
      few = below_few_next law e ns l p behind old.read now.read so.comes so.count so.are so.longer so.fits a.few so.few;
    }

-- ---- why a loop to an item isn't read

pub first_refused : OneDeeds → DeedsBreakNoRule → (f : MoveFault) (e : Entries) (ns : List Counted) (l : WrittenLoop) (ws body : List Lexeme) (number : ℕ) (old : MadeLists) → AllMayBeNamed e → l.bound ≡ ToItem ws → number ≡ l.from
    → BreaksInSomeTurn f e (in_its_turn ns l number) body old.read → LoopRefused (why.Broken f) e ns l body old
first_refused law unbroken f e ns l ws body number old named bound first broken p is =
    let k : ((f.rule ≡ rule.Memory) → ⊥) × IsRefusedIn f e (in_its_turn ns l l.from) p × FewWith (λ many. FirstIn e (in_its_turn ns l l.from) p many) old.read =
    subst (λ (i : ℕ). ((f.rule ≡ rule.Memory) → ⊥) × IsRefusedIn f e (in_its_turn ns l i) p × FewWith (λ many. FirstIn e (in_its_turn ns l i) p many) old.read) first (broken p is) in (
      k.0,
      subst (λ (b : WrittenBound). IsLoopRefused f (nameable e) ns l b (λ i. IsRefusedIn f e (in_its_turn ns l i) p) (λ i. (d : Deeds Test) × (c : ℕ) × PassageComesTo e (in_its_turn ns l i) p d c)) (sym bound)
          (inr (inl k.1)),
      first_turn_few law unbroken f e ns l p ws old.read named k.0 bound k.1 k.2,
    )

pub later_refused : (n : NotRead) (e : Entries) (ns : List Counted) (l : WrittenLoop) (ws body : List Lexeme) (behind next : ℕ) (turns : List (List Flow)) (old now : MadeLists) → l.bound ≡ ToItem ws
    → AreKept l.from l.by (length turns) behind next → ((p : Passage) → IsPassage p body → ReadsTurns e ns l p behind turns old now) → behind ≤ l.from + longest_record
    → ((t : Past) × IsBoundOf (nameable e) (in_turn ns false 0 ws) t) → IsNotBroken n → TurnRefused n e (in_its_turn ns l behind) body now → LoopRefused n e ns l body old
later_refused why.Memory e ns l ws body behind next turns old now bound kept reads far item only refused p is = tt
later_refused (why.Broken f) e ns l ws body behind next turns old now bound kept reads far item only refused p is = absurd only
later_refused why.TooMany e ns l ws body behind next turns old now bound kept reads far item only refused p is =
    let (m, first, most) = refused p is in
    let so = reads p is in
    let begin = count_of_turns so.count 1 (behind - l.from) l.from in (
      begin + m,
      subst (λ (b : WrittenBound). ComeFirstInLoop (nameable e) ns l b (λ i c. (d : Deeds Test) × PassageComesTo e (in_its_turn ns l i) p d c) (λ i c. FirstIn e (in_its_turn ns l i) p c) (begin + m)) (sym bound) (
        item.0,
        behind,
        m,
        so.count,
        item.1,
        kept.first,
        far,
        λ j low less. (so.comes j, so.are j low less),
        first,
        refl,
      ),
      omega (arith, most, so.longer),
    )

pub never_refused : (f : MoveFault) (e : Entries) (ns : List Counted) (l : WrittenLoop) (ws body : List Lexeme) (behind : ℕ) (turns : List (List Flow)) (old now : MadeLists) → l.bound ≡ ToItem ws
    → f.rule ≡ rule.Counter → f.line ≡ l.line → l.from + longest_record < behind → ((p : Passage) → IsPassage p body → ReadsTurns e ns l p behind turns old now) → LoopRefused (why.Broken f) e ns l body old
never_refused f e ns l ws body behind turns old now bound same line far reads p is =
    let so = reads p is in (
      λ memory. let never : rule.Counter ≡ rule.Memory = sym same ∙ memory in cc,
      subst (λ (b : WrittenBound). IsLoopRefused f (nameable e) ns l b (λ i. IsRefusedIn f e (in_its_turn ns l i) p) (λ i. (d : Deeds Test) × (c : ℕ) × PassageComesTo e (in_its_turn ns l i) p d c)) (sym bound)
          (inr (inr (same, line, λ i low high. (so.comes i, so.count i, so.are i low (omega (arith, high, far)))))),
      far_few e ns l p ws behind old.read bound far so.few,
    )

pub bound_not_read : OneReference → OneNamed → NamedBreakNoRule → (n : NotRead) (e : Entries) (ns : List Counted) (l : WrittenLoop) (ws body : List Lexeme) (old : MadeLists) → l.bound ≡ ToItem ws
    → BoundNotRead n e l.line (in_turn ns false 0 ws) → LoopRefused n e ns l body old
bound_not_read one named none why.Memory e ns l ws body old bound refused p is = tt
bound_not_read one named none why.TooMany e ns l ws body old bound refused p is = absurd refused
bound_not_read one named none (why.Broken f) e ns l ws body old bound refused p is = (
  refused.0,
  subst (λ (b : WrittenBound). IsLoopRefused f (nameable e) ns l b (λ i. IsRefusedIn f e (in_its_turn ns l i) p) (λ i. (d : Deeds Test) × (c : ℕ) × PassageComesTo e (in_its_turn ns l i) p d c)) (sym bound)
      (inl (refused.2, refused.1)),
  bound_few one named none f.rule e ns l p ws old.read bound refused.2,
)

-- the mark that was put before the turns changes nothing of it
pub closed_refused : (n : NotRead) (e : Entries) (ns : List Counted) (l : WrittenLoop) (body : List Lexeme) (old : MadeLists) → LoopRefused n e ns l body (without_flows (closed old)) → LoopRefused n e ns l body old
closed_refused why.Memory e ns l body old refused p is = tt
closed_refused (why.Broken f) e ns l body old refused p is =
    let k = refused p is in
    (k.0, k.1, subst (λ (n : ℕ). FewWith (λ many. FirstInLoop e ns l p many) n) (closed_read old) k.2)
closed_refused why.TooMany e ns l body old refused p is =
    let (m, first, most) = refused p is in
    (m, first, subst (λ (n : ℕ). most_written_out < n + m) (closed_read old) most)

-- ---- a loop to an item

-- what is made with a loop to an item: its bound, and its flows behind those before
abbrev pub with_loop : (old now : MadeLists) → Bound → List Flow → MadeLists
with_loop old now b linked = record { list = now.list; ends = now.ends; bounds = now.bounds ++ b ∷ []; asked = now.asked; conditions = now.conditions; flows = (closed old).flows ++ linked; read = now.read }

slice_at : (bs more : List Bound) (b : Bound) → slice_get ((bs ++ b ∷ []) ++ more) (length bs) ≡ Some b
slice_at [] more b = refl
slice_at (c ∷ bs) more b = slice_at bs more b

-- the test of a bound is that of what its words name
abbrev pub past_of : Entries → NamedEntry → ℕ → Past
past_of e n most = record { number = 0; most = most; side = n.side; bound = operand_in (record_of (records_of e) n.side) n.entry }

pub record IsBoundFor (e : Entries) (n : NamedEntry) (greatest : ℕ) (b : Bound) : Type 0 where
  pub most : b.most ≡ greatest
  pub side : b.item.side ≡ n.side
  pub entry : b.item.entry ≡ n.entry
  pub placed : IsBound (records_of e) b

same_tests : (e : Entries) (n : NamedEntry) (most : ℕ) (b : Bound) → IsBoundFor e n most b → past_bound (records_of e) b ≡ with_number (past_of e n most)
same_tests e n most b is = λ j i. record {
  number = i;
  most = is.most j;
  side = is.side j;
  bound = operand_in (record_of (records_of e) (is.side j)) (is.entry j);
}

open_joined : (r : Records) (ss : List StatementMoves) (until : ℕ → Test) (f : ℕ → Deeds Test) (by n i : ℕ) → joined_deeds (open_deeds r ss) (turns_from until f by n i) ≡ both_deeds (open_deeds r ss) (turns_from until f by n i)
open_joined r [] until f by n i = refl
open_joined r (s ∷ ss) until f by n i = before_turns (moves r (s ∷ ss)) until f by n i

-- behind what is made, turns behind tests are joined as they are put behind it
turns_joined : (r : Records) (m : MadeLists) (on : FlowSupport) (until : ℕ → Test) (f : ℕ → Deeds Test) (by n i : ℕ) → AreParted (all_deeds r on m.flows)
    → joined_deeds (made_deeds r on m) (turns_from until f by n i) ≡ both_deeds (made_deeds r on m) (turns_from until f by n i)
turns_joined r m on until f by n i parted =
    let flows = all_deeds r on m.flows in
    let left = open_deeds r (open_statements m) in
    let turns = turns_from until f by n i in
    parted_joined flows left turns parted ∙ ap (λ (d : Deeds Test). both_deeds flows d) (open_joined r (open_statements m) until f by n i) ∙ sym (both_assoc flows left turns)

turns_all_parted : (r : Records) (m : MadeLists) (on : FlowSupport) (until : ℕ → Test) (f : ℕ → Deeds Test) (by n i : ℕ) → AreParted (all_deeds r on m.flows)
    → AreParted (both_deeds (made_deeds r on m) (turns_from until f by n i))
turns_all_parted r m on until f by n i parted =
    subst AreParted (sym (both_assoc (all_deeds r on m.flows) (open_deeds r (open_statements m)) (turns_from until f by n i)))
    (both_parted (all_deeds r on m.flows) (both_deeds (open_deeds r (open_statements m)) (turns_from until f by n i)) parted (open_parted (open_statements m)))
  where
    open_parted : (ss : List StatementMoves) → AreParted (both_deeds (open_deeds r ss) (turns_from until f by n i))
    open_parted [] = turns_parted until f by n i
    open_parted (s ∷ ss) = before_parted (moves r (s ∷ ss)) until f by n i

-- what is known of a loop to an item that was read
pub record IsLoopRead (e : Entries) (ns : List Counted) (l : WrittenLoop) (p : Passage) (n : NamedEntry) (behind : ℕ) (turns : List (List Flow)) (b : Bound) (old now : MadeLists) : Type 0 where
  pub made : IsMade (records_of e) old
  pub after : IsMade (records_of e) now
  pub grown : HasGrown (without_flows (closed old)) now
  pub none : now.flows ≡ []
  pub marked : open_statements now ≡ []
  pub bound : IsBoundFor e n (behind - 1) b
  pub reads : ReadsTurns e ns l p behind turns (without_flows (closed old)) now

loop_grown : (old now : MadeLists) (b : Bound) (linked : List Flow) → now.flows ≡ [] → HasGrown now (with_loop old now b linked)
loop_grown old now b linked none = record {
  list = ([], sym (append-nil now.list));
  ends = ([], sym (append-nil now.ends));
  bounds = (b ∷ [], refl);
  asked = ([], sym (append-nil now.asked));
  conditions = ([], sym (append-nil now.conditions));
  flows = ((closed old).flows ++ linked, sym (ap (λ (t : List Flow). t ++ ((closed old).flows ++ linked)) none));
}

pub all_grown : (old now : MadeLists) (b : Bound) (linked : List Flow) → HasGrown (without_flows (closed old)) now → HasGrown old (with_loop old now b linked)
all_grown old now b linked g =
    let h = closed_grown old in record {
      list = (h.list.0 ++ g.list.0, g.list.1 ∙ ap (λ (t : List StatementMoves). t ++ g.list.0) h.list.1 ∙ append_assoc old.list h.list.0 g.list.0);
      ends = (h.ends.0 ++ g.ends.0, g.ends.1 ∙ ap (λ (t : List ℕ). t ++ g.ends.0) h.ends.1 ∙ append_assoc old.ends h.ends.0 g.ends.0);
      bounds = (
        h.bounds.0 ++ (g.bounds.0 ++ b ∷ []),
        ap (λ (t : List Bound). t ++ b ∷ []) g.bounds.1 ∙ append_assoc (closed old).bounds g.bounds.0 (b ∷ []) ∙ ap (λ (t : List Bound). t ++ (g.bounds.0 ++ b ∷ [])) h.bounds.1
            ∙ append_assoc old.bounds h.bounds.0 (g.bounds.0 ++ b ∷ []),
      );
      asked = (h.asked.0 ++ g.asked.0, g.asked.1 ∙ ap (λ (t : List NamedEntry). t ++ g.asked.0) h.asked.1 ∙ append_assoc old.asked h.asked.0 g.asked.0);
      conditions = (h.conditions.0 ++ g.conditions.0, g.conditions.1 ∙ ap (λ (t : List Condition). t ++ g.conditions.0) h.conditions.1 ∙ append_assoc old.conditions h.conditions.0 g.conditions.0);
      flows = (h.flows.0 ++ linked, ap (λ (t : List Flow). t ++ linked) h.flows.1 ∙ append_assoc old.flows h.flows.0 linked);
    }

-- what the flows come to
pub record LoopStands (e : Entries) (l : WrittenLoop) (comes : ℕ → Deeds Test) (turns : List (List Flow)) (until : ℕ → Test) (old : MadeLists) (flows : List Flow) (on : FlowSupport) : Type 0 where
  pub parted : AreParted (all_deeds (records_of e) on old.flows)
  pub are : AreFlows on flows
  pub come : all_deeds (records_of e) on flows ≡ both_deeds (made_deeds (records_of e) on old) (turns_from until comes l.by (length turns) l.from)

loop_stands : (e : Entries) (ns : List Counted) (l : WrittenLoop) (p : Passage) (n : NamedEntry) (behind : ℕ) (turns : List (List Flow)) (b : Bound) (old now : MadeLists)
    → (so : IsLoopRead e ns l p n behind turns b old now) (on : FlowSupport) → IsFrontOf (with_loop old now b (linked_turns (length now.bounds) l.by l.from turns)) on
    → LoopStands e l so.reads.comes turns (λ j. Until (with_number (past_of e n (behind - 1)) j)) old ((closed old).flows ++ linked_turns (length now.bounds) l.by l.from turns) on
loop_stands e ns l p n behind turns b old now so on f =
    let r = records_of e in
    let linked = linked_turns (length now.bounds) l.by l.from turns in
    let new = with_loop old now b linked in
    let here : IsFrontOf now on = front_back now new on (loop_grown old now b linked so.none) f in
    let begin : IsFrontOf (closed old) on = front_closed (closed old) on (front_back (without_flows (closed old)) now on so.grown here) in
    let first : IsFrontOf old on = front_back old (closed old) on (closed_grown old) begin in
    let at : slice_get on.bounds (length now.bounds) ≡ Some b = ap (λ (bs : List Bound). slice_get bs (length now.bounds)) f.bounds.1 ∙ slice_at now.bounds f.bounds.0 b in
    let are : AreTurns r on so.reads.comes l.by l.from turns = so.reads.flows on here in
    let before : AreFlows on (closed old).flows = closed_flows r old so.made on begin in record {
      parted = so.made.parted on first;
      are = are_flows_behind on (closed old).flows linked before (linked_flows r on so.reads.comes (length now.bounds) l.by l.from b turns at are);
      come = both_flows r on (closed old).flows linked before (linked_flows r on so.reads.comes (length now.bounds) l.by l.from b turns at are)
          ∙ ap (λ (d : Deeds Test). both_deeds d (all_deeds r on linked)) (closed_deeds r old so.made on begin)
          ∙ ap (λ (d : Deeds Test). both_deeds (made_deeds r on old) d)
          (linked_deeds r on so.reads.comes (length now.bounds) l.by l.from b turns at are
          ∙ ap (λ (until : ℕ → Past). turns_from (λ j. Until (until j)) so.reads.comes l.by (length turns) l.from) (same_tests e n (behind - 1) b so.bound));
    }

all_behind : (P : Bound → Type 0) (bs : List Bound) (b : Bound) → AllByRecursion P bs → P b → AllByRecursion P (bs ++ b ∷ [])
all_behind P [] b are is = (is, tt)
all_behind P (c ∷ bs) b are is = (are.0, all_behind P bs b are.1 is)

pub loop_made : (e : Entries) (ns : List Counted) (l : WrittenLoop) (p : Passage) (n : NamedEntry) (behind : ℕ) (turns : List (List Flow)) (b : Bound) (old now : MadeLists)
    → IsLoopRead e ns l p n behind turns b old now → IsMade (records_of e) (with_loop old now b (linked_turns (length now.bounds) l.by l.from turns))
loop_made e ns l p n behind turns b old now so = record {
  moves = so.after.moves;
  ends = so.after.ends;
  behind = so.after.behind;
  bounds = all_behind (IsBound (records_of e)) now.bounds b so.after.bounds so.bound.placed;
  asked = so.after.asked;
  conditions = so.after.conditions;
  flows = λ on f. (loop_stands e ns l p n behind turns b old now so on f).are;
  parted = λ on f.
      let k = loop_stands e ns l p n behind turns b old now so on f in
      subst AreParted (sym k.come) (turns_all_parted (records_of e) old on (λ j. Until (with_number (past_of e n (behind - 1)) j)) so.reads.comes l.by (length turns) l.from k.parted);
  few = so.after.few;
}

pub loop_added : (e : Entries) (ns : List Counted) (l : WrittenLoop) (p : Passage) (n : NamedEntry) (ws : List Lexeme) (behind next : ℕ) (turns : List (List Flow)) (b : Bound) (old now : MadeLists) → l.bound ≡ ToItem ws
    → IsBoundRead e (in_turn ns false 0 ws) n → AreKept l.from l.by (length turns) behind next → l.from < behind → behind ≤ l.from + longest_record
    → ((d : Deeds Test) (c : ℕ) → PassageComesTo e (in_its_turn ns l behind) p d c → ⊥) → IsLoopRead e ns l p n behind turns b old now
    → FewWith (λ many. FirstIn e (in_its_turn ns l behind) p many) now.read → OneDeeds
    → AddsMade e (λ d many. LoopComesTo e ns l p d many) (λ many. FirstInLoop e ns l p many) old (with_loop old now b (linked_turns (length now.bounds) l.by l.from turns))
loop_added e ns l p n ws behind next turns b old now bound named kept first last none so few law =
    let r = records_of e in
    let t = past_of e n (behind - 1) in
    let many : turns_between l.from l.by (behind - 1) ≡ length turns = kept_turns l.from l.by (length turns) behind next kept first in
    let back : behind - 1 + 1 ≡ behind = omega (arith, first) in
    let deeds = turns_from (λ j. Until (with_number t j)) so.reads.comes l.by (length turns) l.from in
    let count = count_of_turns so.reads.count 1 (behind - l.from) l.from in record {
      deeds = deeds;
      many = count;
      are = (
        so.reads.comes,
        so.reads.count,
        subst (λ (k : WrittenBound). IsLoopOf (nameable e) ns l k (λ i d c. PassageComesTo e (in_its_turn ns l i) p d c) so.reads.comes so.reads.count deeds count) (sym bound) (
          t,
          record { reference = named.reference; spelled = named.spelled; named = named.named; item = named.item },
          omega (arith, first),
          omega (arith, first, last),
          λ i low high. so.reads.are i low (omega (arith, high, first)),
          λ d c is. none d c (subst (λ (i : ℕ). PassageComesTo e (in_its_turn ns l i) p d c) back is),
          ap (λ (k : ℕ). turns_from (λ j. Until (with_number t j)) so.reads.comes l.by k l.from) (sym many),
          ap (λ (k : ℕ). count_of_turns so.reads.count 1 (k - l.from) l.from) (sym back),
        ),
      );
      added = λ on f.
          let k = loop_stands e ns l p n behind turns b old now so on f in
          let new = with_loop old now b (linked_turns (length now.bounds) l.by l.from turns) in
          ap (λ (ss : List StatementMoves). both_deeds (all_deeds r on new.flows) (open_deeds r ss)) so.marked ∙ both_nothing (all_deeds r on new.flows) ∙ k.come
          ∙ sym (turns_joined r old on (λ j. Until (with_number t j)) so.reads.comes l.by (length turns) l.from k.parted);
      longer = omega (arith, so.reads.longer, closed_read old);
      whole = so.reads.whole ∙ ap (λ (ss : List StatementMoves). moves r ss ++ loop_turns (λ i. moves_of_deeds (so.reads.comes i)) l.by (length turns) l.from) (closed_list old)
          ∙ ap (λ (t : List Move). moves r old.list ++ t) (sym (moves_of_tested (λ j. Until (with_number t j)) so.reads.comes l.by (length turns) l.from));
      straight = λ is. absurd (tested_not_straight (λ j. Until (with_number t j)) so.reads.comes l.by (length turns) l.from is);
      fits = λ le. so.reads.fits (subst (λ (n : ℕ). n ≤ most_written_out) (sym (closed_read old)) le);
      few = subst (λ (n : ℕ). FewWith (λ many. FirstInLoop e ns l p many) n) (closed_read old)
          (item_few e ns l p ws behind (closed old).read bound (omega (arith, first)) none
          (below_few_next law e ns l p behind (closed old).read now.read so.reads.comes so.reads.count so.reads.are so.reads.longer so.reads.fits few so.reads.few));
    }

-- a turn that breaks a rule comes to nothing
pub no_turn_comes : DeedsBreakNoRule → (e : Entries) (ns : List Counted) (p : Passage) (body : List Lexeme) → AllMayBeNamed e → (before : ℕ) → HasNoTurn e ns body before → IsPassage p body → (d : Deeds Test) (c : ℕ) → PassageComesTo e ns p d c → ⊥
no_turn_comes law e ns p body named before (f, broken) is d c comes =
    let k = broken p is in
    k.0 (law (valued_in e) f e.input.now e.output.now ns p d c (subst (λ (all : List Candidate). AreDeeds (valued_in e) all e.input.now e.output.now ns p d c) named comes)
    (subst (λ (all : List Candidate). IsTurnRefused (valued_in e) f all e.input.now e.output.now ns p) named k.1))

-- ---- what the reader of a loop to an item answers

-- what is known of it, whatever passage its statements are
pub record HasReadLoop (e : Entries) (ns : List Counted) (l : WrittenLoop) (body : List Lexeme) (n : NamedEntry) (behind : ℕ) (turns : List (List Flow)) (b : Bound) (old now : MadeLists) : Type 0 where
  pub made : IsMade (records_of e) old
  pub after : IsMade (records_of e) now
  pub grown : HasGrown (without_flows (closed old)) now
  pub none : now.flows ≡ []
  pub marked : open_statements now ≡ []
  pub bound : IsBoundFor e n (behind - 1) b
  pub reads : (p : Passage) → IsPassage p body → ReadsTurns e ns l p behind turns (without_flows (closed old)) now

loop_read : (e : Entries) (ns : List Counted) (l : WrittenLoop) (body : List Lexeme) (n : NamedEntry) (behind : ℕ) (turns : List (List Flow)) (b : Bound) (old now : MadeLists) → HasReadLoop e ns l body n behind turns b old now
    → (p : Passage) → IsPassage p body → IsLoopRead e ns l p n behind turns b old now
loop_read e ns l body n behind turns b old now so p is = record {
  made = so.made;
  after = so.after;
  grown = so.grown;
  none = so.none;
  marked = so.marked;
  bound = so.bound;
  reads = so.reads p is;
}

pub tested_added : (e : Entries) (ns : List Counted) (l : WrittenLoop) (ws body : List Lexeme) (n : NamedEntry) (behind next : ℕ) (turns : List (List Flow)) (b : Bound) (old now new : MadeLists) → l.bound ≡ ToItem ws
    → IsBoundRead e (in_turn ns false 0 ws) n → AreKept l.from l.by (length turns) behind next → l.from < behind → behind ≤ l.from + longest_record
    → ((p : Passage) → IsPassage p body → (d : Deeds Test) (c : ℕ) → PassageComesTo e (in_its_turn ns l behind) p d c → ⊥) → HasReadLoop e ns l body n behind turns b old now
    → HasNoTurn e (in_its_turn ns l behind) body now.read → OneDeeds → new ≡ with_loop old now b (linked_turns (length now.bounds) l.by l.from turns) → AddsLoop e ns l body old new
tested_added e ns l ws body n behind next turns b old now new bound named kept first last none so (f, broken) law same p is =
    subst (λ (m : MadeLists). AddsMade e (λ d many. LoopComesTo e ns l p d many) (λ many. FirstInLoop e ns l p many) old m) (sym same)
    (loop_added e ns l p n ws behind next turns b old now bound named kept first last (none p is) (loop_read e ns l body n behind turns b old now so p is) (broken p is).2 law)

pub tested_made : (e : Entries) (ns : List Counted) (l : WrittenLoop) (body : List Lexeme) (n : NamedEntry) (behind : ℕ) (turns : List (List Flow)) (b : Bound) (old now new : MadeLists) → HasBounds body
    → HasReadLoop e ns l body n behind turns b old now → new ≡ with_loop old now b (linked_turns (length now.bounds) l.by l.from turns) → IsMade (records_of e) new
tested_made e ns l body n behind turns b old now new (p, is, bounded) so same =
    subst (λ (m : MadeLists). IsMade (records_of e) m) (sym same) (loop_made e ns l p n behind turns b old now (loop_read e ns l body n behind turns b old now so p is))

pub tested_grown : (old now new : MadeLists) (b : Bound) (linked : List Flow) → HasGrown (without_flows (closed old)) now → new ≡ with_loop old now b linked → HasGrown old new
tested_grown old now new b linked g same = subst (λ (m : MadeLists). HasGrown old m) (sym same) (all_grown old now b linked g)

-- where a turn of it breaks a rule, what was made before it stands in front
left_closed : (n : NotRead) (old now : MadeLists) → LeavesFront n (without_flows (closed old)) now → LeavesFront n old (record { list = now.list; ends = now.ends; bounds = now.bounds; asked = now.asked; conditions = now.conditions; flows = (closed old).flows; read = now.read })
left_closed why.Memory old now left = tt
left_closed why.TooMany old now left = tt
left_closed (why.Broken f) old now g =
    let h = closed_grown old in record {
      list = (h.list.0 ++ g.list.0, g.list.1 ∙ ap (λ (t : List StatementMoves). t ++ g.list.0) h.list.1 ∙ append_assoc old.list h.list.0 g.list.0);
      ends = (h.ends.0 ++ g.ends.0, g.ends.1 ∙ ap (λ (t : List ℕ). t ++ g.ends.0) h.ends.1 ∙ append_assoc old.ends h.ends.0 g.ends.0);
      bounds = (h.bounds.0 ++ g.bounds.0, g.bounds.1 ∙ ap (λ (t : List Bound). t ++ g.bounds.0) h.bounds.1 ∙ append_assoc old.bounds h.bounds.0 g.bounds.0);
      asked = (h.asked.0 ++ g.asked.0, g.asked.1 ∙ ap (λ (t : List NamedEntry). t ++ g.asked.0) h.asked.1 ∙ append_assoc old.asked h.asked.0 g.asked.0);
      conditions = (h.conditions.0 ++ g.conditions.0, g.conditions.1 ∙ ap (λ (t : List Condition). t ++ g.conditions.0) h.conditions.1 ∙ append_assoc old.conditions h.conditions.0 g.conditions.0);
      flows = h.flows;
    }

pub loop_left : (n : NotRead) (old now : MadeLists) (fs : List Flow) → fs ≡ (closed old).flows → LeavesFront n (without_flows (closed old)) now → LeavesFront n old (record { list = now.list; ends = now.ends; bounds = now.bounds; asked = now.asked; conditions = now.conditions; flows = fs; read = now.read })
loop_left n old now fs same left = subst (λ (t : List Flow). LeavesFront n old (record { list = now.list; ends = now.ends; bounds = now.bounds; asked = now.asked; conditions = now.conditions; flows = t; read = now.read })) (sym same) (left_closed n old now left)

-- with no flows, it is the same without them
pub emptied : (m : MadeLists) (fs : List Flow) → fs ≡ [] → record { list = m.list; ends = m.ends; bounds = m.bounds; asked = m.asked; conditions = m.conditions; flows = fs; read = m.read } ≡ without_flows m
emptied m fs none = λ i. record { list = m.list; ends = m.ends; bounds = m.bounds; asked = m.asked; conditions = m.conditions; flows = none i; read = m.read }

-- what is made with a loop, by its parts
pub loop_same : (old now : MadeLists) (b : Bound) (bounds : List Bound) (flows outside linked : List Flow) → bounds ≡ now.bounds ++ b ∷ [] → flows ≡ outside ++ linked → outside ≡ (closed old).flows
    → record { list = now.list; ends = now.ends; bounds = bounds; asked = now.asked; conditions = now.conditions; flows = flows; read = now.read } ≡ with_loop old now b linked
loop_same old now b bounds flows outside linked more behind same =
    let all : flows ≡ (closed old).flows ++ linked = behind ∙ ap (λ (t : List Flow). t ++ linked) same in
    λ i. record { list = now.list; ends = now.ends; bounds = more i; asked = now.asked; conditions = now.conditions; flows = all i; read = now.read }

-- the bound that words name, placed
pub bound_for : (e : Entries) (ws : List Lexeme) (n : NamedEntry) (most : ℕ) (item : PlacedEntry) → item.side ≡ n.side → item.entry ≡ n.entry → IsPlacedEntry (records_of e) item → IsBoundRead e ws n
    → IsBoundFor e n most (record { most = most; item = item })
bound_for e ws n most item side entry placed read = record {
  most = refl;
  side = side;
  entry = entry;
  placed = record {
    placed = placed;
    item = (
      read.item.0,
      subst (λ (s : Side). IsBoundItem (operand_in (record_of (records_of e) s) item.entry).kind read.item.0) (sym side)
          (subst (λ (r : Ref). IsBoundItem (operand_in (record_of (records_of e) n.side) r).kind read.item.0) (sym entry) read.item.1),
    );
  };
}

-- ---- turns that are tried one behind another

-- what is known of the turns below a number, whatever passage the statements of the loop are
pub record HasTried (e : Entries) (ns : List Counted) (l : WrittenLoop) (body : List Lexeme) (behind next : ℕ) (turns : List (List Flow)) (old now : MadeLists) : Type 0 where
  pub kept : AreKept l.from l.by (length turns) behind next
  pub reads : (p : Passage) → IsPassage p body → ReadsTurns e ns l p behind turns old now
  pub none : now.flows ≡ []
  pub marked : open_statements now ≡ []
  pub made : IsMade (records_of e) now
  pub grown : HasGrown old now

pub tried_first : (e : Entries) (ns : List Counted) (l : WrittenLoop) (body : List Lexeme) (behind next : ℕ) (turns : List (List Flow)) (m : MadeLists) → behind ≡ l.from → next ≡ l.from → turns ≡ [] → m.flows ≡ []
    → open_statements m ≡ [] → IsMade (records_of e) m → HasTried e ns l body behind next turns m m
tried_first e ns l body behind next turns m first same none flows marked made = record {
  kept = kept_first l.from l.by (length turns) behind next (ap length none) first same;
  reads = λ p is. reads_first e ns l p behind turns m first none;
  none = flows;
  marked = marked;
  made = made;
  grown = grown_none m;
}

tried_kept : OneDeeds → (e : Entries) (ns : List Counted) (l : WrittenLoop) (body : List Lexeme) (behind next : ℕ) (turns : List (List Flow)) (old now mid : MadeLists) → 0 < l.by → HasTried e ns l body behind next turns old now
    → IsMade (records_of e) mid → HasGrown now mid → AddsDeeds e (in_its_turn ns l behind) body now mid → behind ≡ next
    → HasTried e ns l body (behind + 1) (next + l.by) (turns ++ (closed mid).flows ∷ []) old (without_flows (closed mid))
tried_kept law e ns l body behind next turns old now mid some t made grown adds here = record {
  kept = subst (λ (n : ℕ). AreKept l.from l.by n (behind + 1) (next + l.by)) (omega (arith, length-append turns ((closed mid).flows ∷ []))) (kept_more l.from l.by (length turns) behind next some t.kept here);
  reads = λ p is. reads_kept law e ns l p behind next turns old now mid t.kept here t.none t.marked grown made (t.reads p is) (adds p is);
  none = refl;
  marked = closed_open mid;
  made = closed_made (records_of e) mid made;
  grown = grown_both old now (without_flows (closed mid)) t.grown (closed_after now mid t.none grown);
}

tried_passed : OneDeeds → (e : Entries) (ns : List Counted) (l : WrittenLoop) (body : List Lexeme) (behind next : ℕ) (turns : List (List Flow)) (old now mid : MadeLists) → HasTried e ns l body behind next turns old now
    → IsMade (records_of e) mid → AddsDeeds e (in_its_turn ns l behind) body now mid → (behind ≡ next → ⊥) → HasTried e ns l body (behind + 1) next turns old (with_read now mid.read)
tried_passed law e ns l body behind next turns old now mid t made adds other = record {
  kept = kept_same l.from l.by (length turns) behind next t.kept other;
  reads = λ p is. reads_passed law e ns l p behind next turns old now mid t.kept (t.reads p is) (adds p is);
  none = t.none;
  marked = t.marked;
  made = read_made (records_of e) now mid.read made.few t.made;
  grown = read_grown old now mid.read t.grown;
}

tried_as : (e : Entries) (ns : List Counted) (l : WrittenLoop) (body : List Lexeme) (behind next then_next : ℕ) (turns then_turns : List (List Flow)) (old now after : MadeLists) → then_next ≡ next → after ≡ now → then_turns ≡ turns
    → HasTried e ns l body behind next turns old now → HasTried e ns l body behind then_next then_turns old after
tried_as e ns l body behind next then_next turns then_turns old now after p q r t =
    subst (λ (n : ℕ). HasTried e ns l body behind n then_turns old after) (sym p)
    (subst (λ (m : MadeLists). HasTried e ns l body behind next then_turns old m) (sym q) (subst (λ (ts : List (List Flow)). HasTried e ns l body behind next ts old now) (sym r) t))

-- what keep_turn leaves
pub record IsTurnKept (l : WrittenLoop) (behind next then_next : ℕ) (turns then_turns : List (List Flow)) (size : Sizes) (mid after : MadeLists) : Type 0 where
  pub kept : behind ≡ next → (then_next ≡ next + l.by) × (after ≡ without_flows (closed mid)) × (then_turns ≡ turns ++ (closed mid).flows ∷ [])
  pub passed : (behind ≡ next → ⊥) → (then_next ≡ next) × (after ≡ taken_back size mid) × (then_turns ≡ turns)

tried_where : OneDeeds → (b : Bool) (e : Entries) (ns : List Counted) (l : WrittenLoop) (body : List Lexeme) (behind next then_next : ℕ) (turns then_turns : List (List Flow)) (size : Sizes) (old now mid after : MadeLists) → b ≡ nat_eq behind next → 0 < l.by
    → HasTried e ns l body behind next turns old now → IsSizeOf now size → IsMade (records_of e) mid → HasGrown now mid → AddsDeeds e (in_its_turn ns l behind) body now mid
    → IsTurnKept l behind next then_next turns then_turns size mid after → HasTried e ns l body (behind + 1) then_next then_turns old after
tried_where law true e ns l body behind next then_next turns then_turns size old now mid after same some t sized made grown adds k =
    let here : behind ≡ next = equal_is behind next (sym same) in
    let is = k.kept here in
    tried_as e ns l body (behind + 1) (next + l.by) then_next (turns ++ (closed mid).flows ∷ []) then_turns old (without_flows (closed mid)) after is.0 is.1 is.2 (tried_kept law e ns l body behind next turns old now mid some t made grown adds here)
tried_where law false e ns l body behind next then_next turns then_turns size old now mid after same some t sized made grown adds k =
    let other : (behind ≡ next) → ⊥ = equal_not behind next (sym same) in
    let is = k.passed other in
    tried_as e ns l body (behind + 1) next then_next turns then_turns old (with_read now mid.read) after is.0 (is.1 ∙ back_again size now mid sized grown) is.2 (tried_passed law e ns l body behind next turns old now mid t made adds other)

pub tried_more : OneDeeds → (e : Entries) (ns : List Counted) (l : WrittenLoop) (body : List Lexeme) (behind next then_next : ℕ) (turns then_turns : List (List Flow)) (size : Sizes) (old now mid after : MadeLists) → 0 < l.by
    → HasTried e ns l body behind next turns old now → IsSizeOf now size → IsMade (records_of e) mid → HasGrown now mid → AddsDeeds e (in_its_turn ns l behind) body now mid
    → IsTurnKept l behind next then_next turns then_turns size mid after → HasTried e ns l body (behind + 1) then_next then_turns old after
tried_more law e ns l body behind next then_next turns then_turns size old now mid after some t sized made grown adds k =
    tried_where law (nat_eq behind next) e ns l body behind next then_next turns then_turns size old now mid after refl some t sized made grown adds k

-- the same by what the reader of a turn and what keeps it say
pub tried_step : OneDeeds → (e : Entries) (ns : List Counted) (l : WrittenLoop) (body : List Lexeme) (step number next then_next : ℕ) (turns then_turns : List (List Flow)) (size : Sizes) (old now mid after : MadeLists) → 0 < l.by → number ≡ l.from + step
    → HasTried e ns l body (l.from + step) next turns old now → IsSizeOf now size → IsMade (records_of e) mid → HasGrown now mid → AddsDeeds e (in_its_turn ns l number) body now mid
    → (number ≡ next → (then_next ≡ next + l.by) × (after ≡ without_flows (closed mid)) × (then_turns ≡ turns ++ (closed mid).flows ∷ []))
    → ((number ≡ next → ⊥) → (then_next ≡ next) × (after ≡ taken_back size mid) × (then_turns ≡ turns)) → HasTried e ns l body (l.from + (step + 1)) then_next then_turns old after
tried_step law e ns l body step number next then_next turns then_turns size old now mid after some at t sized made grown adds kept passed =
    subst (λ (i : ℕ). HasTried e ns l body i then_next then_turns old after) (omega arith)
    (tried_more law e ns l body (l.from + step) next then_next turns then_turns size old now mid after some t sized made grown (subst (λ (i : ℕ). AddsDeeds e (in_its_turn ns l i) body now mid) at adds)
    (record { kept = λ here. kept (at ∙ here); passed = λ other. passed (λ here. other (sym at ∙ here)) }))

-- a loop to an item whose first turn breaks a rule
pub broken_left : (f : MoveFault) (e : Entries) (ns : List Counted) (l : WrittenLoop) (body : List Lexeme) (behind next : ℕ) (turns : List (List Flow)) (old now new : MadeLists) → HasTried e ns l body behind next turns old now → new ≡ now → LeavesFront (why.Broken f) old new
broken_left f e ns l body behind next turns old now new t same = subst (λ (m : MadeLists). HasGrown old m) (sym same) t.grown

-- the same at a number, wherever what was made lies
pub tried_now : (e : Entries) (ns : List Counted) (l : WrittenLoop) (body : List Lexeme) (behind number next : ℕ) (turns : List (List Flow)) (old now new : MadeLists) → number ≡ behind → new ≡ now → HasTried e ns l body behind next turns old now
    → HasTried e ns l body number next turns old new
tried_now e ns l body behind number next turns old now new at same t =
    subst (λ (i : ℕ). HasTried e ns l body i next turns old new) (sym at) (subst (λ (m : MadeLists). HasTried e ns l body behind next turns old m) (sym same) t)

-- so a first turn that breaks a rule does so behind what was made before the loop
pub breaks_first : (f : MoveFault) (e : Entries) (ns inner : List Counted) (l : WrittenLoop) (body : List Lexeme) (behind next : ℕ) (turns : List (List Flow)) (old now : MadeLists) → HasTried e ns l body behind next turns old now → behind ≡ l.from
    → BreaksInSomeTurn f e inner body now.read → BreaksInSomeTurn f e inner body old.read
breaks_first f e ns inner l body behind next turns old now t same broken p is =
    let r = t.reads p is in
    let size : now.read ≡ old.read = omega (arith, r.longer, none_before r.count l.from behind same) in
    let k = broken p is in
    (k.0, k.1, subst (λ (n : ℕ). FewWith (λ many. FirstIn e inner p many) n) size k.2)

-- behind a turn that was taken back the same is made
pub breaks_same : (f : MoveFault) (e : Entries) (inner : List Counted) (body : List Lexeme) (now new : MadeLists) → new ≡ now → BreaksInSomeTurn f e inner body now.read → HasNoTurn e inner body new.read
breaks_same f e inner body now new same broken = (f, subst (λ (m : MadeLists). BreaksInSomeTurn f e inner body m.read) (sym same) broken)
