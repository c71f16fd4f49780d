-- Receivers of what is done that met the item of a count, one thing behind another.
use Rattle.std.proofs.Common.{◌≡◌, ◌⊎◌, ℕ, zero, suc, ◌+◌, ◌<◌, ◌≤◌, Bool, false, List, [], ◌∷◌, ◌++◌, nat_lt, refl, sym, ap, subst, arith, inl, inr, Ok}
use Rattle.cob_copybook_tree.specs.Forests.{Forest}
use Rattle.cob_copybook_tree.specs.Nodes.{Resolved}
use Rattle.cob_move_data.specs.declared.operands.Operand.{Operand}
use Rattle.cob_move_data.specs.Moves.{Move, Records}
use Rattle.cob_move_apply.specs.Applied.{AllGet, Applied, Content, Ending, OneEnding, done}
use Rattle.cob_move_apply.specs.Met.{HaveMet, ReceiversMet}
use Rattle.cob_move_apply.proofs.MetLemmas.{none_met}
use Rattle.cob_move_apply.proofs.OneLemmas.{stop_of}
use Rattle.cob_move_loops.specs.Turns.{turns}
use Rattle.cob_move_deeds.specs.Deeds.{Carried, Choice, Deeds, Moving, Nothing, both_deeds}
use Rattle.cob_move_deeds.specs.Laws.{TestLaws}
use Rattle.cob_move_deeds.specs.Met.{DeedsHaveMet, MetThen}
use Rattle.cob_move_deeds.specs.Tests.{Judged, Test}
use Rattle.cob_move_deeds.specs.Turns.{number_after, turns_from}
use Rattle.cob_move_deeds.proofs.DeedLemmas.{one_carried, says_not}
use Rattle.cob_move_deeds.proofs.TestLemmas.{determined}
use Rattle.cob_move_deeds.proofs.TurnLemmas.{before_last, past_not}

pub plain : (n : ℕ) → n ≡ 0 + n
plain n = omega arith

-- ---- moves behind moves

-- receivers, and what is behind them
received_apart : (t : Forest Resolved) (content : Content) (os : List Operand) (before : List ℕ) (n : ℕ) (others front behind : List ℕ → ℕ → Type 0) (goes : List ℕ → List ℕ → Type 0)
    → ((b : List ℕ) (k : ℕ) → others b k → MetThen (front b) (goes b) behind k) → ReceiversMet t content os before n others
    → MetThen (λ k. ReceiversMet t content os before k front) (λ after. (mid : List ℕ) × AllGet t content os before (done mid) × goes mid after) behind n
received_apart t content [] before n others front behind goes so h =
    elim (so before n h) [
      | inl x ↦ inl x
      | inr (after, own, rest, sum, go, x, y) ↦ inr (after, own, rest, sum, (before, refl, go), x, y)
    ]
received_apart t content (o ∷ os) before n others front behind goes so (inl none) = inl (inl none)
received_apart t content (o ∷ os) before n others front behind goes so (inr (after, own, rest, sum, gets, met, more)) =
    elim (received_apart t content os after rest others front behind goes so more) [
      | inl x ↦ inl (inr (after, own, rest, sum, gets, met, x))
      | inr (last, a, b, parts, (mid, get, go), x, y) ↦ inr (last, own + a, b, omega (arith, sum, parts), (mid, inl (after, gets, get), go), inr (after, own, a, refl, gets, met, x), y)
    ]

pub moves_met : (r : Records) (ms ns : List Move) (input before : List ℕ) (n : ℕ) → HaveMet r (ms ++ ns) input before n
    → MetThen (λ k. HaveMet r ms input before k) (λ after. Applied r ms input before (done after)) (λ after k. HaveMet r ns input after k) n
moves_met r [] ns input before n h = inr (before, 0, n, plain n, refl, refl, h)
moves_met r (m ∷ ms) ns input before n (inl none) = inl (inl none)
moves_met r (m ∷ ms) ns input before n (inr (content, gives, met)) =
    elim (received_apart r.output content m.receivers before n (λ b k. HaveMet r (ms ++ ns) input b k) (λ b k. HaveMet r ms input b k) (λ b k. HaveMet r ns input b k) (λ b after. Applied r ms input b (done after))
    (λ b k h. moves_met r ms ns input b k h) met) [
      | inl x ↦ inl (inr (content, gives, x))
      | inr (last, a, b, sum, (mid, get, go), x, y) ↦ inr (last, a, b, sum, inl (mid, inl (content, gives, get), go), inr (content, gives, x), y)
    ]

-- ---- what is done behind what is done

pub none_done : (r : Records) (d : Deeds Test) (input before : List ℕ) → DeedsHaveMet r d input before 0
none_done r Nothing input before = refl
none_done r (Moving ms more) input before = inl (none_met r ms input before)
none_done r (Choice t holding lacking more) input before = inl refl

-- what met in front, whatever is behind
pub front_met : (r : Records) (d next : Deeds Test) (input before : List ℕ) (n : ℕ) → DeedsHaveMet r d input before n → DeedsHaveMet r (both_deeds d next) input before n
front_met r Nothing next input before n none = subst (λ (k : ℕ). DeedsHaveMet r next input before k) (sym none) (none_done r next input before)
front_met r (Moving ms more) next input before n (inl front) = inl front
front_met r (Moving ms more) next input before n (inr (after, own, rest, sum, go, x, y)) = inr (after, own, rest, sum, go, x, front_met r more next input after rest y)
front_met r (Choice t holding lacking more) next input before n (inl none) = inl none
front_met r (Choice t holding lacking more) next input before n (inr (inl (is, inl front))) = inr (inl (is, inl front))
front_met r (Choice t holding lacking more) next input before n (inr (inl (is, inr (after, own, rest, sum, go, x, y)))) =
    inr (inl (is, inr (after, own, rest, sum, go, x, front_met r more next input after rest y)))
front_met r (Choice t holding lacking more) next input before n (inr (inr (is, inl front))) = inr (inr (is, inl front))
front_met r (Choice t holding lacking more) next input before n (inr (inr (is, inr (after, own, rest, sum, go, x, y)))) =
    inr (inr (is, inr (after, own, rest, sum, go, x, front_met r more next input after rest y)))

-- what meets behind what was done, whether receivers of that met or not
pub past_deeds : (r : Records) (d next : Deeds Test) (input before after : List ℕ) (n : ℕ) → Carried (Judged r) r d input before (done after) → DeedsHaveMet r next input after n
    → DeedsHaveMet r (both_deeds d next) input before n
past_deeds r Nothing next input before after n e h = subst (λ (b : List ℕ). DeedsHaveMet r next input b n) (ap (λ (k : Ending). k.storage) e) h
past_deeds r (Moving ms more) next input before after n (inl (mid, go, x)) h = inr (mid, 0, n, plain n, go, none_met r ms input before, past_deeds r more next input mid after n x h)
past_deeds r (Moving ms more) next input before after n (inr (stop, mid, go, e)) h = absurd (stop_of after mid stop e)
past_deeds r (Choice t holding lacking more) next input before after n (inl (is, inl (mid, x, y))) h =
    inr (inl (is, inr (mid, 0, n, plain n, x, none_done r holding input before, past_deeds r more next input mid after n y h)))
past_deeds r (Choice t holding lacking more) next input before after n (inl (is, inr (stop, mid, x, e))) h = absurd (stop_of after mid stop e)
past_deeds r (Choice t holding lacking more) next input before after n (inr (inl (is, inl (mid, x, y)))) h =
    inr (inr (is, inr (mid, 0, n, plain n, x, none_done r lacking input before, past_deeds r more next input mid after n y h)))
past_deeds r (Choice t holding lacking more) next input before after n (inr (inl (is, inr (stop, mid, x, e)))) h = absurd (stop_of after mid stop e)
past_deeds r (Choice t holding lacking more) next input before after n (inr (inr (stop, is, e))) h = absurd (stop_of after before stop e)

more_in : (n a b rest : ℕ) → n ≡ a + b → n + rest ≡ a + (b + rest)
more_in n a b rest sum = omega (arith, sum)

-- receivers of moves, or of a branch, and then of what is behind
branch_met : (r : Records) (front : ℕ → Type 0) (goes : List ℕ → Type 0) (more next : Deeds Test) (input mid after : List ℕ) (own rest : ℕ) → ((s : List ℕ) → goes s → s ≡ mid) → goes mid
    → Carried (Judged r) r more input mid (done after) → ((a b : ℕ) → DeedsHaveMet r more input mid b → DeedsHaveMet r (both_deeds more next) input mid (b + rest)) → DeedsHaveMet r next input after rest
    → MetThen front goes (λ s k. DeedsHaveMet r more input s k) own → MetThen front goes (λ s k. DeedsHaveMet r (both_deeds more next) input s k) (own + rest)
branch_met r front goes more next input mid after own rest one go x so h (inl met) = inr (mid, own, rest, refl, go, met, past_deeds r more next input mid after rest x h)
branch_met r front goes more next input mid after own rest one go x so h (inr (s, a, b, sum, gone, met, y)) =
    let same : s ≡ mid = one s gone in
    inr (mid, a, b + rest, more_in own a b rest sum, go, met, so a b (subst (λ (z : List ℕ). DeedsHaveMet r more input z b) same y))

pub both_met : TestLaws → OneEnding → (r : Records) (d next : Deeds Test) (input before after : List ℕ) (own rest : ℕ) → Carried (Judged r) r d input before (done after) → DeedsHaveMet r d input before own
    → DeedsHaveMet r next input after rest → DeedsHaveMet r (both_deeds d next) input before (own + rest)
both_met law one r Nothing next input before after own rest e none h =
    let sum : rest ≡ own + rest = omega (arith, none) in
    subst (λ (k : ℕ). DeedsHaveMet r next input before k) sum (subst (λ (b : List ℕ). DeedsHaveMet r next input b rest) (ap (λ (k : Ending). k.storage) e) h)
both_met law one r (Moving ms more) next input before after own rest (inr (stop, mid, go, e)) met h = absurd (stop_of after mid stop e)
both_met law one r (Moving ms more) next input before after own rest (inl (mid, go, x)) met h =
    branch_met r (λ k. HaveMet r ms input before k) (λ s. Applied r ms input before (done s)) more next input mid after own rest
    (λ s gone. ap (λ (k : Ending). k.storage) (one r ms input before (done s) (done mid) gone go)) go x (λ a b y. both_met law one r more next input mid after b rest x y h) h met
both_met law one r (Choice t holding lacking more) next input before after own rest x (inl none) h =
    let sum : rest ≡ own + rest = omega (arith, none) in
    subst (λ (k : ℕ). DeedsHaveMet r (both_deeds (Choice t holding lacking more) next) input before k) sum (past_deeds r (Choice t holding lacking more) next input before after rest x h)
both_met law one r (Choice t holding lacking more) next input before after own rest (inl (is, inl (mid, go, x))) (inr (inl (same, met))) h =
    inr (inl (
      is,
      branch_met r (λ k. DeedsHaveMet r holding input before k) (λ s. Carried (Judged r) r holding input before (done s)) more next input mid after own rest
          (λ s gone. ap (λ (k : Ending). k.storage) (one_carried (Judged r) r holding input before (done s) (done mid) (determined law r) one gone go)) go x
          (λ a b y. both_met law one r more next input mid after b rest x y h) h met,
    ))
both_met law one r (Choice t holding lacking more) next input before after own rest (inl (is, inr (stop, mid, go, e))) (inr (inl (same, met))) h = absurd (stop_of after mid stop e)
both_met law one r (Choice t holding lacking more) next input before after own rest (inr (inl (is, x))) (inr (inl (same, met))) h = absurd (says_not (Judged r) t input before (determined law r) same is)
both_met law one r (Choice t holding lacking more) next input before after own rest (inr (inr (stop, is, e))) (inr (inl (same, met))) h = absurd (stop_of after before stop e)
both_met law one r (Choice t holding lacking more) next input before after own rest (inl (is, x)) (inr (inr (same, met))) h = absurd (says_not (Judged r) t input before (determined law r) is same)
both_met law one r (Choice t holding lacking more) next input before after own rest (inr (inl (is, inl (mid, go, x)))) (inr (inr (same, met))) h =
    inr (inr (
      is,
      branch_met r (λ k. DeedsHaveMet r lacking input before k) (λ s. Carried (Judged r) r lacking input before (done s)) more next input mid after own rest
          (λ s gone. ap (λ (k : Ending). k.storage) (one_carried (Judged r) r lacking input before (done s) (done mid) (determined law r) one gone go)) go x
          (λ a b y. both_met law one r more next input mid after b rest x y h) h met,
    ))
both_met law one r (Choice t holding lacking more) next input before after own rest (inr (inl (is, inr (stop, mid, go, e)))) (inr (inr (same, met))) h = absurd (stop_of after mid stop e)
both_met law one r (Choice t holding lacking more) next input before after own rest (inr (inr (stop, is, e))) (inr (inr (same, met))) h = absurd (stop_of after before stop e)

-- the one, or the one and then the other
pub met_together : TestLaws → OneEnding → (r : Records) (d next : Deeds Test) (input before : List ℕ) (n : ℕ)
    → MetThen (λ k. DeedsHaveMet r d input before k) (λ after. Carried (Judged r) r d input before (done after)) (λ after k. DeedsHaveMet r next input after k) n → DeedsHaveMet r (both_deeds d next) input before n
met_together law one r d next input before n (inl x) = front_met r d next input before n x
met_together law one r d next input before n (inr (after, own, rest, sum, go, x, y)) =
    subst (λ (k : ℕ). DeedsHaveMet r (both_deeds d next) input before k) (sym sum) (both_met law one r d next input before after own rest go x y)

-- one thing behind another, and a third
pub met_back : (front : ℕ → Type 0) (goes : List ℕ → Type 0) (second : List ℕ → ℕ → Type 0) (second_goes : List ℕ → List ℕ → Type 0) (third : List ℕ → ℕ → Type 0) (n : ℕ)
    → MetThen front goes (λ mid k. MetThen (second mid) (second_goes mid) third k) n
    → MetThen (λ k. MetThen front goes second k) (λ after. (mid : List ℕ) × goes mid × second_goes mid after) third n
met_back front goes second second_goes third n (inl x) = inl (inl x)
met_back front goes second second_goes third n (inr (mid, own, rest, sum, go, x, inl y)) = inl (inr (mid, own, rest, sum, go, x, y))
met_back front goes second second_goes third n (inr (mid, own, rest, sum, go, x, inr (after, a, b, parts, gone, y, z))) =
    inr (after, own + a, b, omega (arith, sum, parts), (mid, go, gone), inr (mid, own, a, refl, go, x, y), z)

pub met_map : (front other : ℕ → Type 0) (goes gone : List ℕ → Type 0) (behind beyond : List ℕ → ℕ → Type 0) (n : ℕ) → ((k : ℕ) → front k → other k) → ((s : List ℕ) → goes s → gone s)
    → ((s : List ℕ) (k : ℕ) → behind s k → beyond s k) → MetThen front goes behind n → MetThen other gone beyond n
met_map front other goes gone behind beyond n f g h (inl x) = inl (f n x)
met_map front other goes gone behind beyond n f g h (inr (after, own, rest, sum, go, x, y)) = inr (after, own, rest, sum, g after go, f own x, h after rest y)

pub met_apart : (r : Records) (d next : Deeds Test) (input before : List ℕ) (n : ℕ) → DeedsHaveMet r (both_deeds d next) input before n
    → MetThen (λ k. DeedsHaveMet r d input before k) (λ after. Carried (Judged r) r d input before (done after)) (λ after k. DeedsHaveMet r next input after k) n
met_apart r Nothing next input before n h = inr (before, 0, n, plain n, refl, refl, h)
met_apart r (Moving ms more) next input before n h =
    let first : ℕ → Type 0 = λ k. HaveMet r ms input before k in
    let goes : List ℕ → Type 0 = λ s. Applied r ms input before (done s) in
    met_map (λ k. MetThen first goes (λ s j. DeedsHaveMet r more input s j) k) (λ k. DeedsHaveMet r (Moving ms more) input before k)
    (λ after. (mid : List ℕ) × goes mid × Carried (Judged r) r more input mid (done after)) (λ after. Carried (Judged r) r (Moving ms more) input before (done after))
    (λ after k. DeedsHaveMet r next input after k) (λ after k. DeedsHaveMet r next input after k) n (λ k x. x) (λ s (mid, go, x). inl (mid, go, x)) (λ s k x. x)
    (met_back first goes (λ s j. DeedsHaveMet r more input s j) (λ mid after. Carried (Judged r) r more input mid (done after)) (λ after k. DeedsHaveMet r next input after k) n
    (met_map first first goes goes (λ s j. DeedsHaveMet r (both_deeds more next) input s j)
    (λ s j. MetThen (λ k. DeedsHaveMet r more input s k) (λ after. Carried (Judged r) r more input s (done after)) (λ after k. DeedsHaveMet r next input after k) j) n (λ k x. x) (λ s x. x)
    (λ s j x. met_apart r more next input s j x) h))
met_apart r (Choice t holding lacking more) next input before n (inl none) = inl (inl none)
met_apart r (Choice t holding lacking more) next input before n (inr (inl (is, h))) =
    let first : ℕ → Type 0 = λ k. DeedsHaveMet r holding input before k in
    let goes : List ℕ → Type 0 = λ s. Carried (Judged r) r holding input before (done s) in
    met_map (λ k. MetThen first goes (λ s j. DeedsHaveMet r more input s j) k) (λ k. DeedsHaveMet r (Choice t holding lacking more) input before k)
    (λ after. (mid : List ℕ) × goes mid × Carried (Judged r) r more input mid (done after)) (λ after. Carried (Judged r) r (Choice t holding lacking more) input before (done after))
    (λ after k. DeedsHaveMet r next input after k) (λ after k. DeedsHaveMet r next input after k) n (λ k x. inr (inl (is, x))) (λ s (mid, go, x). inl (is, inl (mid, go, x))) (λ s k x. x)
    (met_back first goes (λ s j. DeedsHaveMet r more input s j) (λ mid after. Carried (Judged r) r more input mid (done after)) (λ after k. DeedsHaveMet r next input after k) n
    (met_map first first goes goes (λ s j. DeedsHaveMet r (both_deeds more next) input s j)
    (λ s j. MetThen (λ k. DeedsHaveMet r more input s k) (λ after. Carried (Judged r) r more input s (done after)) (λ after k. DeedsHaveMet r next input after k) j) n (λ k x. x) (λ s x. x)
    (λ s j x. met_apart r more next input s j x) h))
met_apart r (Choice t holding lacking more) next input before n (inr (inr (is, h))) =
    let first : ℕ → Type 0 = λ k. DeedsHaveMet r lacking input before k in
    let goes : List ℕ → Type 0 = λ s. Carried (Judged r) r lacking input before (done s) in
    met_map (λ k. MetThen first goes (λ s j. DeedsHaveMet r more input s j) k) (λ k. DeedsHaveMet r (Choice t holding lacking more) input before k)
    (λ after. (mid : List ℕ) × goes mid × Carried (Judged r) r more input mid (done after)) (λ after. Carried (Judged r) r (Choice t holding lacking more) input before (done after))
    (λ after k. DeedsHaveMet r next input after k) (λ after k. DeedsHaveMet r next input after k) n (λ k x. inr (inr (is, x))) (λ s (mid, go, x). inr (inl (is, inl (mid, go, x)))) (λ s k x. x)
    (met_back first goes (λ s j. DeedsHaveMet r more input s j) (λ mid after. Carried (Judged r) r more input mid (done after)) (λ after k. DeedsHaveMet r next input after k) n
    (met_map first first goes goes (λ s j. DeedsHaveMet r (both_deeds more next) input s j)
    (λ s j. MetThen (λ k. DeedsHaveMet r more input s k) (λ after. Carried (Judged r) r more input s (done after)) (λ after k. DeedsHaveMet r next input after k) j) n (λ k x. x) (λ s x. x)
    (λ s j x. met_apart r more next input s j x) h))

-- what has nothing behind it
pub met_nothing : (r : Records) (d : Deeds Test) (input before : List ℕ) (n : ℕ)
    → MetThen (λ k. DeedsHaveMet r d input before k) (λ after. Carried (Judged r) r d input before (done after)) (λ after k. DeedsHaveMet r Nothing input after k) n → DeedsHaveMet r d input before n
met_nothing r d input before n (inl x) = x
met_nothing r d input before n (inr (after, own, rest, sum, go, x, none)) =
    let same : own ≡ n = omega (arith, sum, none) in
    subst (λ (k : ℕ). DeedsHaveMet r d input before k) same x

-- ---- the turns of a loop

-- what met of the moves of turns met of the loop whose bound says the same before each turn
pub turns_met : (r : Records) (until : ℕ → Test) (body : ℕ → List Move) (by most n k i v : ℕ) (input before : List ℕ) (m : ℕ) → ((s : List ℕ) (j : ℕ) → Judged r (until j) input s (Ok (nat_lt v j)))
    → v ≤ most → most < number_after by n i → (k ≡ 0) ⊎ (number_after by k i ≤ v + by) → HaveMet r (turns body by k i) input before m
    → DeedsHaveMet r (turns_from until (λ j. Moving (body j) Nothing) by n i) input before m
turns_met r until body by most n zero i v input before m says below far near none =
    subst (λ (c : ℕ). DeedsHaveMet r (turns_from until (λ j. Moving (body j) Nothing) by n i) input before c) (sym none) (none_done r (turns_from until (λ j. Moving (body j) Nothing) by n i) input before)
turns_met r until body by most n (suc k) i v input before m says below far (inl none) h = absurd (omega (arith, none))
turns_met r until body by most zero (suc k) i v input before m says below far (inr near) h = absurd (omega (arith, below, far, before_last v i k by near))
turns_met r until body by most (suc n) (suc k) i v input before m says below far (inr near) h =
    let lacking : Judged r (until i) input before (Ok false) = subst (λ (b : Bool). Judged r (until i) input before (Ok b)) (past_not v i (before_last v i k by near)) (says before i) in
    inr (inr (
      lacking,
      inl (met_map (λ c. HaveMet r (body i) input before c) (λ c. HaveMet r (body i) input before c) (λ s. Applied r (body i) input before (done s)) (λ s. Applied r (body i) input before (done s))
          (λ s c. HaveMet r (turns body by k (i + by)) input s c) (λ s c. DeedsHaveMet r (turns_from until (λ j. Moving (body j) Nothing) by n (i + by)) input s c) m (λ c x. x) (λ s x. x)
          (λ s c x. turns_met r until body by most n k (i + by) v input s c says below far (inr near) x)
          (moves_met r (body i) (turns body by k (i + by)) input before m h)),
    ))
