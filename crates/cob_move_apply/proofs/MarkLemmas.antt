-- Statements and steps that are parted by marks.
use Rattle.std.proofs.Common.{◌≡◌, ◌⊎◌, ℕ, zero, suc, ◌+◌, ◌-◌, ◌<◌, ◌≤◌, List, [], ◌∷◌, ◌++◌, drop, get_or, length, map, take, refl, sym, ap, subst, ◌∙◌, inl, inr, arith, append_assoc, length-append, take-add, length-drop}
use Rattle.std.proofs.lemmas.List.{drop-append-le, drop-drop, drop_all, drop_at, drop_more, get_or-drop, get_or_append_left, get_or_read, map-append, take-append-le, take_all, take_more}
use Rattle.cob_codec.specs.declared.reading.Reading.{Reading}
use Rattle.cob_move_data.specs.declared.operands.StatementMoves.{StatementMoves}
use Rattle.cob_move_data.specs.Moves.{Move, Records, moves_by, statement_moves_by}
use Rattle.cob_move_apply.specs.Joined.{steps_in}
use Rattle.cob_move_apply.specs.Marked.{RiseUpTo, ArePartedBy, StandBetween, items_between, last_mark, mark_at, parted_steps, statement_of}
use Rattle.cob_move_apply.specs.Planned.{AreMore, counted_steps}
use Rattle.cob_move_apply.specs.Steps.{AreMovesCut, AreSteps, GainsCut, Grows, StandFor, Support, support_of}
use Rattle.cob_move_apply.specs.declared.marking.Mark.{Mark}
use Rattle.cob_move_apply.specs.declared.step.Plan.{Plan}
use Rattle.cob_move_apply.specs.declared.step.Step.{Step}
use Rattle.cob_move_apply.proofs.CutLemmas.{cut_both}
use Rattle.cob_move_apply.proofs.JoinLemmas.{more_as, more_both, more_none}
use Rattle.cob_move_apply.proofs.PlanLemmas.{grows_both, moves_append, statement_next, steps_still}

-- ---- numbers

at_most : (n m : ℕ) → n ≤ m → (n < m) ⊎ (n ≡ m)
at_most zero zero le = inr refl
at_most zero (suc m) le = inl (omega arith)
at_most (suc n) zero le = absurd (omega (arith, le))
at_most (suc n) (suc m) le = elim (at_most n m (omega (arith, le))) [
  | inl lt ↦ inl (omega (arith, lt))
  | inr same ↦ inr (ap suc same)
]

-- ---- items of a list from one number up to another

pub none_between : {A : Type 0} (n : ℕ) (xs : List A) → items_between n n xs ≡ []
none_between n xs = let none : n - n ≡ 0 = omega arith in ap (λ (k : ℕ). take k (drop n xs)) none

pub between_both : {A : Type 0} (a b c : ℕ) (xs : List A) → a ≤ b → b ≤ c → items_between a c xs ≡ items_between a b xs ++ items_between b c xs
between_both {A} a b c xs le more =
    let whole : c - a ≡ (b - a) + (c - b) = omega (arith, le, more) in
    let there : a + (b - a) ≡ b = omega (arith, le) in
    ap (λ (k : ℕ). take k (drop a xs)) whole
    ∙ take-add (b - a) (c - b) (drop a xs)
    ∙ ap (λ (ys : List A). items_between a b xs ++ take (c - b) ys) (drop-drop (b - a) a xs ∙ ap (λ (k : ℕ). drop k xs) there)

between_front : {A : Type 0} (a b : ℕ) (xs ys : List A) → a ≤ b → b ≤ length xs → items_between a b (xs ++ ys) ≡ items_between a b xs
between_front {A} a b xs ys le within =
    ap (λ (zs : List A). take (b - a) zs) (drop-append-le a xs ys (omega (arith, le, within)))
    ∙ take-append-le (b - a) (drop a xs) ys (omega (arith, length-drop a xs, le, within))

between_behind : {A : Type 0} (xs ys : List A) → items_between (length xs) (length (xs ++ ys)) (xs ++ ys) ≡ ys
between_behind {A} xs ys =
    ap (λ (zs : List A). take (length (xs ++ ys) - length xs) zs) (drop_at xs ys (length xs) refl)
    ∙ take_all (length (xs ++ ys) - length xs) ys (omega (arith, length-append xs ys))

between_end : {A : Type 0} (a : ℕ) (xs ys : List A) → a ≤ length xs → items_between a (length (xs ++ ys)) (xs ++ ys) ≡ items_between a (length xs) xs ++ ys
between_end {A} a xs ys le =
    between_both a (length xs) (length (xs ++ ys)) (xs ++ ys) le (omega (arith, length-append xs ys))
    ∙ ap (λ (zs : List A). zs ++ items_between (length xs) (length (xs ++ ys)) (xs ++ ys)) (between_front a (length xs) xs ys le (omega arith))
    ∙ ap (λ (zs : List A). items_between a (length xs) xs ++ zs) (between_behind xs ys)

-- the moves of the statements from one number up to another, and then those of the next
pub between_more : (x : Reading) (r : Records) (ss : List StatementMoves) (from i : ℕ) (s : StatementMoves) → from ≤ i → i < length ss → s ≡ get_or ss i s
    → moves_by x r (items_between from i ss) ++ statement_moves_by x r s ≡ moves_by x r (items_between from (i + 1) ss)
between_more x r ss from i s le lt is =
    let there : from + (i - from) ≡ i = omega (arith, le) in
    let next : (i - from) + 1 ≡ (i + 1) - from = omega (arith, le) in
    let here : s ≡ get_or (drop from ss) (i - from) s = is ∙ ap (λ (k : ℕ). get_or ss k s) (sym there) ∙ sym (get_or-drop from ss (i - from) s) in
    statement_next x r (drop from ss) (i - from) s (omega (arith, le, lt, length-drop from ss)) here
    ∙ ap (λ (k : ℕ). moves_by x r (take k (drop from ss))) next

-- ---- steps behind steps

steps_both : (x : Reading) (r : Records) (given : List StatementMoves) (on : Support) (ss ts : List Step) (ps qs : List Move) → AreSteps x r given on ss ps → AreSteps x r given on ts qs
    → AreSteps x r given on (ss ++ ts) (ps ++ qs)
steps_both x r given on [] ts ps qs none more = subst (λ (ms : List Move). AreSteps x r given on ts (ms ++ qs)) (sym none) more
steps_both x r given on (s ∷ ss) ts ps qs (own, rest, cut, is, others) more =
    (own, rest ++ qs, ap (λ (ms : List Move). ms ++ qs) cut ∙ append_assoc own rest qs, is, steps_both x r given on ss ts rest qs others more)

pub stand_next : (x : Reading) (r : Records) (given : List StatementMoves) (ms own all : List Move) (b c : Plan) → StandFor x r given b.steps.items (support_of b) ms → GainsCut x r given own b c → ms ++ own ≡ all
    → StandFor x r given c.steps.items (support_of c) all
stand_next x r given ms own all b c (parts, are, cut) (more, divided, gains) is =
    (parts ++ more, gains.1 parts are, subst (λ (qs : List Move). AreMovesCut r qs (parts ++ more)) is (cut_both r ms own parts more cut divided))

counted_both : (ss ts : List Step) → counted_steps (ss ++ ts) ≡ counted_steps ss + counted_steps ts
counted_both [] ts = omega arith
counted_both (s ∷ ss) ts = omega (arith, counted_both ss ts)

-- nothing from a number to itself
pub stand_first : (x : Reading) (r : Records) (given : List StatementMoves) (from : ℕ) (p : Plan) → p.steps.items ≡ [] → StandFor x r given p.steps.items (support_of p) (moves_by x r (items_between from from given))
stand_first x r given from p none = (
  [],
  subst (λ (ss : List Step). AreSteps x r given (support_of p) ss []) (sym none) refl,
  subst (λ (ss : List StatementMoves). AreMovesCut r (moves_by x r ss) []) (sym (none_between from given)) refl,
)

pub none_first : (x : Reading) (r : Records) (given : List StatementMoves) (from : ℕ) (steps : List Step) → steps ≡ [] → AreMore r (moves_by x r (items_between from from given)) [] steps
none_first x r given from steps none =
    subst (λ (ss : List Step). AreMore r (moves_by x r (items_between from from given)) [] ss) (sym none)
    (more_as r [] (moves_by x r (items_between from from given)) [] [] (ap (moves_by x r) (sym (none_between from given))) (more_none r []))

-- and then the statement with this number
pub stand_some : (x : Reading) (r : Records) (given : List StatementMoves) (from i : ℕ) (s : StatementMoves) (b c : Plan) → from ≤ i → i < length given → s ≡ get_or given i s
    → StandFor x r given b.steps.items (support_of b) (moves_by x r (items_between from i given)) → GainsCut x r given (statement_moves_by x r s) b c
    → StandFor x r given c.steps.items (support_of c) (moves_by x r (items_between from (i + 1) given))
stand_some x r given from i s b c le lt is h gains =
    stand_next x r given (moves_by x r (items_between from i given)) (statement_moves_by x r s) (moves_by x r (items_between from (i + 1) given)) b c h gains (between_more x r given from i s le lt is)

pub more_between : (x : Reading) (r : Records) (given : List StatementMoves) (from i : ℕ) (s : StatementMoves) (a b c : List Step) → from ≤ i → i < length given → s ≡ get_or given i s
    → AreMore r (moves_by x r (items_between from i given)) a b → AreMore r (statement_moves_by x r s) b c → AreMore r (moves_by x r (items_between from (i + 1) given)) a c
more_between x r given from i s a b c le lt is f g =
    more_as r (moves_by x r (items_between from i given) ++ statement_moves_by x r s) (moves_by x r (items_between from (i + 1) given)) a c (between_more x r given from i s le lt is)
    (more_both r (moves_by x r (items_between from i given)) (statement_moves_by x r s) a b c f g)

pub grown_on : (x : Reading) (r : Records) (given : List StatementMoves) (own : List Move) (a b c : Plan) → Grows (support_of a) (support_of b) → GainsCut x r given own b c → Grows (support_of a) (support_of c)
grown_on x r given own a b c first (parts, cut, gains) = grows_both (support_of a) (support_of b) (support_of c) first gains.0

-- ---- marks

mark_before : (marks : List Mark) (m : Mark) (k : ℕ) → k < length marks → mark_at (marks ++ m ∷ []) k ≡ mark_at marks k
mark_before marks m k lt = get_or_append_left marks (m ∷ []) (record { statement = 0; step = 0 }) k lt

mark_new : (marks : List Mark) (m : Mark) → mark_at (marks ++ m ∷ []) (length marks) ≡ m
mark_new [] m = refl
mark_new (n ∷ marks) m = mark_new marks m

pub mark_last : (marks : List Mark) (m : Mark) → last_mark (marks ++ m ∷ []) ≡ m
mark_last marks m =
    let count : length (marks ++ m ∷ []) - 1 ≡ length marks = omega (arith, length-append marks (m ∷ [])) in
    ap (λ (k : ℕ). mark_at (marks ++ m ∷ []) k) count ∙ mark_new marks m

-- the mark behind the first of two at least is the same without it
last_behind : (n k : Mark) (marks : List Mark) → last_mark (n ∷ k ∷ marks) ≡ last_mark (k ∷ marks)
last_behind n k marks =
    let long : suc (suc (length marks)) - 1 ≡ suc (length marks) = omega arith in
    let short : suc (length marks) - 1 ≡ length marks = omega arith in
    ap (λ (i : ℕ). mark_at (n ∷ k ∷ marks) i) long ∙ ap (λ (i : ℕ). mark_at (k ∷ marks) i) (sym short)

steps_pushed : (x : Reading) (r : Records) (given : List StatementMoves) (behind : ℕ) (n : Mark) (marks : List Mark) (m : Mark)
    → parted_steps x r given behind ((n ∷ marks) ++ m ∷ []) ≡ parted_steps x r given behind (n ∷ marks) + steps_in r (moves_by x r (items_between (last_mark (n ∷ marks)).statement m.statement given))
steps_pushed x r given behind n [] m = omega arith
steps_pushed x r given behind n (k ∷ marks) m =
    let rest = steps_pushed x r given n.statement k marks m in
    omega (arith, rest, ap (λ (l : Mark). steps_in r (moves_by x r (items_between l.statement m.statement given))) (last_behind n k marks))

parted_more_steps : (x : Reading) (r : Records) (given : List StatementMoves) (marks : List Mark) (m : Mark) → 0 < length marks
    → parted_steps x r given 0 (marks ++ m ∷ []) ≡ parted_steps x r given 0 marks + steps_in r (moves_by x r (items_between (last_mark marks).statement m.statement given))
parted_more_steps x r given [] m some = absurd (omega (arith, some))
parted_more_steps x r given (n ∷ marks) m some = steps_pushed x r given 0 n marks m

-- ---- between marks

-- where there became more steps, and more of what they rest on
stand_still : (x : Reading) (r : Records) (given : List StatementMoves) (a b : Support) (steps own : List Step) (p q : Mark) → Grows a b → p.step ≤ q.step → q.step ≤ length steps → StandBetween x r given a steps p q
    → StandBetween x r given b (steps ++ own) p q
stand_still x r given a b steps own p q more le within (parts, are, cut) = (
  parts,
  steps_still x r given a b (items_between p.step q.step (steps ++ own)) parts more
      (subst (λ (ss : List Step). AreSteps x r given a ss parts) (sym (between_front p.step q.step steps own le within)) are),
  cut,
)

-- from a mark to the one that is new
stand_new : (x : Reading) (r : Records) (given : List StatementMoves) (a b : Support) (steps own : List Step) (p q m : Mark) → Grows a b → p.step ≤ q.step → q.step ≡ length steps → m.step ≡ length (steps ++ own)
    → p.statement ≤ q.statement → q.statement ≤ m.statement → StandBetween x r given a steps p q → StandFor x r given own b (moves_by x r (items_between q.statement m.statement given))
    → StandBetween x r given b (steps ++ own) p m
stand_new x r given a b steps own p q m more le last end rises further (parts, are, cut) (others, mine, divided) =
    let front : AreSteps x r given b (items_between p.step q.step steps) parts = steps_still x r given a b (items_between p.step q.step steps) parts more are in
    let whole : items_between p.step m.step (steps ++ own) ≡ items_between p.step q.step steps ++ own =
    ap (λ (k : ℕ). items_between p.step k (steps ++ own)) end ∙ between_end p.step steps own (omega (arith, le, last)) ∙ ap (λ (k : ℕ). items_between p.step k steps ++ own) (sym last) in
    let said : moves_by x r (items_between p.statement q.statement given) ++ moves_by x r (items_between q.statement m.statement given) ≡ moves_by x r (items_between p.statement m.statement given) =
    sym (moves_append x r (items_between p.statement q.statement given) (items_between q.statement m.statement given))
    ∙ ap (moves_by x r) (sym (between_both p.statement q.statement m.statement given rises further)) in (
      parts ++ others,
      subst (λ (ss : List Step). AreSteps x r given b ss (parts ++ others)) (sym whole) (steps_both x r given b (items_between p.step q.step steps) own parts others front mine),
      subst (λ (ms : List Move). AreMovesCut r ms (parts ++ others)) said (cut_both r (moves_by x r (items_between p.statement q.statement given)) (moves_by x r (items_between q.statement m.statement given)) parts others cut divided),
    )

-- from a mark to itself
stand_same : (x : Reading) (r : Records) (given : List StatementMoves) (on : Support) (steps : List Step) (m : Mark) → StandBetween x r given on steps m m
stand_same x r given on steps m = (
  [],
  subst (λ (ss : List Step). AreSteps x r given on ss []) (sym (none_between m.step steps)) refl,
  subst (λ (ss : List StatementMoves). AreMovesCut r (moves_by x r ss) []) (sym (none_between m.statement given)) refl,
)

-- ---- parted

pub parted_first : (r : Records) (given : List StatementMoves) (on : Support) (steps : List Step) (marks : List Mark) → steps ≡ [] → marks ≡ record { statement = 0; step = 0 } ∷ [] → ArePartedBy r given on steps marks
parted_first r given on steps marks none one = subst (λ (ss : List Step). ArePartedBy r given on ss marks) (sym none) (subst (λ (ms : List Mark). ArePartedBy r given on [] ms) (sym one) alone)
  where
    start : Mark
    start = record { statement = 0; step = 0 }

    only : (k : ℕ) → k < length (start ∷ []) → k ≡ 0
    only k lt = omega (arith, lt)

    alone : ArePartedBy r given on [] (start ∷ [])
    alone = record {
      some = omega arith;
      first = refl;
      last = refl;
      rise = λ a b le lt. let p : a ≡ 0 = omega (arith, le, lt) in let q : b ≡ 0 = omega (arith, lt) in rw (p, q) (omega arith, omega arith);
      stand = λ x a b le lt. let p : a ≡ 0 = omega (arith, le, lt) in let q : b ≡ 0 = omega (arith, lt) in rw (p, q) (stand_same x r given on [] start);
      count = λ x. refl;
    }

pub parted_more : (r : Records) (given : List StatementMoves) (a b : Support) (steps own now : List Step) (marks made : List Mark) (m : Mark) → Grows a b → now ≡ steps ++ own → made ≡ marks ++ m ∷ [] → m.step ≡ length now
    → (last_mark marks).statement ≤ m.statement → ArePartedBy r given a steps marks
    → ((x : Reading) → StandFor x r given own b (moves_by x r (items_between (last_mark marks).statement m.statement given)))
    → ((x : Reading) → counted_steps own ≡ steps_in r (moves_by x r (items_between (last_mark marks).statement m.statement given))) → ArePartedBy r given b now made
parted_more r given a b steps own now marks made m more grown pushed here further parted mine counts =
    subst (λ (ss : List Step). ArePartedBy r given b ss made) (sym grown)
    (subst (λ (ms : List Mark). ArePartedBy r given b (steps ++ own) ms) (sym pushed) whole)
  where
    end : m.step ≡ length (steps ++ own)
    end = here ∙ ap length grown

    last_is : (last_mark marks).step ≡ length steps
    last_is = parted.last

    below : (k : ℕ) → k < length (marks ++ m ∷ []) → k ≤ length marks
    below k lt = omega (arith, lt, length-append marks (m ∷ []))

    to_last : (k : ℕ) → k < length marks → ((mark_at marks k).statement ≤ (last_mark marks).statement) × ((mark_at marks k).step ≤ (last_mark marks).step)
    to_last k lt = parted.rise k (length marks - 1) (omega (arith, lt)) (omega (arith, lt))

    rising : (p q : ℕ) → p ≤ q → (q < length marks) ⊎ (q ≡ length marks) → (p < length marks) ⊎ (p ≡ length marks)
        → ((mark_at (marks ++ m ∷ []) p).statement ≤ (mark_at (marks ++ m ∷ []) q).statement) × ((mark_at (marks ++ m ∷ []) p).step ≤ (mark_at (marks ++ m ∷ []) q).step)
    rising p q le (inl lt) other =
        let before : p < length marks = omega (arith, le, lt) in
        rw (mark_before marks m p before, mark_before marks m q lt) (parted.rise p q le lt)
    rising p q le (inr same) (inl before) =
        let (said, done) = to_last p before in
        let new : mark_at (marks ++ m ∷ []) q ≡ m = ap (λ (k : ℕ). mark_at (marks ++ m ∷ []) k) same ∙ mark_new marks m in
        rw (mark_before marks m p before, new) (omega (arith, said, further), omega (arith, done, last_is, end, length-append steps own))
    rising p q le (inr same) (inr also) = let one : p ≡ q = also ∙ sym same in rw one (omega arith, omega arith)

    standing : (x : Reading) (p q : ℕ) → p ≤ q → (q < length marks) ⊎ (q ≡ length marks) → (p < length marks) ⊎ (p ≡ length marks)
        → StandBetween x r given b (steps ++ own) (mark_at (marks ++ m ∷ []) p) (mark_at (marks ++ m ∷ []) q)
    standing x p q le (inl lt) other =
        let before : p < length marks = omega (arith, le, lt) in
        rw (mark_before marks m p before, mark_before marks m q lt)
        (stand_still x r given a b steps own (mark_at marks p) (mark_at marks q) more (parted.rise p q le lt).1 (omega (arith, (to_last q lt).1, last_is)) (parted.stand x p q le lt))
    standing x p q le (inr same) (inl before) =
        let new : mark_at (marks ++ m ∷ []) q ≡ m = ap (λ (k : ℕ). mark_at (marks ++ m ∷ []) k) same ∙ mark_new marks m in
        rw (mark_before marks m p before, new)
        (stand_new x r given a b steps own (mark_at marks p) (last_mark marks) m more (to_last p before).1 last_is end (to_last p before).0 further
        (parted.stand x p (length marks - 1) (omega (arith, before)) (omega (arith, before))) (mine x))
    standing x p q le (inr same) (inr also) = let one : p ≡ q = also ∙ sym same in rw one (stand_same x r given b (steps ++ own) (mark_at (marks ++ m ∷ []) q))

    whole : ArePartedBy r given b (steps ++ own) (marks ++ m ∷ [])
    whole = record {
      some = omega (arith, length-append marks (m ∷ []));
      first = mark_before marks m 0 parted.some ∙ parted.first;
      last = ap (λ (l : Mark). l.step) (mark_last marks m) ∙ end;
      rise = λ p q le lt. rising p q le (at_most q (length marks) (below q lt)) (at_most p (length marks) (omega (arith, le, below q lt)));
      stand = λ x p q le lt. standing x p q le (at_most q (length marks) (below q lt)) (at_most p (length marks) (omega (arith, le, below q lt)));
      count = λ x. counted_both steps own ∙ omega (arith, parted.count x, counts x, parted_more_steps x r given marks m parted.some);
    }

-- the same, where the last mark is known by how many statements stand before it
pub parted_by_more : (r : Records) (given : List StatementMoves) (a b : Support) (steps own now : List Step) (marks made : List Mark) (m : Mark) (begin : ℕ) → Grows a b → now ≡ steps ++ own → made ≡ marks ++ m ∷ [] → m.step ≡ length now
    → (last_mark marks).statement ≡ begin → begin ≤ m.statement → ArePartedBy r given a steps marks → ((x : Reading) → StandFor x r given own b (moves_by x r (items_between begin m.statement given)))
    → ((x : Reading) → counted_steps own ≡ steps_in r (moves_by x r (items_between begin m.statement given))) → ArePartedBy r given b now made
parted_by_more r given a b steps own now marks made m begin more grown pushed here is further parted mine counts =
    parted_more r given a b steps own now marks made m more grown pushed here (subst (λ (n : ℕ). n ≤ m.statement) (sym is) further) parted
    (λ x. subst (λ (n : ℕ). StandFor x r given own b (moves_by x r (items_between n m.statement given))) (sym is) (mine x))
    (λ x. subst (λ (n : ℕ). counted_steps own ≡ steps_in r (moves_by x r (items_between n m.statement given))) (sym is) (counts x))

pub mark_last_of : (marks made : List Mark) (m : Mark) → made ≡ marks ++ m ∷ [] → (last_mark made).statement ≡ m.statement
mark_last_of marks made m pushed = ap (λ (ms : List Mark). (last_mark ms).statement) pushed ∙ ap (λ (l : Mark). l.statement) (mark_last marks m)

pub ends_pushed : (marks made : List Mark) (m : Mark) → made ≡ marks ++ m ∷ [] → map statement_of made ≡ map statement_of marks ++ m.statement ∷ []
ends_pushed marks made m pushed = ap (λ (ms : List Mark). map statement_of ms) pushed ∙ map-append statement_of marks (m ∷ [])

-- ---- ends, one behind another

pub ends_next : (begin whole : ℕ) (es : List ℕ) (i : ℕ) → i < length es → RiseUpTo begin whole (drop i es) → (begin ≤ get_or es i 0) × (get_or es i 0 ≤ whole) × RiseUpTo (get_or es i 0) whole (drop (i + 1) es)
ends_next begin whole es i lt ends = subst (λ (xs : List ℕ). RiseUpTo begin whole xs) (drop_more es i 0 lt) ends

pub ends_done : (begin whole : ℕ) (es : List ℕ) (i : ℕ) → length es ≤ i → RiseUpTo begin whole (drop i es) → begin ≡ whole
ends_done begin whole es i past ends = subst (λ (xs : List ℕ). RiseUpTo begin whole xs) (drop_all i es past) ends

pub said_more : (was now : List ℕ) (es : List ℕ) (i : ℕ) → i < length es → was ≡ 0 ∷ take i es → now ≡ was ++ get_or es i 0 ∷ [] → now ≡ 0 ∷ take (i + 1) es
said_more was now es i lt before pushed =
    pushed ∙ ap (λ (xs : List ℕ). xs ++ get_or es i 0 ∷ []) before ∙ ap (λ (xs : List ℕ). 0 ∷ xs) (sym (take_more es i 0 lt))

pub said_all : (now es : List ℕ) (i : ℕ) → length es ≤ i → now ≡ 0 ∷ take i es → now ≡ 0 ∷ es
said_all now es i past is = is ∙ ap (λ (xs : List ℕ). 0 ∷ xs) (take_all i es past)

-- ---- all of them

whole_between : {A : Type 0} (xs : List A) → items_between 0 (length xs) xs ≡ xs
whole_between xs =
    let none : length xs - 0 ≡ length xs = omega arith in
    ap (λ (k : ℕ). take k xs) none ∙ take_all (length xs) xs (omega arith)

-- the moves from the first mark to the last are all
pub between_all : (x : Reading) (r : Records) (given : List StatementMoves) (marks : List Mark) → mark_at marks 0 ≡ record { statement = 0; step = 0 } → (last_mark marks).statement ≡ length given
    → moves_by x r (items_between (mark_at marks 0).statement (last_mark marks).statement given) ≡ moves_by x r given
between_all x r given marks first whole =
    ap (λ (m : Mark). moves_by x r (items_between m.statement (last_mark marks).statement given)) first
    ∙ ap (λ (n : ℕ). moves_by x r (items_between 0 n given)) whole
    ∙ ap (λ (ss : List StatementMoves). moves_by x r ss) (whole_between given)

-- ---- marks that are read

pub mark_read : (marks : List Mark) (k : ℕ) (m : Mark) → k < length marks → m ≡ get_or marks k m → m ≡ mark_at marks k
mark_read marks k m lt is = get_or_read marks k m lt is (record { statement = 0; step = 0 })

-- the steps between two marks that are read stand for the moves between them
pub stand_read : (x : Reading) (r : Records) (given : List StatementMoves) (on : Support) (steps : List Step) (marks : List Mark) (from to : ℕ) (p q : Mark) → ArePartedBy r given on steps marks → from ≤ to → to < length marks
    → p ≡ get_or marks from p → q ≡ get_or marks to q
    → StandFor x r given (items_between p.step q.step steps) on (moves_by x r (items_between (mark_at marks from).statement (mark_at marks to).statement given))
stand_read x r given on steps marks from to p q parted le lt here there =
    let first : p ≡ mark_at marks from = mark_read marks from p (omega (arith, le, lt)) here in
    let last : q ≡ mark_at marks to = mark_read marks to q lt there in
    subst (λ (m : Mark). StandFor x r given (items_between m.step q.step steps) on (moves_by x r (items_between (mark_at marks from).statement (mark_at marks to).statement given))) (sym first)
    (subst (λ (m : Mark). StandFor x r given (items_between (mark_at marks from).step m.step steps) on (moves_by x r (items_between (mark_at marks from).statement (mark_at marks to).statement given))) (sym last)
    (parted.stand x from to le lt))

-- the same, of statements and steps that are slices
pub stand_sliced : (x : Reading) (r : Records) (given said : List StatementMoves) (on : Support) (steps sliced taken : List Step) (marks : List Mark) (from to : ℕ) (p q : Mark) → said ≡ given → sliced ≡ steps
    → taken ≡ items_between p.step q.step sliced → ArePartedBy r given on steps marks → from ≤ to → to < length marks → p ≡ get_or marks from p → q ≡ get_or marks to q
    → StandFor x r said taken on (moves_by x r (items_between (mark_at marks from).statement (mark_at marks to).statement given))
stand_sliced x r given said on steps sliced taken marks from to p q same as_steps part parted le lt here there =
    let ms : List Move = moves_by x r (items_between (mark_at marks from).statement (mark_at marks to).statement given) in
    subst (λ (ts : List Step). StandFor x r said ts on ms) (sym part)
    (subst (λ (ss : List StatementMoves). StandFor x r ss (items_between p.step q.step sliced) on ms) (sym same)
    (subst (λ (ts : List Step). StandFor x r given (items_between p.step q.step ts) on ms) (sym as_steps) (stand_read x r given on steps marks from to p q parted le lt here there)))

-- and they lie within the steps
pub step_within : (r : Records) (given : List StatementMoves) (on : Support) (steps : List Step) (marks : List Mark) (from to : ℕ) (p q : Mark) → ArePartedBy r given on steps marks → from ≤ to → to < length marks
    → p ≡ get_or marks from p → q ≡ get_or marks to q → (p.step ≤ q.step) × (q.step ≤ length steps)
step_within r given on steps marks from to p q parted le lt here there =
    let first : p ≡ mark_at marks from = mark_read marks from p (omega (arith, le, lt)) here in
    let last : q ≡ mark_at marks to = mark_read marks to q lt there in
    let rises = (parted.rise from to le lt).1 in
    let end = (parted.rise to (length marks - 1) (omega (arith, lt)) (omega (arith, lt))).1 in
    (omega (arith, ap (λ (m : Mark). m.step) first, ap (λ (m : Mark). m.step) last, rises), omega (arith, ap (λ (m : Mark). m.step) last, end, parted.last))

-- all steps stand for the moves of all statements; of statements and steps that are slices
pub stand_whole : (x : Reading) (r : Records) (given said : List StatementMoves) (on : Support) (steps taken : List Step) (marks : List Mark) → said ≡ given → taken ≡ steps → ArePartedBy r given on steps marks
    → (last_mark marks).statement ≡ length given → StandFor x r said taken on (moves_by x r given)
stand_whole x r given said on steps taken marks same as_steps parted whole =
    let between : items_between (mark_at marks 0).step (last_mark marks).step steps ≡ steps =
    ap (λ (m : Mark). items_between m.step (last_mark marks).step steps) parted.first ∙ ap (λ (n : ℕ). items_between 0 n steps) parted.last ∙ whole_between steps in
    subst (λ (ts : List Step). StandFor x r said ts on (moves_by x r given)) (sym as_steps)
    (subst (λ (ss : List StatementMoves). StandFor x r ss steps on (moves_by x r given)) (sym same)
    (subst (λ (ts : List Step). StandFor x r given ts on (moves_by x r given)) between
    (subst (λ (ms : List Move). StandFor x r given (items_between (mark_at marks 0).step (last_mark marks).step steps) on ms) (between_all x r given marks parted.first whole)
    (parted.stand x 0 (length marks - 1) (omega arith) (omega (arith, parted.some))))))
