-- The loops over tables, turn by turn, and the elements of the tables.
use Rattle.std.proofs.Common.{◌≡◌, ℕ, ◌+◌, ◌<◌, Bool, true, false, List, [], ◌∷◌, ◌++◌, length, map, get_or, refl, sym, ap, subst, ◌∙◌, arith, inl, inr, append_assoc, append-nil}
use Rattle.std.specs.Prelude.{min, nat_eq, nat_le, nat_lt, flat_map, Option, None}
use Rattle.std.specs.List.{AllByRecursion}
use Rattle.std.proofs.lemmas.Bool.Decides.{Decides-ltb, eqb_tells, leb_tells}
use Rattle.std.proofs.lemmas.List.{length-append, map-append}
use Rattle.cob_report_draft.specs.Loops.{AreFixed, HasElements, HaveElements, Turning, all_turns, bound_or, elements, greatest, has_loop, lesser, levels, literal, loop_at, loops_along, loops_from, loops_over, mosts, numbers_at, one_to, subscript_from, subscript_in, subscripts_from, turns_at, turns_by}
use Rattle.cob_report_draft.specs.declared.loops.LoopLevel.{LoopLevel}
use Rattle.cob_report_draft.specs.declared.words.Subscript.{Subscript}
use Rattle.cob_report_draft.specs.declared.words.Subscript.TheVariants.{Counter, First}
use Rattle.cob_report_partners.specs.Bounds.{bound_by, number_at}
use Rattle.cob_report_partners.specs.declared.bounds.DraftCounts.{DraftCounts}
use Rattle.cob_report_partners.specs.declared.bounds.LoopBound.{LoopBound}
use Rattle.cob_report_partners.specs.declared.bounds.LoopBound.TheVariants.{Number, Input, Output}
use Rattle.cob_report_partners.specs.declared.bounds.TableSize.{TableSize}

agree : {A B : Type 0} (f g : A → B) → ((x : A) → f x ≡ g x) → (xs : List A) → map f xs ≡ map g xs
agree f g same [] = refl
agree f g same (x ∷ xs) = ap (λ y. y ∷ map f xs) (same x) ∙ ap (λ ys. g x ∷ ys) (agree f g same xs)

twice : {A B C : Type 0} (f : B → C) (g : A → B) (xs : List A) → map f (map g xs) ≡ map (λ x. f (g x)) xs
twice f g [] = refl
twice f g (x ∷ xs) = ap (λ ys. f (g x) ∷ ys) (twice f g xs)

each_agree : {A B : Type 0} (f g : A → List B) → ((x : A) → f x ≡ g x) → (xs : List A) → flat_map f xs ≡ flat_map g xs
each_agree f g same [] = refl
each_agree f g same (x ∷ xs) = ap (λ ys. ys ++ flat_map f xs) (same x) ∙ ap (λ ys. g x ++ ys) (each_agree f g same xs)

through : {A B C : Type 0} (f : B → C) (g : A → List B) (xs : List A) → map f (flat_map g xs) ≡ flat_map (λ x. map f (g x)) xs
through f g [] = refl
through f g (x ∷ xs) = map-append f (g x) (flat_map g xs) ∙ ap (λ ys. map f (g x) ++ ys) (through f g xs)

-- numbers that differ do not compare equal
differ : (m n : ℕ) → (m ≡ n → ⊥) → nat_eq m n ≡ false
differ m n ne = elim (eqb_tells m n) [
  | inl told ↦ absurd (ne told.1)
  | inr told ↦ told.0
]

-- a number compares equal to itself
same_number : (n : ℕ) → nat_eq n n ≡ true
same_number n = elim (eqb_tells n n) [
  | inl told ↦ told.0
  | inr told ↦ absurd (told.1 refl)
]

not_over : (n : ℕ) → nat_le n n ≡ true
not_over n = elim (leb_tells n n) [
  | inl told ↦ told.0
  | inr told ↦ absurd (omega (arith, told.1))
]

several_is : (n : ℕ) → 1 < n → nat_lt 1 n ≡ true
several_is n several = (Decides-ltb 1 n).1 several

-- the loops of tables of which the first has one, and of which it has none
loops_yes : (d : ℕ) (l : LoopLevel) (ls : List LoopLevel) → has_loop l.bound ≡ true → loops_from d (l ∷ ls) ≡ loop_at d l ∷ loops_from (d + 1) ls
loops_yes d l ls is = rw is refl

loops_no : (d : ℕ) (l : LoopLevel) (ls : List LoopLevel) → has_loop l.bound ≡ false → loops_from d (l ∷ ls) ≡ loops_from (d + 1) ls
loops_no d l ls is = rw is refl

-- each goes over a table that fewer tables hold
abbrev AreBelow : ℕ → List Turning → Type 0
AreBelow d ls = AllByRecursion (λ (l : Turning). l.depth < d) ls

passed : (k d n : ℕ) (l : Turning) (ls : List Turning) → (l.depth ≡ d → ⊥) → subscript_from k (l ∷ ls) d n ≡ subscript_from (k + 1) ls d n
passed k d n l ls ne = rw (differ l.depth d ne) refl

-- no loop goes over a table that more tables hold
none_behind : (k d e n : ℕ) (ls : List LoopLevel) → d < e → subscript_from k (loops_from e ls) d n ≡ First
none_behind k d e n [] lt = refl
none_behind k d e n (m ∷ ms) lt = by (has_loop m.bound) refl (λ k. none_behind k d (e + 1) n ms (omega (arith, lt)))
  where
    by : (b : Bool) → has_loop m.bound ≡ b → ((k : ℕ) → subscript_from k (loops_from (e + 1) ms) d n ≡ First) → subscript_from k (loops_from e (m ∷ ms)) d n ≡ First
    by true is rest = rw (loops_yes e m ms is) (passed k d n (loop_at e m) (loops_from (e + 1) ms) (λ same. omega (arith, lt, same)) ∙ rest (k + 1))
    by false is rest = rw (loops_no e m ms is) (rest k)

none_there : (k d n : ℕ) (front : List Turning) (ls : List LoopLevel) → AreBelow d front → subscript_from k (front ++ loops_from (d + 1) ls) d n ≡ First
none_there k d n [] ls below = none_behind k d (d + 1) n ls (omega arith)
none_there k d n (f ∷ fs) ls below = passed k d n f (fs ++ loops_from (d + 1) ls) (λ same. omega (arith, below.0, same)) ∙ none_there (k + 1) d n fs ls below.1

here : (k d : ℕ) (l : LoopLevel) (more : List Turning) → subscript_from k (loop_at d l ∷ more) d l.most ≡ Counter k
here k d l more = rw (same_number d, not_over l.most) refl

found_there : (k d : ℕ) (l : LoopLevel) (front more : List Turning) → AreBelow d front → subscript_from k (front ++ loop_at d l ∷ more) d l.most ≡ Counter (k + length front)
found_there k d l [] more below = here k d l more ∙ ap (λ (i : ℕ). Counter i) (omega arith)
found_there k d l (f ∷ fs) more below =
    passed k d l.most f (fs ++ loop_at d l ∷ more) (λ same. omega (arith, below.0, same))
    ∙ found_there (k + 1) d l fs more below.1
    ∙ ap (λ (i : ℕ). Counter i) (omega arith)

-- the number of the counter behind these
at_head : (head : List ℕ) (k i : ℕ) (turn : List ℕ) → length head ≡ k → get_or (head ++ i ∷ turn) k 1 ≡ i
at_head [] k i turn is = subst (λ (n : ℕ). get_or (i ∷ turn) n 1 ≡ i) is refl
at_head (h ∷ hs) k i turn is = subst (λ (n : ℕ). get_or (h ∷ (hs ++ i ∷ turn)) n 1 ≡ i) is (at_head hs (length hs) i turn refl)

deeper : (d : ℕ) (front : List Turning) → AreBelow d front → AreBelow (d + 1) front
deeper d [] below = below
deeper d (f ∷ fs) below = (omega (arith, below.0), deeper d fs below.1)

deeper_with : (d : ℕ) (l : LoopLevel) (front : List Turning) → AreBelow d front → AreBelow (d + 1) (front ++ loop_at d l ∷ [])
deeper_with d l [] below = (omega arith, tt)
deeper_with d l (f ∷ fs) below = (omega (arith, below.0), deeper_with d l fs below.1)

-- how far loops go: by their turns at most, and by their bound
abbrev Far : Type 0
Far = ℕ → LoopBound → ℕ

-- how many elements of these tables there are then
abbrev reached : Far → List LoopLevel → List ℕ
reached far ls = map (λ (l : LoopLevel). far l.most l.bound) ls

-- a table without a loop has one element
abbrev IsOnce : Far → LoopLevel → Type 0
IsOnce far l = has_loop l.bound ≡ false → far l.most l.bound ≡ 1

-- the subscripts of tables, in a turn of the loops in front and of their own
abbrev subscripts_at : (front : List Turning) (head : List ℕ) (own : List Turning) (d : ℕ) (ns turn : List ℕ) → List ℕ
subscripts_at front head own d ns turn = map (subscript_in (head ++ turn)) (subscripts_from (front ++ own) d ns)

-- the loops of these tables, behind others, name each of their elements
abbrev Names : Far → (ls : List LoopLevel) (d : ℕ) (front : List Turning) (head : List ℕ) (own : List Turning) → Type 0
Names far ls d front head own = map (subscripts_at front head own d (greatest ls)) (turns_by far own) ≡ elements (reached far ls)

-- so it is of one more table that has no loop
one_more : (far : Far) (l : LoopLevel) (ls : List LoopLevel) (d : ℕ) (front : List Turning) (head : List ℕ) → far l.most l.bound ≡ 1 → AreBelow d front
    → Names far ls (d + 1) front head (loops_from (d + 1) ls) → Names far (l ∷ ls) d front head (loops_from (d + 1) ls)
one_more far l ls d front head once below rest =
    let own = loops_from (d + 1) ls in
    let ns = greatest ls in
    let inner = subscripts_at front head own (d + 1) ns in
    agree (subscripts_at front head own d (l.most ∷ ns)) (λ turn. 1 ∷ inner turn)
    (λ turn. ap (λ (s : Subscript). subscript_in (head ++ turn) s ∷ inner turn) (none_there 0 d l.most front ls below)) (turns_by far own)
    ∙ sym (twice (λ (element : List ℕ). 1 ∷ element) inner (turns_by far own))
    ∙ ap (λ es. map (λ (element : List ℕ). 1 ∷ element) es) rest
    ∙ sym (append-nil (map (λ (element : List ℕ). 1 ∷ element) (elements (reached far ls))))
    ∙ ap (λ (n : ℕ). elements (n ∷ reached far ls)) (sym once)

-- and of one that has a loop
several_more : (far : Far) (l : LoopLevel) (ls : List LoopLevel) (d : ℕ) (front : List Turning) (head : List ℕ) → AreBelow d front → length head ≡ length front
    → ((i : ℕ) → Names far ls (d + 1) (front ++ loop_at d l ∷ []) (head ++ i ∷ []) (loops_from (d + 1) ls))
    → Names far (l ∷ ls) d front head (loop_at d l ∷ loops_from (d + 1) ls)
several_more far l ls d front head below as_many rest =
    let own = loops_from (d + 1) ls in
    let ns = greatest ls in
    let es = elements (reached far ls) in
    let first : Turning = loop_at d l in
    let behind = front ++ first ∷ [] in
    let outer = subscripts_at front head (first ∷ own) d (l.most ∷ ns) in
    let subscripts : subscripts_from (front ++ first ∷ own) d (l.most ∷ ns) ≡ Counter (length front) ∷ subscripts_from (behind ++ own) (d + 1) ns =
    ap (λ (s : Subscript). s ∷ subscripts_from (front ++ first ∷ own) (d + 1) ns) (found_there 0 d l front own below ∙ ap (λ (i : ℕ). Counter i) (omega arith))
    ∙ ap (λ (ts : List Turning). Counter (length front) ∷ subscripts_from ts (d + 1) ns) (sym (append_assoc front (first ∷ []) own)) in
    let inner = λ (i : ℕ). subscripts_at behind (head ++ i ∷ []) own (d + 1) ns in
    let in_turn : (i : ℕ) (turn : List ℕ) → outer (i ∷ turn) ≡ i ∷ inner i turn = λ i turn.
    ap (λ (ss : List Subscript). map (subscript_in (head ++ i ∷ turn)) ss) subscripts
    ∙ ap (λ (m : ℕ). m ∷ map (subscript_in (head ++ i ∷ turn)) (subscripts_from (behind ++ own) (d + 1) ns)) (at_head head (length front) i turn as_many)
    ∙ ap (λ (t : List ℕ). i ∷ map (subscript_in t) (subscripts_from (behind ++ own) (d + 1) ns)) (sym (append_assoc head (i ∷ []) turn)) in
    let in_turns : (i : ℕ) → map outer (map (λ (turn : List ℕ). i ∷ turn) (turns_by far own)) ≡ map (λ (element : List ℕ). i ∷ element) es = λ i.
    twice outer (λ (turn : List ℕ). i ∷ turn) (turns_by far own)
    ∙ agree (λ (turn : List ℕ). outer (i ∷ turn)) (λ (turn : List ℕ). i ∷ inner i turn) (in_turn i) (turns_by far own)
    ∙ sym (twice (λ (element : List ℕ). i ∷ element) (inner i) (turns_by far own))
    ∙ ap (λ (es : List (List ℕ)). map (λ (element : List ℕ). i ∷ element) es) (rest i) in
    through outer (λ (i : ℕ). map (λ (turn : List ℕ). i ∷ turn) (turns_by far own)) (one_to (far l.most l.bound))
    ∙ each_agree (λ (i : ℕ). map outer (map (λ (turn : List ℕ). i ∷ turn) (turns_by far own))) (λ (i : ℕ). map (λ (element : List ℕ). i ∷ element) es) in_turns (one_to (far l.most l.bound))

with_counter : (head : List ℕ) (front : List Turning) (l : Turning) (i : ℕ) → length head ≡ length front → length (head ++ i ∷ []) ≡ length (front ++ l ∷ [])
with_counter head front l i is = omega (arith, is, length-append head (i ∷ []), length-append front (l ∷ []))

-- what holds behind the loops of some tables holds with one more table
split : (far : Far) (l : LoopLevel) (ls : List LoopLevel) (d : ℕ) (front : List Turning) (head : List ℕ) → IsOnce far l → AreBelow d front → length head ≡ length front
    → ((front : List Turning) (head : List ℕ) → AreBelow (d + 1) front → length head ≡ length front → Names far ls (d + 1) front head (loops_from (d + 1) ls))
    → (b : Bool) → has_loop l.bound ≡ b → Names far (l ∷ ls) d front head (loops_from d (l ∷ ls))
split far l ls d front head once below as_many rest true is =
    subst (λ (own : List Turning). Names far (l ∷ ls) d front head own) (sym (loops_yes d l ls is))
    (several_more far l ls d front head below as_many
    (λ i. rest (front ++ loop_at d l ∷ []) (head ++ i ∷ []) (deeper_with d l front below) (with_counter head front (loop_at d l) i as_many)))
split far l ls d front head once below as_many rest false is =
    subst (λ (own : List Turning). Names far (l ∷ ls) d front head own) (sym (loops_no d l ls is))
    (one_more far l ls d front head (once is) below (rest front head (deeper d front below) as_many))

names_elements : (far : Far) (ls : List LoopLevel) (d : ℕ) (front : List Turning) (head : List ℕ) → AllByRecursion (IsOnce far) ls → AreBelow d front → length head ≡ length front
    → Names far ls d front head (loops_from d ls)
names_elements far [] d front head once below as_many = refl
names_elements far (l ∷ ls) d front head once below as_many =
    split far l ls d front head once.0 below as_many (λ front head below as_many. names_elements far ls (d + 1) front head once.1 below as_many) (has_loop l.bound) refl

no_both : {X : Type 0} → true ≡ false → X
no_both e = absurd (cc)

-- a table of one element, as no more and some
one_element : (n : ℕ) → 0 < n → nat_lt 1 n ≡ false → n ≡ 1
one_element n some is = omega (arith, some, not_more)
  where
    not_more : 1 < n → ⊥
    not_more several = no_both (sym (several_is n several) ∙ is)

-- tables of fixed size, by how many elements they have
greatest_literal : (ns : List ℕ) → greatest (map literal ns) ≡ ns
greatest_literal [] = refl
greatest_literal (n ∷ ns) = ap (λ ms. n ∷ ms) (greatest_literal ns)

once_literal : (ns : List ℕ) → AllByRecursion (λ n. 0 < n) ns → AllByRecursion (IsOnce (λ turns bound. turns)) (map literal ns)
once_literal [] some = some
once_literal (n ∷ ns) some = (one_element n some.0, once_literal ns some.1)

pub names_literal : (ns : List ℕ) → AllByRecursion (λ n. 0 < n) ns
    → map (λ turn. map (subscript_in turn) (subscripts_from (loops_over ns) 0 ns)) (all_turns (loops_over ns)) ≡ elements ns
names_literal ns some =
    subst (λ (ms : List ℕ). map (λ turn. map (subscript_in turn) (subscripts_from (loops_over ns) 0 ms)) (all_turns (loops_over ns)) ≡ elements ms) (greatest_literal ns)
    (names_elements (λ turns bound. turns) (map literal ns) 0 [] [] (once_literal ns some) tt refl)

-- tables of which some vary
once_there : (input output : ℕ → ℕ) (b : LoopBound) → HasElements b → has_loop b ≡ false → number_at input output b ≡ 1
once_there input output (Number n) some is = one_element n some is
once_there input output (Input count) some is = no_both is
once_there input output (Output count) some is = no_both is

once_counted : (input output : ℕ → ℕ) (ls : List LoopLevel) → HaveElements ls → AllByRecursion (IsOnce (λ turns bound. number_at input output bound)) ls
once_counted input output [] some = some
once_counted input output (l ∷ ls) some = (once_there input output l.bound some.0, once_counted input output ls some.1)

pub names_counted : (input output : ℕ → ℕ) (ls : List LoopLevel) → HaveElements ls
    → map (λ turn. map (subscript_in turn) (subscripts_from (loops_along ls) 0 (greatest ls))) (turns_at input output (loops_along ls)) ≡ elements (numbers_at input output ls)
names_counted input output ls some =
    names_elements (λ turns bound. number_at input output bound) ls 0 [] [] (once_counted input output ls some) tt refl

behind_by : (d : ℕ) (m n : LoopLevel) (ms : List LoopLevel) → loops_from (d + 1) (ms ++ n ∷ []) ≡ loops_from (d + 1) ms ++ loops_from (d + 1 + length ms) (n ∷ [])
    → (b : Bool) → has_loop m.bound ≡ b → loops_from d (m ∷ (ms ++ n ∷ [])) ≡ loops_from d (m ∷ ms) ++ loops_from (d + 1 + length ms) (n ∷ [])
behind_by d m n ms rest true is = rw (loops_yes d m (ms ++ n ∷ []) is, loops_yes d m ms is) (ap (λ (ls : List Turning). loop_at d m ∷ ls) rest)
behind_by d m n ms rest false is = rw (loops_no d m (ms ++ n ∷ []) is, loops_no d m ms is) rest

-- the loops of tables with one more inside
behind : (d : ℕ) (ls : List LoopLevel) (n : LoopLevel) → loops_from d (ls ++ n ∷ []) ≡ loops_from d ls ++ loops_from (d + length ls) (n ∷ [])
behind d [] n = ap (λ (e : ℕ). loops_from e (n ∷ [])) (omega arith)
behind d (m ∷ ms) n =
    behind_by d m n ms (behind (d + 1) ms n) (has_loop m.bound) refl
    ∙ ap (λ (e : ℕ). loops_from d (m ∷ ms) ++ loops_from e (n ∷ [])) (omega arith)

-- the loops of tables of which the innermost has one, and of those of which it has none
pub one_inside : (ls : List LoopLevel) (l : LoopLevel) → has_loop l.bound ≡ true → loops_along (ls ++ l ∷ []) ≡ loops_along ls ++ loop_at (length ls) l ∷ []
one_inside ls l is = behind 0 ls l ∙ ap (λ (ts : List Turning). loops_along ls ++ ts) (loops_yes (0 + length ls) l [] is ∙ at (omega arith))
  where
    turning_at : ℕ → List Turning
    turning_at d = loop_at d l ∷ []

    at : 0 + length ls ≡ length ls → turning_at (0 + length ls) ≡ turning_at (length ls)
    at e = ap turning_at e

pub none_inside : (ls : List LoopLevel) (l : LoopLevel) → has_loop l.bound ≡ false → loops_along (ls ++ l ∷ []) ≡ loops_along ls
none_inside ls l is = behind 0 ls l ∙ ap (λ (ts : List Turning). loops_along ls ++ ts) (loops_no (0 + length ls) l [] is) ∙ append-nil (loops_along ls)

-- a table of fixed size ends its loop by a number
fixed_bound : (counts : DraftCounts) (n : ℕ) (sent count : Option ℕ) → sent ≡ None → count ≡ None → bound_or n (bound_by counts n sent count) ≡ Number n
fixed_bound counts n sent count first second = rw (first, second) refl

-- where no table varies, tables are as their smaller numbers say
fixed_levels : (counts : DraftCounts) (from to : List TableSize) → AreFixed from → AreFixed to → levels counts from to ≡ map literal (lesser (mosts from) (mosts to))
fixed_levels counts [] to fixed are = refl
fixed_levels counts (f ∷ from) [] fixed are = refl
fixed_levels counts (f ∷ from) (t ∷ to) fixed are =
    let least = min f.most t.most in
    ap (λ (b : LoopBound). record { most = least; bound = b } ∷ levels counts from to) (fixed_bound counts least f.count t.count fixed.0 are.0)
    ∙ ap (λ (ls : List LoopLevel). literal least ∷ ls) (fixed_levels counts from to fixed.1 are.1)

pub fixed_loops : (counts : DraftCounts) (from to : List TableSize) → AreFixed from → AreFixed to
    → loops_along (levels counts from to) ≡ loops_over (lesser (mosts from) (mosts to))
fixed_loops counts from to fixed are = ap loops_along (fixed_levels counts from to fixed are)
