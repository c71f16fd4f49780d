-- Which loops a statement of a draft stands in, by what they end, which subscripts it has there, and which elements it moves.
use Rattle.std.specs.Prelude.{◌≡◌, ℕ, zero, suc, ◌+◌, ◌<◌, ◌&&◌, Bool, true, min, nat_eq, nat_le, nat_lt, if◌then◌else◌, List, [], ◌∷◌, ◌++◌, map, get_or, flat_map, Option, Some, None}
use Rattle.std.specs.List.{AllByRecursion}
use Rattle.cob_report_draft.specs.declared.loops.LoopLevel.{LoopLevel}
use Rattle.cob_report_draft.specs.declared.loops.TableLoop.{TableLoop}
use Rattle.cob_report_draft.specs.declared.words.Subscript.{Subscript}
use Rattle.cob_report_draft.specs.declared.words.Subscript.TheVariants.{Counter, First}
use Rattle.cob_report_partners.specs.Bounds.{bound_of, number_at}
use Rattle.cob_report_partners.specs.declared.bounds.DraftCounts.{DraftCounts}
use Rattle.cob_report_partners.specs.declared.bounds.LoopBound.{LoopBound}
use Rattle.cob_report_partners.specs.declared.bounds.LoopBound.TheVariants.{Number, Input, Output}
use Rattle.cob_report_partners.specs.declared.bounds.TableSize.{TableSize}

-- how many elements two entries both have of each table, the outermost first
abbrev pub lesser : List ℕ → List ℕ → List ℕ
lesser [] others = []
lesser (n ∷ ns) [] = []
lesser (n ∷ ns) (m ∷ ms) = min n m ∷ lesser ns ms

-- the greatest numbers of tables
abbrev pub mosts : List TableSize → List ℕ
mosts ts = map (λ (t : TableSize). t.most) ts

-- none of these tables varies
abbrev pub AreFixed : List TableSize → Type 0
AreFixed ts = AllByRecursion (λ (t : TableSize). t.count ≡ None) ts

-- the bound that there is, else this number
abbrev pub bound_or : ℕ → Option LoopBound → LoopBound
bound_or n None = Number n
bound_or n (Some b) = b

-- a table of the input record and one of the output record: how many elements both have at most, and by what a loop over these ends
abbrev pub level_of : DraftCounts → (from to : TableSize) → LoopLevel
level_of counts from to = record { most = min from.most to.most; bound = bound_or (min from.most to.most) (bound_of counts from to) }

-- so of each two tables of two entries, the outermost first
abbrev pub levels : DraftCounts → (from to : List TableSize) → List LoopLevel
levels counts [] to = []
levels counts (f ∷ from) [] = []
levels counts (f ∷ from) (t ∷ to) = level_of counts f t ∷ levels counts from to

-- two tables of fixed size, of which the smaller has so many elements
abbrev pub literal : ℕ → LoopLevel
literal n = record { most = n; bound = Number n }

-- a loop: how many tables hold the one that it goes over, how many turns it has at most, and by what it ends
pub record Turning : Type 0 where
  pub depth : ℕ
  pub turns : ℕ
  pub bound : LoopBound

-- a loop of the code, without which table it is
abbrev pub turning : TableLoop → Turning
turning l = record { depth = l.depth; turns = l.turns; bound = l.bound }

-- the loop over a table that so many tables hold
abbrev pub loop_at : ℕ → LoopLevel → Turning
loop_at depth l = record { depth = depth; turns = l.most; bound = l.bound }

-- a table has a loop: it has several elements, or a count says how many
abbrev pub has_loop : LoopBound → Bool
has_loop (Number n) = nat_lt 1 n
has_loop (Input count) = true
has_loop (Output count) = true

-- the loops of tables of which so many hold the first
abbrev pub loops_from : ℕ → List LoopLevel → List Turning
loops_from depth [] = []
loops_from depth (l ∷ ls) = if has_loop l.bound then loop_at depth l ∷ loops_from (depth + 1) ls else loops_from (depth + 1) ls

-- the loops over these tables, the outermost first
abbrev pub loops_along : List LoopLevel → List Turning
loops_along ls = loops_from 0 ls

-- the loops of tables with so many elements, the outermost first
abbrev pub loops_over : List ℕ → List Turning
loops_over ns = loops_along (map literal ns)

-- The subscript, in loops that are numbered from here, for the table that so many tables hold, of which there are so many elements: the counter of its loop, if
-- that goes no further.
abbrev pub subscript_from : ℕ → List Turning → ℕ → ℕ → Subscript
subscript_from number [] depth count = First
subscript_from number (l ∷ ls) depth count = if nat_eq l.depth depth && nat_le l.turns count then Counter number else subscript_from (number + 1) ls depth count

-- the subscripts, in these loops, of an entry in tables with so many elements, of which so many tables hold the first
abbrev pub subscripts_from : List Turning → ℕ → List ℕ → List Subscript
subscripts_from loops depth [] = []
subscripts_from loops depth (n ∷ ns) = subscript_from 0 loops depth n ∷ subscripts_from loops (depth + 1) ns

-- the numbers from 1 to this one
abbrev pub one_to : ℕ → List ℕ
one_to zero = []
one_to (suc n) = one_to n ++ suc n ∷ []

-- the numbers of the counters of these loops, turn by turn, the innermost the fastest, where each goes so far by how many turns it has at most and by its bound
abbrev pub turns_by : (ℕ → LoopBound → ℕ) → List Turning → List (List ℕ)
turns_by far [] = [] ∷ []
turns_by far (l ∷ ls) = flat_map (λ i. map (λ turn. i ∷ turn) (turns_by far ls)) (one_to (far l.turns l.bound))

-- those of loops that have all their turns
abbrev pub all_turns : List Turning → List (List ℕ)
all_turns ls = turns_by (λ turns bound. turns) ls

-- and those of loops where the counts of the two records have these numbers
abbrev pub turns_at : (input output : ℕ → ℕ) → List Turning → List (List ℕ)
turns_at input output ls = turns_by (λ turns bound. number_at input output bound) ls

-- the number of a subscript in a turn
abbrev pub subscript_in : List ℕ → Subscript → ℕ
subscript_in turn First = 1
subscript_in turn (Counter k) = get_or turn k 1

-- the subscripts of all elements of these tables, the last one the fastest
abbrev pub elements : List ℕ → List (List ℕ)
elements [] = [] ∷ []
elements (n ∷ ns) = flat_map (λ i. map (λ element. i ∷ element) (elements ns)) (one_to n)

-- a table of fixed size has an element
abbrev pub HasElements : LoopBound → Type 0
HasElements (Number n) = 0 < n
HasElements (Input count) = Unit {0}
HasElements (Output count) = Unit {0}

-- each of these tables that is of fixed size has one
abbrev pub HaveElements : List LoopLevel → Type 0
HaveElements ls = AllByRecursion (λ (l : LoopLevel). HasElements l.bound) ls

-- the greatest numbers of tables that both records have
abbrev pub greatest : List LoopLevel → List ℕ
greatest ls = map (λ (l : LoopLevel). l.most) ls

-- how many elements these tables have, where the counts of the two records have these numbers
abbrev pub numbers_at : (input output : ℕ → ℕ) → List LoopLevel → List ℕ
numbers_at input output ls = map (λ (l : LoopLevel). number_at input output l.bound) ls
