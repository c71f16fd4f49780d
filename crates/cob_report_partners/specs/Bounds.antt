-- The counts of tables that vary, and by what a loop over the elements of two tables ends.
use Rattle.std.specs.Prelude.{◌≡◌, ℕ, ◌≤◌, Bool, true, false, ◌==◌, ◌&&◌, ◌||◌, min, not, is_some, List, [], ◌∷◌, Option, Some, None, IfSome}
use Rattle.std.specs.List.{AllByRecursion, list_any}
use Rattle.cob_report_partners.specs.declared.bounds.CountMove.{CountMove}
use Rattle.cob_report_partners.specs.declared.bounds.DraftCounts.{DraftCounts}
use Rattle.cob_report_partners.specs.declared.bounds.LoopBound.{LoopBound}
use Rattle.cob_report_partners.specs.declared.bounds.LoopBound.TheVariants.{Number, Input, Output}
use Rattle.cob_report_partners.specs.declared.bounds.TableSize.{TableSize}

-- the number is one of these
abbrev pub is_among : List ℕ → ℕ → Bool
is_among ns number = list_any (λ n. n == number) ns

-- one of these moves is to the count with this number
abbrev pub is_moved : List CountMove → ℕ → Bool
is_moved moves count = list_any (λ (m : CountMove). m.to == count) moves

-- one of them is to that count, from the entry with this number
abbrev pub is_moved_from : List CountMove → (sent count : ℕ) → Bool
is_moved_from moves sent count = list_any (λ (m : CountMove). m.to == count && m.from == sent) moves

-- the bound, if it may be one
abbrev pub bound_where : Bool → LoopBound → Option LoopBound
bound_where false b = None
bound_where true b = Some b

-- By what a loop ends, if it may end, over the elements of a table of the input record and of one of the output record that have these counts, and of which
-- the smaller has so many elements at most:
-- neither varies: by that number;
-- the input's alone does: by its count, if a statement can name that;
-- the output's alone does: by its count, if that is moved before;
-- both do: by the input's count, if that is moved to the output's before.
abbrev pub bound_by : DraftCounts → ℕ → (sent count : Option ℕ) → Option LoopBound
bound_by counts least None None = Some (Number least)
bound_by counts least (Some sent) None = bound_where (is_among counts.named.now sent) (Input sent)
bound_by counts least None (Some count) = bound_where (is_moved counts.moved.now count) (Output count)
bound_by counts least (Some sent) (Some count) = bound_where (is_moved_from counts.moved.now sent count) (Input sent)

-- by what a loop over the elements of these two tables ends, if it may end
abbrev pub bound_of : DraftCounts → (from to : TableSize) → Option LoopBound
bound_of counts from to = bound_by counts (min from.most to.most) from.count to.count

-- a loop over their elements may end
abbrev pub has_bound : DraftCounts → (from to : TableSize) → Bool
has_bound counts from to = is_some (bound_of counts from to)

-- only the first of two tables varies, and no statement can name its count
abbrev pub unnamed_by : DraftCounts → (sent count : Option ℕ) → Bool
unnamed_by counts (Some sent) None = not (is_among counts.named.now sent)
unnamed_by counts (Some sent) (Some count) = false
unnamed_by counts None count = false

abbrev pub is_unnamed : DraftCounts → (from to : TableSize) → Bool
is_unnamed counts from to = unnamed_by counts from.count to.count

-- the second varies, and nothing is moved to its count before
abbrev pub unmoved_by : DraftCounts → Option ℕ → Bool
unmoved_by counts None = false
unmoved_by counts (Some count) = not (is_moved counts.moved.now count)

abbrev pub is_unmoved : DraftCounts → (from to : TableSize) → Bool
is_unmoved counts from to = unmoved_by counts to.count

-- both vary, and what is moved to the count of the second is not the count of the first
abbrev pub apart_by : DraftCounts → (sent count : Option ℕ) → Bool
apart_by counts (Some sent) (Some count) = is_moved counts.moved.now count && not (is_moved_from counts.moved.now sent count)
apart_by counts (Some sent) None = false
apart_by counts None count = false

abbrev pub is_apart : DraftCounts → (from to : TableSize) → Bool
is_apart counts from to = apart_by counts from.count to.count

-- each two tables that as many tables hold are so
abbrev pub all_levels : (TableSize → TableSize → Bool) → (from to : List TableSize) → Bool
all_levels are [] to = true
all_levels are (f ∷ from) [] = true
all_levels are (f ∷ from) (t ∷ to) = are f t && all_levels are from to

-- and some two of them are
abbrev pub some_level : (TableSize → TableSize → Bool) → (from to : List TableSize) → Bool
some_level are [] to = false
some_level are (f ∷ from) [] = false
some_level are (f ∷ from) (t ∷ to) = are f t || some_level are from to

-- how far a loop goes, where the counts of the two records have these numbers
abbrev pub number_at : (input output : ℕ → ℕ) → LoopBound → ℕ
number_at input output (Number n) = n
number_at input output (Input count) = input count
number_at input output (Output count) = output count

-- the counts have the numbers that were moved to them
abbrev pub AreMoved : (input output : ℕ → ℕ) → List CountMove → Type 0
AreMoved input output moves = AllByRecursion (λ (m : CountMove). output m.to ≡ input m.from) moves

-- the number is not past the count of a table, if that varies
abbrev pub IsWithin : ℕ → (ℕ → ℕ) → Option ℕ → Type 0
IsWithin n numbers count = IfSome count (λ c. n ≤ numbers c)

-- a loop goes past the count of neither table
abbrev pub StaysWithin : (input output : ℕ → ℕ) → (from to : TableSize) → LoopBound → Type 0
StaysWithin input output from to b = IsWithin (number_at input output b) input from.count × IsWithin (number_at input output b) output to.count
