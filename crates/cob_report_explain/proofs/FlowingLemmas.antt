-- Some of the statements between two records.
use Rattle.std.proofs.Common.{◌≡◌, ◌∙◌, ℕ, zero, suc, ◌-◌, List, [], ◌∷◌, ◌++◌, ap, drop, subst, sym, take}
use Rattle.std.specs.List.{AllByRecursion}
use Rattle.cob_codec.specs.declared.reading.Reading.{Reading}
use Rattle.cob_move_data.specs.declared.operands.StatementMoves.{StatementMoves}
use Rattle.cob_move_data.specs.Moves.{AreMoves, IsMove, Move, Records, moves_by, statement_moves_by}
use Rattle.cob_move_apply.specs.Applied.{Applied, Ending}
use Rattle.cob_move_apply.specs.Marked.{items_between}

-- ---- some of the statements mean moves between the records, as all do

all_front : {X : Type 0} (P : X → Type 0) (xs ys : List X) → AllByRecursion P (xs ++ ys) → AllByRecursion P xs
all_front P [] ys h = tt
all_front P (x ∷ xs) ys h = (h.0, all_front P xs ys h.1)

all_rest : {X : Type 0} (P : X → Type 0) (xs ys : List X) → AllByRecursion P (xs ++ ys) → AllByRecursion P ys
all_rest P [] ys h = h
all_rest P (x ∷ xs) ys h = all_rest P xs ys h.1

all_both : {X : Type 0} (P : X → Type 0) (xs ys : List X) → AllByRecursion P xs → AllByRecursion P ys → AllByRecursion P (xs ++ ys)
all_both P [] ys g h = h
all_both P (x ∷ xs) ys g h = (g.0, all_both P xs ys g.1 h)

moves_behind : (x : Reading) (r : Records) (n : ℕ) (ss : List StatementMoves) → AreMoves r (moves_by x r ss) → AreMoves r (moves_by x r (drop n ss))
moves_behind x r zero ss h = h
moves_behind x r (suc n) [] h = h
moves_behind x r (suc n) (s ∷ ss) h = moves_behind x r n ss (all_rest (IsMove r) (statement_moves_by x r s) (moves_by x r ss) h)

moves_first : (x : Reading) (r : Records) (n : ℕ) (ss : List StatementMoves) → AreMoves r (moves_by x r ss) → AreMoves r (moves_by x r (take n ss))
moves_first x r zero ss h = tt
moves_first x r (suc n) [] h = tt
moves_first x r (suc n) (s ∷ ss) h =
    all_both (IsMove r) (statement_moves_by x r s) (moves_by x r (take n ss)) (all_front (IsMove r) (statement_moves_by x r s) (moves_by x r ss) h)
    (moves_first x r n ss (all_rest (IsMove r) (statement_moves_by x r s) (moves_by x r ss) h))

pub some_are_moves : (x : Reading) (r : Records) (from to : ℕ) (ss own : List StatementMoves) → own ≡ items_between from to ss → AreMoves r (moves_by x r ss) → AreMoves r (moves_by x r own)
some_are_moves x r from to ss own is h =
    subst (λ (xs : List StatementMoves). AreMoves r (moves_by x r xs)) (sym is) (moves_first x r (to - from) (drop from ss) (moves_behind x r from ss h))

pub applied_some : (x y : Reading) (r : Records) (ss : List StatementMoves) (ms : List Move) (input before : List ℕ) (end : Ending) → x ≡ y → ms ≡ moves_by y r ss
    → Applied r (moves_by x r ss) input before end → Applied r ms input before end
applied_some x y r ss ms input before end same are h =
    subst (λ (ns : List Move). Applied r ns input before end) (ap (λ (z : Reading). moves_by z r ss) same ∙ sym are) h
