-- The moves of statements, one statement's behind another's.
use Rattle.std.proofs.Common.{◌≡◌, ℕ, zero, suc, ◌+◌, ◌<◌, ◌≤◌, List, [], ◌∷◌, ◌++◌, length, get_or, drop, sym, ap, subst, arith}
use Rattle.std.proofs.lemmas.List.{drop_all}
use Rattle.cob_codec.specs.declared.reading.Reading.{Reading}
use Rattle.cob_move_data.specs.declared.operands.StatementMoves.{StatementMoves}
use Rattle.cob_move_data.specs.Moves.{AreMoves, Move, Records, moves, moves_by, statement_moves, statement_moves_by}
use Rattle.cob_move_apply.proofs.ListLemmas.{next}

-- the moves of a statement, and behind them those of the statements behind it
pub cut_statement : (x : Reading) (r : Records) (ss : List StatementMoves) (i : ℕ) (s : StatementMoves) → i < length ss → s ≡ get_or ss i s
    → moves_by x r (drop i ss) ≡ statement_moves_by x r s ++ moves_by x r (drop (i + 1) ss)
cut_statement x r ss i s lt is = ap (λ (xs : List StatementMoves). moves_by x r xs) (next ss i s lt is)

pub none_left : (x : Reading) (r : Records) (ss : List StatementMoves) (i : ℕ) → length ss ≤ i → moves_by x r (drop i ss) ≡ []
none_left x r ss i past = ap (λ (xs : List StatementMoves). moves_by x r xs) (drop_all i ss past)

-- ---- they are moves between the records

front_moves : (r : Records) (xs ys : List Move) → AreMoves r (xs ++ ys) → AreMoves r xs
front_moves r [] ys h = tt
front_moves r (x ∷ xs) ys h = (h.0, front_moves r xs ys h.1)

back_moves : (r : Records) (xs ys : List Move) → AreMoves r (xs ++ ys) → AreMoves r ys
back_moves r [] ys h = h
back_moves r (x ∷ xs) ys h = back_moves r xs ys h.1

-- the moves of each statement are
pub moves_at : (r : Records) (ss : List StatementMoves) (i : ℕ) (s : StatementMoves) → i < length ss → s ≡ get_or ss i s
    → AreMoves r (moves r ss) → AreMoves r (statement_moves r s)
moves_at r [] i s lt is h = absurd (omega (arith, lt))
moves_at r (x ∷ ss) zero s lt is h = subst (λ (y : StatementMoves). AreMoves r (statement_moves r y)) (sym is) (front_moves r (statement_moves r x) (moves r ss) h)
moves_at r (x ∷ ss) (suc n) s lt is h = moves_at r ss n s (omega (arith, lt)) is (back_moves r (statement_moves r x) (moves r ss) h)
