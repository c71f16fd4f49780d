-- Paragraphs that are ready.
use Rattle.std.proofs.Common.{◌≡◌, ℕ, ◌+◌, ◌-◌, ◌<◌, ◌≤◌, zero, suc, List, [], ◌∷◌, ◌++◌, drop, get_or, length, map, refl, sym, ap, subst, ◌∙◌, append-nil, arith, take}
use Rattle.std.proofs.Math.Seq.{take-length}
use Rattle.cob_codec.specs.declared.reading.Reading.{Reading}
use Rattle.cob_move_data.specs.declared.operands.StatementMoves.{StatementMoves}
use Rattle.cob_move_data.specs.Moves.{Move, Records, moves_by}
use Rattle.cob_move_apply.specs.Joined.{steps_in}
use Rattle.cob_move_apply.specs.Marked.{AreMarkedPrepared, ends_of_marks, items_between, last_mark, mark_at, marked_steps, parted_steps, statement_of}
use Rattle.cob_move_apply.specs.Prepared.{moves_of}
use Rattle.cob_move_apply.specs.declared.marked.MarkedMoves.{MarkedMoves}
use Rattle.cob_move_apply.specs.declared.marking.Mark.{Mark}
use Rattle.cob_move_deeds.specs.Deeds.{Choice, Deeds, IsStraight, Moving, Nothing, moves_of_deeds}
use Rattle.cob_move_deeds.specs.Flows.{deeds_by}
use Rattle.cob_move_deeds.specs.Prepared.{deeds_of}
use Rattle.cob_move_deeds.specs.Tests.{Test}
use Rattle.cob_move_deeds.specs.declared.ready.ReadyDeeds.{ReadyDeeds}
use Rattle.cob_move.specs.Paragraphs.{AreReady}

straight_by : (x : Reading) (d : Deeds Test) → IsStraight (deeds_by x d) → IsStraight d
straight_by x Nothing is = tt
straight_by x (Moving ms more) is = straight_by x more is
straight_by x (Choice t holding lacking more) is = absurd is

-- marks that are not more stand where moves still lie together
pub together_by : (x : Reading) (r : Records) (d e : ReadyDeeds) → AreReady r d → deeds_of r e ≡ deeds_by x (deeds_of r d) → ends_of_marks e.moves ≡ ends_of_marks d.moves → IsStraight (deeds_of r e) → length (ends_of_marks e.moves) ≤ 2
together_by x r d e ready same ends is =
    omega (arith, ap length ends, ready.together (straight_by x (deeds_of r d) (subst (λ (k : Deeds Test). IsStraight k) same is)))

-- ---- steps where all moves lie together

all_between : (n : ℕ) (xs : List StatementMoves) → n ≡ length xs → items_between 0 n xs ≡ xs
all_between n xs same = ap (λ (k : ℕ). take (k - 0) xs) same ∙ ap (λ (k : ℕ). take k xs) (omega arith) ∙ take-length xs

steps_at : (x : Reading) (r : Records) (given : List StatementMoves) (marks : List Mark) → 0 < length marks → length marks ≤ 2 → (mark_at marks 0).statement ≡ 0 → (last_mark marks).statement ≡ length given
    → parted_steps x r given 0 marks ≡ steps_in r (moves_by x r given)
steps_at x r given [] some few first last = absurd (omega (arith, some))
steps_at x r given (m ∷ []) some few first last =
    let none : [] ≡ given = sym (nothing given (sym last ∙ first)) in
    let all : steps_in r (moves_by x r (items_between 0 m.statement given)) ≡ steps_in r (moves_by x r given) =
    ap (λ (n : ℕ). steps_in r (moves_by x r (items_between 0 n given))) first ∙ ap (λ (ss : List StatementMoves). steps_in r (moves_by x r ss)) none in
    omega (arith, all)
  where
    nothing : (xs : List StatementMoves) → length xs ≡ 0 → xs ≡ []
    nothing [] e = refl
    nothing (y ∷ xs) e = absurd (omega (arith, e))
steps_at x r given (m ∷ n ∷ []) some few first last =
    let before : steps_in r (moves_by x r (items_between 0 m.statement given)) ≡ 0 = ap (λ (k : ℕ). steps_in r (moves_by x r (items_between 0 k given))) first in
    let all : steps_in r (moves_by x r (items_between m.statement n.statement given)) ≡ steps_in r (moves_by x r given) =
    ap (λ (k : ℕ). steps_in r (moves_by x r (items_between k n.statement given))) first ∙ ap (λ (ss : List StatementMoves). steps_in r (moves_by x r ss)) (all_between n.statement given last) in
    omega (arith, before, all)
steps_at x r given (m ∷ n ∷ k ∷ marks) some few first last = absurd (omega (arith, few))

marks_many : (marks : List Mark) → length (map statement_of marks) ≡ length marks
marks_many [] = refl
marks_many (m ∷ marks) = omega (arith, marks_many marks)

pub steps_together : (r : Records) (d : ReadyDeeds) → AreReady r d → IsStraight (deeds_of r d) → marked_steps r d.moves ≡ steps_in r (moves_of_deeds (deeds_of r d))
steps_together r d ready is =
    let m = d.moves in
    let parted = ready.prepared.moves.parted in
    steps_at m.moves.reading r m.moves.statements.items m.marks.items parted.some (omega (arith, ready.together is, marks_many m.marks.items)) (ap (λ (k : Mark). k.statement) parted.first) ready.prepared.moves.whole
    ∙ ap (λ (ms : List Move). steps_in r ms) (sym ready.all)
