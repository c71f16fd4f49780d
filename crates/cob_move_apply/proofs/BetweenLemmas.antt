-- Statements between two marks.
use Rattle.std.proofs.Common.{◌≡◌, ◌∙◌, ℕ, ◌-◌, ◌<◌, ◌≤◌, List, ap, arith, get_or, length}
use Rattle.cob_move_data.specs.declared.operands.StatementMoves.{StatementMoves}
use Rattle.cob_move_data.specs.Moves.{Records}
use Rattle.cob_move_apply.specs.Marked.{ArePartedBy, items_between, last_mark, mark_at}
use Rattle.cob_move_apply.specs.Steps.{Support}
use Rattle.cob_move_apply.specs.declared.marking.Mark.{Mark}
use Rattle.cob_move_apply.specs.declared.step.Step.{Step}
use Rattle.cob_move_apply.proofs.MarkLemmas.{mark_read}

pub statement_within : (r : Records) (given : List StatementMoves) (on : Support) (steps : List Step) (marks : List Mark) (from to : ℕ) (p q : Mark) → ArePartedBy r given on steps marks
    → (last_mark marks).statement ≡ length given → from ≤ to → to < length marks → p ≡ get_or marks from p → q ≡ get_or marks to q → (p.statement ≤ q.statement) × (q.statement ≤ length given)
statement_within r given on steps marks from to p q parted whole le lt here there =
    let first : p ≡ mark_at marks from = mark_read marks from p (omega (arith, le, lt)) here in
    let last : q ≡ mark_at marks to = mark_read marks to q lt there in
    let rises = (parted.rise from to le lt).0 in
    let end = (parted.rise to (length marks - 1) (omega (arith, lt)) (omega (arith, lt))).0 in
    (omega (arith, ap (λ (m : Mark). m.statement) first, ap (λ (m : Mark). m.statement) last, rises), omega (arith, ap (λ (m : Mark). m.statement) last, end, whole))

-- what is read between two numbers is what stands there
pub same_between : (given lent own : List StatementMoves) (a b p q : ℕ) → p ≡ a → q ≡ b → lent ≡ given → own ≡ items_between p q lent → own ≡ items_between a b given
same_between given lent own a b p q pa qb same is =
    is ∙ ap (λ (xs : List StatementMoves). items_between p q xs) same ∙ ap (λ (n : ℕ). items_between p n given) qb ∙ ap (λ (n : ℕ). items_between n b given) pa
