-- Statements, one after another.
use Rattle.std.proofs.Common.{◌≡◌, ℕ, ◌+◌, ◌<◌, ◌≤◌, List, [], ◌∷◌, ◌++◌, length, get_or, drop, refl, sym, ap, subst, ◌∙◌, append_assoc, append-nil}
use Rattle.std.proofs.lemmas.List.{drop_all}
use Rattle.std.proofs.lemmas.Grind.{flat_map-append}
use Rattle.cob_copybook_tree.specs.Forests.{Forest}
use Rattle.cob_copybook_tree.specs.Nodes.{Resolved}
use Rattle.cob_move_data.specs.declared.operands.StatementMoves.{StatementMoves}
use Rattle.cob_move_data.specs.Moves.{Move, Records, moves, statement_moves}
use Rattle.cob_move_statements.specs.declared.parts.Statement.{Statement}
use Rattle.cob_move_statements.specs.Written.{WrittenStatement, written_statement, written_statements}
use Rattle.cob_move_names.specs.Candidates.{Candidate, all_entries}
use Rattle.cob_move.specs.Meaning.{AreMeanings, AreMeant, IsMeaning}
use Rattle.cob_move.proofs.SomeLemmas.{next}

-- the moves of one statement more
one_more : (r : Records) (now new : List StatementMoves) (own : StatementMoves) → new ≡ now ++ own ∷ [] → moves r new ≡ moves r now ++ statement_moves r own
one_more r now new own added =
    ap (λ (xs : List StatementMoves). moves r xs) added ∙ flat_map-append (statement_moves r) now (own ∷ [])
    ∙ ap (λ (xs : List Move). moves r now ++ xs) (append-nil (statement_moves r own))

pub meanings_more : (r : Records) (all : List Candidate) (input output : Forest Resolved) (ss : List Statement) (i : ℕ) (s : Statement) (now new : List StatementMoves) (own : StatementMoves)
    → i < length ss → s ≡ get_or ss i s → new ≡ now ++ own ∷ [] → IsMeaning all input output (written_statement s).action (statement_moves r own)
    → ((more : List Move) → AreMeanings all input output (written_statements (drop i ss)) more → AreMeanings all input output (written_statements ss) (moves r now ++ more))
    → (more : List Move) → AreMeanings all input output (written_statements (drop (i + 1) ss)) more → AreMeanings all input output (written_statements ss) (moves r new ++ more)
meanings_more r all input output ss i s now new own lt is added h before more rest =
    let mine : List Move = statement_moves r own in
    let same : moves r now ++ (mine ++ more) ≡ moves r new ++ more =
    sym (append_assoc (moves r now) mine more) ∙ ap (λ (xs : List Move). xs ++ more) (sym (one_more r now new own added)) in
    subst (λ (xs : List Move). AreMeanings all input output (written_statements ss) xs) same
    (before (mine ++ more) (subst (λ (qs : List Statement). AreMeanings all input output (written_statements qs) (mine ++ more)) (sym (next ss i s lt is)) (mine, more, h, rest, refl)))

pub meanings_all : (r : Records) (all : List Candidate) (input output : Forest Resolved) (ss : List Statement) (i : ℕ) (now : List StatementMoves) → length ss ≤ i
    → ((more : List Move) → AreMeanings all input output (written_statements (drop i ss)) more → AreMeanings all input output (written_statements ss) (moves r now ++ more))
    → AreMeanings all input output (written_statements ss) (moves r now)
meanings_all r all input output ss i now past before =
    subst (λ (xs : List Move). AreMeanings all input output (written_statements ss) xs) (append-nil (moves r now))
    (before [] (subst (λ (qs : List Statement). AreMeanings all input output (written_statements qs) []) (sym (drop_all i ss past)) refl))

-- what statements mean where any entry of two records may be named
pub meant_here : (all : List Candidate) (r : Records) (ss : List WrittenStatement) (xs : List StatementMoves) → all ≡ all_entries r.input r.output → AreMeanings all r.input r.output ss (moves r xs)
    → AreMeant r.input r.output ss (moves r xs)
meant_here all r ss xs named h = subst (λ (cs : List Candidate). AreMeanings cs r.input r.output ss (moves r xs)) named h
