use Rattle.std.proofs.Common.{◌≡◌, List, ◌∷◌, ◌++◌, sym, ap, subst, ◌∙◌, true, false}
use Rattle.std.specs.Prelude.{Some}
use Rattle.cob_source.specs.Tokens.{Lexeme, lexemes}
use Rattle.cob_move_loops.specs.declared.edges.Edge.TheVariants as edge
use Rattle.cob_move_loops.specs.declared.edges.Pair.TheVariants as pair
use Rattle.cob_move_loops.specs.Passages.{AreBranches, Chosen, WrittenChoice, edge_of, kind_of, open_behind}
use Rattle.cob_move_loops.specs.Reading.{ClosedInFront, written_choice}
use Rattle.cob_move_loops.proofs.ChoiceLemmas.{choice_closed, tested_ends}
use Rattle.cob_move_loops.proofs.front.choice_at.Goals as goal

pub are_branches-requires : goal.are_branches-requires
are_branches-requires c =
    let (end, closed, is, cut) = c.in_ok-branches.ensures.found in
    record { closed = subst (λ k. open_behind (pair.Choice k) false (Some 0) (lexemes c.in_ok-branches.branches.now) ≡ Some 0) c.kind_of.ensures closed }

pub returns-in_err-choice-clause-only : goal.returns-in_err-choice-clause-only
returns-in_err-choice-clause-only c = λ d own more (head, stops, end, h, b, word, are, none, e).
    absurd (c.in_err-choice.ensures.only d head (own ++ end ∷ (stops ++ more)) h (tested_ends d own (end ∷ (stops ++ more)) b) e)

pub returns-in_err-branches-clause-only : goal.returns-in_err-branches-clause-only
returns-in_err-branches-clause-only c = λ d own more (head, stops, end, h, b, word, are, none, e).
    let first = c.in_ok-choice.ensures.only d head (own ++ end ∷ (stops ++ more)) h (tested_ends d own (end ∷ (stops ++ more)) b) e in
    absurd (c.in_err-branches.ensures.only own (stops ++ more) (choice_closed c.kind_of.result d (written_choice c.in_ok-choice.choice) own (stops ++ more) (lexemes c.in_ok-choice.inner.now) end c.kind_of.ensures first.0 b word first.1))

pub returns-then-not-are_branches-clause-only : goal.returns-then-not-are_branches-clause-only
returns-then-not-are_branches-clause-only c = λ d own more (head, stops, end, h, b, word, are, none, e).
    let first = c.in_ok-choice.ensures.only d head (own ++ end ∷ (stops ++ more)) h (tested_ends d own (end ∷ (stops ++ more)) b) e in
    let second = c.in_ok-branches.ensures.only own (stops ++ more) (choice_closed c.kind_of.result d (written_choice c.in_ok-choice.choice) own (stops ++ more) (lexemes c.in_ok-choice.inner.now) end c.kind_of.ensures first.0 b word first.1) in
    let yes = c.are_branches.ensures.1 (subst (λ t. AreBranches (written_choice c.in_ok-choice.choice) t) (sym second.0) (subst (λ (m : WrittenChoice). AreBranches m own) (sym first.0) b)) in
    absurd (let never : false ≡ true = sym c.if-not-are_branches.true ∙ yes in cc)

pub returns-clause-found : goal.returns-clause-found
returns-clause-found c =
    let (end, closed, is, cut) = c.in_ok-branches.ensures.found in
    let (head, h, ends, e) = c.in_ok-choice.ensures.found in
    let (stops, are, f) = c.behind_stops.ensures.found in (
      head,
      stops,
      end,
      h,
      c.are_branches.ensures.0 c.if-not-are_branches.false,
      subst (λ k. edge_of (pair.Choice k) end ≡ Some edge.Closes) c.kind_of.ensures is,
      are,
      c.behind_stops.ensures.none,
      e ∙ ap (λ (t : List Lexeme). head ++ t) cut ∙ ap (λ (t : List Lexeme). head ++ (lexemes c.in_ok-branches.branches.now ++ end ∷ t)) f,
    )

pub returns-clause-only : goal.returns-clause-only
returns-clause-only c = λ d own more (head, stops, end, h, b, word, are, none, e).
    let first = c.in_ok-choice.ensures.only d head (own ++ end ∷ (stops ++ more)) h (tested_ends d own (end ∷ (stops ++ more)) b) e in
    let second = c.in_ok-branches.ensures.only own (stops ++ more) (choice_closed c.kind_of.result d (written_choice c.in_ok-choice.choice) own (stops ++ more) (lexemes c.in_ok-choice.inner.now) end c.kind_of.ensures first.0 b word first.1) in
    (λ i. Chosen (first.0 i) (second.0 i), c.behind_stops.ensures.only stops more are none second.1)
