use Rattle.std.proofs.Common.{◌≡◌, List, ◌∷◌, ◌++◌, sym, ap, subst, ◌∙◌, true, false}
use Rattle.cob_source.specs.Tokens.{Lexeme, lexemes}
use Rattle.cob_move_loops.specs.Words.{passage_word}
use Rattle.cob_move_loops.specs.Passages.{BoundEnds, IsLoopBody, Looped, WrittenLoop}
use Rattle.cob_move_loops.specs.Reading.{written_bound}
use Rattle.cob_move_loops.proofs.ChoiceLemmas.{closes_loop, loop_closes}
use Rattle.cob_move_loops.proofs.HeadLemmas.{ends_before, ends_of_body}
use Rattle.cob_move_loops.proofs.front.loop_at.Goals as goal

pub is_body-requires : goal.is_body-requires
is_body-requires c =
    let (end, closed, is, cut) = c.in_ok-body.ensures.found in
    let bound = written_bound c.in_ok-head.head.bound in
    let (ws, head, ends, e) = c.in_ok-head.ensures.found in record {
      closed = closed;
      ends = ends_of_body bound (lexemes c.in_ok-body.body.now) (end ∷ lexemes c.in_ok-body.rest.now) (subst (λ t. BoundEnds bound t) cut ends);
    }

pub returns-in_err-head-clause-only : goal.returns-in_err-head-clause-only
returns-in_err-head-clause-only c = λ l own more (head, stops, end, h, b, word, are, none, e).
    absurd (c.in_err-head.ensures.only l head (own ++ end ∷ (stops ++ more)) h (ends_before l.bound own (end ∷ (stops ++ more)) b) e)

pub returns-in_err-body-clause-only : goal.returns-in_err-body-clause-only
returns-in_err-body-clause-only c = λ l own more (head, stops, end, h, b, word, are, none, e).
    let first = c.in_ok-head.ensures.only l head (own ++ end ∷ (stops ++ more)) h (ends_before l.bound own (end ∷ (stops ++ more)) b) e in
    absurd (c.in_err-body.ensures.only own (stops ++ more) (end, b.closed, closes_loop end word, first.1))

pub returns-then-not-is_body-clause-only : goal.returns-then-not-is_body-clause-only
returns-then-not-is_body-clause-only c = λ l own more (head, stops, end, h, b, word, are, none, e).
    let first = c.in_ok-head.ensures.only l head (own ++ end ∷ (stops ++ more)) h (ends_before l.bound own (end ∷ (stops ++ more)) b) e in
    let second = c.in_ok-body.ensures.only own (stops ++ more) (end, b.closed, closes_loop end word, first.1) in
    let yes = c.is_body.ensures.1 (subst (λ t. IsLoopBody (written_bound c.in_ok-head.head.bound) t) (sym second.0) (subst (λ (m : WrittenLoop). IsLoopBody m.bound own) (sym first.0) b)) in
    absurd (let never : false ≡ true = sym c.if-not-is_body.true ∙ yes in cc)

pub returns-clause-only : goal.returns-clause-only
returns-clause-only c = λ l own more (head, stops, end, h, b, word, are, none, e).
    let first = c.in_ok-head.ensures.only l head (own ++ end ∷ (stops ++ more)) h (ends_before l.bound own (end ∷ (stops ++ more)) b) e in
    let second = c.in_ok-body.ensures.only own (stops ++ more) (end, b.closed, closes_loop end word, first.1) in
    (λ i. Looped (first.0 i) (second.0 i), c.behind_stops.ensures.only stops more are none second.1)

pub returns-clause-found : goal.returns-clause-found
returns-clause-found c =
    let (end, closed, is, cut) = c.in_ok-body.ensures.found in
    let (head, h, ends, e) = c.in_ok-head.ensures.found in
    let (stops, are, f) = c.behind_stops.ensures.found in (
      head,
      stops,
      end,
      h,
      c.is_body.ensures.0 c.if-not-is_body.false,
      loop_closes (passage_word end) is,
      are,
      c.behind_stops.ensures.none,
      e ∙ ap (λ (t : List Lexeme). head ++ t) cut ∙ ap (λ (t : List Lexeme). head ++ (lexemes c.in_ok-body.body.now ++ end ∷ t)) f,
    )
