use Rattle.std.proofs.Common.{◌≡◌, true, false, List, subst, ap, sym, ◌∙◌, ◌++◌}
use Rattle.cob_source.specs.Tokens.{Lexeme}
use Rattle.cob_move_statements.specs.Statements.{EndsStatement}
use Rattle.cob_move_statements.proofs.ParagraphLemmas.{ends_fit}
use Rattle.cob_move_statements.proofs.paragraph.ended_statement_at.Goals as goal

pub returns-in_default-clause-only : goal.returns-in_default-clause-only
returns-in_default-clause-only c = λ x more is.
    let never = c.in_ok-statement.ensures.only x is.own (is.stops ++ more) is.statement (ends_fit (is.stops ++ more) is.ends) is.words_are in
    rw c.in_default.is at never

pub returns-then-not-ends_statement-clause-only : goal.returns-then-not-ends_statement-clause-only
returns-then-not-ends_statement-clause-only c = λ x more is.
    let read = c.in_ok-statement.ensures.only x is.own (is.stops ++ more) is.statement (ends_fit (is.stops ++ more) is.ends) is.words_are in
    let same = rw c.in-Some.is at read in
    let must = c.ends_statement.ensures.1 (subst EndsStatement (sym same.1) is.ends) in
    let never : true ≡ false = sym must ∙ c.if-not-ends_statement.true in
    absurd cc

pub returns-clause-found : goal.returns-clause-found
returns-clause-found c =
    let (own, is, e) = rw c.in-Some.is at c.in_ok-statement.ensures.found in
    let (stops, are, f) = c.behind_stops.ensures.found in
    record {
      own = own;
      stops = stops;
      statement = is;
      are_stops = are;
      none_more = c.behind_stops.ensures.none;
      ends = subst EndsStatement f (c.ends_statement.ensures.0 c.if-not-ends_statement.false);
      words_are = e ∙ ap (λ (t : List Lexeme). own ++ t) f;
    }

pub returns-clause-only : goal.returns-clause-only
returns-clause-only c = λ x more is.
    let read = c.in_ok-statement.ensures.only x is.own (is.stops ++ more) is.statement (ends_fit (is.stops ++ more) is.ends) is.words_are in
    let same = rw c.in-Some.is at read in
    (same.0, c.behind_stops.ensures.only is.stops more is.are_stops is.none_more same.1)
