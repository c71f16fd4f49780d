use Rattle.std.proofs.Common.{◌≡◌, ◌∷◌, [], ◌∙◌, ap, sym}
use Rattle.cob_source.specs.Tokens.{lexeme, lexemes}
use Rattle.cob_copybook_clauses.specs.Written.{written_value}
use Rattle.cob_move_loops.proofs.PassageLemmas.{none_left, some_left}
use Rattle.cob_move_choices.specs.Values.{FromToWritten, OneWritten}
use Rattle.cob_move_choices.proofs.ListedLemmas.{no_first, no_last, no_thru, nothing_left, one_value, some_behind, two_values}
use Rattle.cob_move_choices.proofs.SpanLemmas.{one_span}
use Rattle.cob_move_choices.proofs.values.whole_listed.Goals as goal

pub returns-in_err-first-clause-only : goal.returns-in_err-first-clause-only
returns-in_err-first-clause-only c = λ w is. absurd (no_first (lexemes c.args.words.now) c.in_err-first.ensures.only w is)

pub returns-in_default-clause-found : goal.returns-in_default-clause-found
returns-in_default-clause-found c =
    one_value (written_value c.in_ok-first.first) (lexemes c.args.words.now) (lexemes c.in_ok-first.behind.now) c.in_ok-first.ensures.found (nothing_left c.in_ok-first.behind.now c.in_default.ensures.cases)

pub returns-in_default-clause-only : goal.returns-in_default-clause-only
returns-in_default-clause-only c = λ w is.
    let words = lexemes c.args.words.now in
    one_span (OneWritten (written_value c.in_ok-first.first)) w words
    (one_value (written_value c.in_ok-first.first) words (lexemes c.in_ok-first.behind.now) c.in_ok-first.ensures.found (nothing_left c.in_ok-first.behind.now c.in_default.ensures.cases)) is

pub returns-then-not-is_thru-clause-only : goal.returns-then-not-is_thru-clause-only
returns-then-not-is_thru-clause-only c = λ w is.
    absurd (no_thru (written_value c.in_ok-first.first) (lexemes c.args.words.now) (lexemes c.in_ok-first.behind.now) (lexemes c.in-Some.more.now) (lexeme c.in-Some.thru.now) c.in_ok-first.ensures.found (ap lexemes c.in-Some.ensures.cases.0)
    (λ thru. let never = sym c.if-not-is_thru.true ∙ c.is_thru.ensures.1 thru in cc) w is)

pub returns-in_err-last-clause-only : goal.returns-in_err-last-clause-only
returns-in_err-last-clause-only c = λ w is.
    absurd (no_last (written_value c.in_ok-first.first) (lexemes c.args.words.now) (lexemes c.in_ok-first.behind.now) (lexemes c.in-Some.more.now) (lexeme c.in-Some.thru.now) c.in_ok-first.ensures.found (ap lexemes c.in-Some.ensures.cases.0)
    c.in_err-last.ensures.only w is)

pub returns-then-not-is_empty-clause-only : goal.returns-then-not-is_empty-clause-only
returns-then-not-is_empty-clause-only c = λ w is.
    absurd (some_behind (written_value c.in_ok-first.first) (written_value c.in_ok-last.last) (lexemes c.args.words.now) (lexemes c.in_ok-first.behind.now) (lexemes c.in-Some.more.now) (lexemes c.in_ok-last.left.now) (lexeme c.in-Some.thru.now)
    c.in_ok-first.ensures.found (ap lexemes c.in-Some.ensures.cases.0) c.in_ok-last.ensures.found (some_left c.in_ok-last.left.now c.is_empty.result c.is_empty.ensures c.if-not-is_empty.true) w is)

pub returns-clause-found : goal.returns-clause-found
returns-clause-found c =
    two_values (written_value c.in_ok-first.first) (written_value c.in_ok-last.last) (lexemes c.args.words.now) (lexemes c.in_ok-first.behind.now) (lexemes c.in-Some.more.now) (lexemes c.in_ok-last.left.now) (lexeme c.in-Some.thru.now)
    c.in_ok-first.ensures.found (ap lexemes c.in-Some.ensures.cases.0) (c.is_thru.ensures.0 c.if-not-is_thru.false) c.in_ok-last.ensures.found (none_left c.in_ok-last.left.now c.is_empty.result c.is_empty.ensures c.if-not-is_empty.false)

pub returns-clause-only : goal.returns-clause-only
returns-clause-only c = λ w is.
    let words = lexemes c.args.words.now in
    one_span (FromToWritten (written_value c.in_ok-first.first) (written_value c.in_ok-last.last)) w words
    (two_values (written_value c.in_ok-first.first) (written_value c.in_ok-last.last) words (lexemes c.in_ok-first.behind.now) (lexemes c.in-Some.more.now) (lexemes c.in_ok-last.left.now) (lexeme c.in-Some.thru.now)
    c.in_ok-first.ensures.found (ap lexemes c.in-Some.ensures.cases.0) (c.is_thru.ensures.0 c.if-not-is_thru.false) c.in_ok-last.ensures.found (none_left c.in_ok-last.left.now c.is_empty.result c.is_empty.ensures c.if-not-is_empty.false)) is
