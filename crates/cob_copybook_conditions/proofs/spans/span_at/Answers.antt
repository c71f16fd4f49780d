use Rattle.std.proofs.Common.{ap, ◌∙◌, ◌++◌, ◌∷◌}
use Rattle.cob_source.specs.Tokens.{lexemes}
use Rattle.cob_copybook_entry.specs.Described.{PlainValue, plain_value}
use Rattle.cob_copybook_conditions.specs.Names.{FromTo}
use Rattle.cob_copybook_conditions.proofs.SpanLemmas.{alone, both_meant, one_meant, through_ends, through_words, value_in_front}
use Rattle.cob_copybook_conditions.proofs.spans.span_at.Goals as goal

pub returns-in_err-first-clause-only : goal.returns-in_err-first-clause-only
returns-in_err-first-clause-only c = λ s ws more is not e.
    let f = value_in_front s ws more is in absurd (c.in_err-first.ensures.only f.value f.own f.rest f.is (e ∙ f.words_are))

pub returns-in_default-clause-found : goal.returns-in_default-clause-found
returns-in_default-clause-found c = let (ws, is, e) = c.in_ok-first.ensures.found in (ws, one_meant (plain_value c.in_ok-first.first) ws is, e)

pub returns-in_default-clause-only : goal.returns-in_default-clause-only
returns-in_default-clause-only c = λ s ws more is not e.
    alone (lexemes c.args.words.now) (lexemes c.in_ok-first.more.now) (plain_value c.in_ok-first.first) c.in_ok-first.ensures.only c.in_default.ensures.only s ws more is e

pub returns-in_err-last-clause-only : goal.returns-in_err-last-clause-only
returns-in_err-last-clause-only c = λ s ws more is not e.
    let f = through_ends (lexemes c.args.words.now) (lexemes c.in_ok-first.more.now) (lexemes c.in-Some.through.now) (plain_value c.in_ok-first.first) c.in_ok-first.ensures.only c.in-Some.ensures.found s ws more is not e in
    absurd (c.in_err-last.ensures.only f.value f.own more f.is f.words)

pub returns-clause-found : goal.returns-clause-found
returns-clause-found c =
    let (first, is, e) = c.in_ok-first.ensures.found in
    let (w, between, f) = c.in-Some.ensures.found in
    let (last, ends, g) = c.in_ok-last.ensures.found in (
      first ++ w ∷ last,
      both_meant (plain_value c.in_ok-first.first) (plain_value c.in_ok-last.last) first w last is between ends,
      through_words _ _ _ _ first w last e f g,
    )

pub returns-clause-only : goal.returns-clause-only
returns-clause-only c = λ s ws more is not e.
    let f = through_ends (lexemes c.args.words.now) (lexemes c.in_ok-first.more.now) (lexemes c.in-Some.through.now) (plain_value c.in_ok-first.first) c.in_ok-first.ensures.only c.in-Some.ensures.found s ws more is not e in
    let r = c.in_ok-last.ensures.only f.value f.own more f.is f.words in
    (ap (λ (v : PlainValue). FromTo (plain_value c.in_ok-first.first) v) r.0 ∙ f.both, r.1)
