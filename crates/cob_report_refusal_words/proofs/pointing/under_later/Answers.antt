use Rattle.std.proofs.Common.{refl, ap, inl, inr}
use Rattle.cob_source.specs.Tokens.{lexeme, lexemes}
use Rattle.cob_report_refusal_words.proofs.Under.{reaches_on, under_stop, under_word}
use Rattle.cob_report_refusal_words.proofs.pointing.under_later.Goals as goal

pub loop-word-init : goal.loop-word-init
loop-word-init c = (inl refl, λ k h. h)

pub returns-then-is_stop : goal.returns-then-is_stop
returns-then-is_stop c =
    inr (under_stop (lexemes c.loop-word.rest.now) (lexemes c.args.words.now) (lexeme c.in-Some.word.now) (lexemes c.in-Some.more.now) c.under-here.result c.loop-word.invariant.1
    (ap lexemes c.in-Some.ensures.cases.0) (c.is_stop.ensures.0 c.if-is_stop.true) (c.under-here.ensures.line, c.under-here.ensures.column))

pub returns-then-is_under : goal.returns-then-is_under
returns-then-is_under c =
    inr (under_word (lexemes c.loop-word.rest.now) (lexemes c.args.words.now) (lexeme c.in-Some.word.now) (lexemes c.in-Some.more.now) c.under-here.result c.loop-word.invariant.1
    (ap lexemes c.in-Some.ensures.cases.0) (c.goes_on.ensures c.if-not-goes_on.false) (c.under-here.ensures.line, c.under-here.ensures.column))

pub loop-word-preserved : goal.loop-word-preserved
loop-word-preserved c =
    let rest = lexemes c.loop-word.rest.now in
    let words = lexemes c.args.words.now in
    let word = lexeme c.in-Some.word.now in
    let more = lexemes c.in-Some.more.now in
    let on = c.goes_on.ensures c.if-not-goes_on.false in (
      inr (under_word rest words word more c.under-here.result c.loop-word.invariant.1 (ap lexemes c.in-Some.ensures.cases.0) on (c.under-here.ensures.line, c.under-here.ensures.column)),
      reaches_on rest words word more c.loop-word.invariant.1 (ap lexemes c.in-Some.ensures.cases.0) on,
    )

pub returns-then-not-goes_on : goal.returns-then-not-goes_on
returns-then-not-goes_on c = c.loop-word.invariant.0

pub returns : goal.returns
returns c = c.loop-word.invariant.0
