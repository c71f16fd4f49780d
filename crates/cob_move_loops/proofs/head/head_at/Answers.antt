use Rattle.std.proofs.Common.{List, ◌++◌, refl, sym, ap, ◌∙◌}
use Rattle.cob_source.specs.Tokens.{Lexeme, lexemes}
use Rattle.cob_move_loops.proofs.HeadLemmas.{head_split, head_words}
use Rattle.cob_move_loops.proofs.head.head_at.Goals as goal

pub returns-in_err-line-clause-only : goal.returns-in_err-line-clause-only
returns-in_err-line-clause-only c = λ l ws more (v, s, u, iv, ist, iu, cut) ends e.
    let all = head_words (lexemes c.args.words.now) ws more v s u cut e in
    absurd (c.in_err-line.ensures.only l.line l.counter v (s ++ (u ++ more)) iv all)

pub returns-in_err-from-clause-only : goal.returns-in_err-from-clause-only
returns-in_err-from-clause-only c = λ l ws more (v, s, u, iv, ist, iu, cut) ends e.
    let all = head_words (lexemes c.args.words.now) ws more v s u cut e in
    let first = c.in_ok-line.ensures.only l.line l.counter v (s ++ (u ++ more)) iv all in
    absurd (c.in_err-from.ensures.only l.from l.by s (u ++ more) ist first.2)

pub returns-in_err-tested-clause-only : goal.returns-in_err-tested-clause-only
returns-in_err-tested-clause-only c = λ l ws more (v, s, u, iv, ist, iu, cut) ends e.
    let all = head_words (lexemes c.args.words.now) ws more v s u cut e in
    let first = c.in_ok-line.ensures.only l.line l.counter v (s ++ (u ++ more)) iv all in
    let second = c.in_ok-from.ensures.only l.from l.by s (u ++ more) ist first.2 in
    absurd (c.in_err-tested.ensures.only l.tested l.bound u more iu ends second.2)

pub returns-clause-found : goal.returns-clause-found
returns-clause-found c =
    let (v, iv, e) = c.in_ok-line.ensures.found in
    let (s, ist, f) = c.in_ok-from.ensures.found in
    let (u, iu, ends, g) = c.in_ok-tested.ensures.found in (
      v ++ (s ++ u),
      (v, s, u, iv, ist, iu, refl),
      ends,
      e ∙ ap (λ (t : List Lexeme). v ++ t) f ∙ ap (λ (t : List Lexeme). v ++ (s ++ t)) g ∙ sym (head_split v s u (lexemes c.in_ok-tested.more.now)),
    )

pub returns-clause-only : goal.returns-clause-only
returns-clause-only c = λ l ws more (v, s, u, iv, ist, iu, cut) ends e.
    let all = head_words (lexemes c.args.words.now) ws more v s u cut e in
    let first = c.in_ok-line.ensures.only l.line l.counter v (s ++ (u ++ more)) iv all in
    let second = c.in_ok-from.ensures.only l.from l.by s (u ++ more) ist first.2 in
    let third = c.in_ok-tested.ensures.only l.tested l.bound u more iu ends second.2 in
    (λ i. record { line = first.0 i; counter = first.1 i; from = second.0 i; by = second.1 i; tested = third.0 i; bound = third.1 i }, third.2)
