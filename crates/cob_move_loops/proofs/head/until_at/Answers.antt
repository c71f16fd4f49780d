use Rattle.std.proofs.Common.{List, ◌∷◌, ◌++◌, refl, sym, ap, ◌∙◌}
use Rattle.cob_source.specs.Tokens.{Lexeme, lexemes}
use Rattle.cob_move_loops.proofs.HeadLemmas.{bound_no_than, until_split, until_words}
use Rattle.cob_move_loops.proofs.head.until_at.Goals as goal

pub returns-in_err-past-clause-only : goal.returns-in_err-past-clause-only
returns-in_err-past-clause-only c = λ name bound ws more (u, k, past, own, iu, ik, ip, io, cut) ends e.
    let all = until_words (lexemes c.args.words.now) ws more past own u k cut e in
    let tested = c.in_ok-tested.ensures.only u (k ∷ (past ++ (own ++ more))) iu all in
    let counter = c.in_ok-name.ensures.only name k (past ++ (own ++ more)) ik tested in
    absurd (c.in_err-past.ensures.only past (own ++ more) ip (bound_no_than bound own more io) counter.1)

pub returns-in_err-bound-clause-only : goal.returns-in_err-bound-clause-only
returns-in_err-bound-clause-only c = λ name bound ws more (u, k, past, own, iu, ik, ip, io, cut) ends e.
    let all = until_words (lexemes c.args.words.now) ws more past own u k cut e in
    let tested = c.in_ok-tested.ensures.only u (k ∷ (past ++ (own ++ more))) iu all in
    let counter = c.in_ok-name.ensures.only name k (past ++ (own ++ more)) ik tested in
    let behind = c.in_ok-past.ensures.only past (own ++ more) ip (bound_no_than bound own more io) counter.1 in
    absurd (c.in_err-bound.ensures.only bound own more io ends behind)

pub returns-clause-found : goal.returns-clause-found
returns-clause-found c =
    let (u, iu, e) = c.in_ok-tested.ensures.found in
    let (k, ik, f) = c.in_ok-name.ensures.found in
    let (past, ip, g) = c.in_ok-past.ensures.found in
    let (own, io, ends, h) = c.in_ok-bound.ensures.found in (
      u ∷ k ∷ (past ++ own),
      (u, k, past, own, iu, ik, ip, io, refl),
      ends,
      e ∙ ap (λ (t : List Lexeme). u ∷ t) f ∙ ap (λ (t : List Lexeme). u ∷ k ∷ t) g ∙ ap (λ (t : List Lexeme). u ∷ k ∷ (past ++ t)) h ∙ sym (until_split u k past own (lexemes c.in_ok-bound.more.now)),
    )

pub returns-clause-only : goal.returns-clause-only
returns-clause-only c = λ name bound ws more (u, k, past, own, iu, ik, ip, io, cut) ends e.
    let all = until_words (lexemes c.args.words.now) ws more past own u k cut e in
    let tested = c.in_ok-tested.ensures.only u (k ∷ (past ++ (own ++ more))) iu all in
    let counter = c.in_ok-name.ensures.only name k (past ++ (own ++ more)) ik tested in
    let behind = c.in_ok-past.ensures.only past (own ++ more) ip (bound_no_than bound own more io) counter.1 in
    let bounded = c.in_ok-bound.ensures.only bound own more io ends behind in
    (counter.0, bounded.0, bounded.1)
