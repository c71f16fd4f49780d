use Rattle.std.proofs.Common.{◌∷◌, ◌++◌, [], ◌∙◌, List, ap, refl, subst, sym}
use Rattle.cob_source.specs.Tokens.{Lexeme, lexemes}
use Rattle.cob_copybook_clauses.specs.declared.term.WordClass.TheVariants as term
use Rattle.cob_move_statements.specs.Written.{written_sender}
use Rattle.cob_move_statements.proofs.ReferenceLemmas.{brackets}
use Rattle.cob_move_conditions.specs.Conditions.{Alone, ByAnd, ByNot, ByOr, IsConditionBy}
use Rattle.cob_move_conditions.specs.declared.words.ConditionWord.TheVariants as word
use Rattle.cob_move_conditions.specs.Written.{BehindNot, InBrackets, WithAnd, WithOr, WrittenCondition, written_condition}
use Rattle.cob_move_conditions.proofs.ConditionLemmas.{and_chains, and_joins, begins, begins_none, bracket_ends, by_related, ends_here, found_up, front_fewer, goes_on, goes_wrong, not_first, or_chains, or_joins, with_bracket, with_not, without_not, word_fewer, SoFar}
use Rattle.cob_move_conditions.proofs.conditions.+reading.Goals as goal

-- ---- brackets

pub single_at-simple_at-requires : goal.single_at-simple_at-requires
single_at-simple_at-requires t c = not_first term.OpenBracket (lexemes c.args.words.now) c.in_default.ensures.only

pub single_at-returns-in_default-2-clause-only : goal.single_at-returns-in_default-2-clause-only
single_at-returns-in_default-2-clause-only t c = λ d ws more is ends cut.
    let (b, opens, e) = c.in-Some.ensures.found in
    let enclosed = with_bracket (lexemes c.args.words.now) (lexemes c.in-Some.inside.now) b opens e d ws more is cut in
    let read = c.in_ok-inner.ensures.only enclosed.inner enclosed.own (enclosed.after ∷ more) enclosed.whole (bracket_ends enclosed.after more enclosed.closes) enclosed.words in
    absurd (rw c.in_default-2.is at read)

pub single_at-returns-in_default-behind-clause-only : goal.single_at-returns-in_default-behind-clause-only
single_at-returns-in_default-behind-clause-only t c = λ d ws more is ends cut.
    let (b, opens, e) = c.in-Some.ensures.found in
    let enclosed = with_bracket (lexemes c.args.words.now) (lexemes c.in-Some.inside.now) b opens e d ws more is cut in
    let read = c.in_ok-inner.ensures.only enclosed.inner enclosed.own (enclosed.after ∷ more) enclosed.whole (bracket_ends enclosed.after more enclosed.closes) enclosed.words in
    let same = rw c.in-Some-2.is at read in
    absurd (c.in_default-behind.ensures.only enclosed.after more enclosed.closes same.1)

pub single_at-returns-clause-found : goal.single_at-returns-clause-found
single_at-returns-clause-found t c =
    let (b, opens, e) = c.in-Some.ensures.found in
    let (own, is, f) = rw c.in-Some-2.is at c.in_ok-inner.ensures.found in
    let (after, closes, g) = c.in-Some-behind.ensures.found in (
      b ∷ (own ++ after ∷ []),
      subst (λ (y : WrittenCondition). IsConditionBy Alone y (b ∷ (own ++ after ∷ []))) (sym c.in_ok-condition.ensures) (b, after, own, opens, closes, is, refl),
      e ∙ ap (λ (t : List Lexeme). b ∷ t) (f ∙ ap (λ (t : List Lexeme). own ++ t) g) ∙ brackets b after own (lexemes c.in-Some-behind.more.now),
    )

pub single_at-returns-clause-only : goal.single_at-returns-clause-only
single_at-returns-clause-only t c = λ d ws more is ends cut.
    let (b, opens, e) = c.in-Some.ensures.found in
    let enclosed = with_bracket (lexemes c.args.words.now) (lexemes c.in-Some.inside.now) b opens e d ws more is cut in
    let read = c.in_ok-inner.ensures.only enclosed.inner enclosed.own (enclosed.after ∷ more) enclosed.whole (bracket_ends enclosed.after more enclosed.closes) enclosed.words in
    let same = rw c.in-Some-2.is at read in
    (c.in_ok-condition.ensures ∙ ap InBrackets same.0 ∙ sym enclosed.same, c.in-Some-behind.ensures.only enclosed.after more enclosed.closes same.1)

-- ---- NOT

pub negated_at-returns-in-Some-clause-found : goal.negated_at-returns-in-Some-clause-found
negated_at-returns-in-Some-clause-found t c = let (own, is, e) = c.in-Some.ensures.found in (own, (tt, is), e)

pub negated_at-returns-in-Some-clause-only : goal.negated_at-returns-in-Some-clause-only
negated_at-returns-in-Some-clause-only t c = λ d ws more is ends cut.
    by_related (lexemes c.args.words.now) c.in-Some.relation (written_sender c.in-Some.operand) (lexemes c.in-Some.more.now) c.in-Some.ensures.found c.in-Some.ensures.only d ws more is ends cut

pub negated_at-returns-in_default-behind_condition_word-clause-found : goal.negated_at-returns-in_default-behind_condition_word-clause-found
negated_at-returns-in_default-behind_condition_word-clause-found t c = found_up (lexemes c.args.words.now) c.single_at.result c.single_at.ensures.found

pub negated_at-returns-in_default-behind_condition_word-clause-only : goal.negated_at-returns-in_default-behind_condition_word-clause-only
negated_at-returns-in_default-behind_condition_word-clause-only t c = λ d ws more is ends cut.
    c.single_at.ensures.only d ws more (without_not (lexemes c.args.words.now) c.in_default.ensures.only c.in_default-behind_condition_word.ensures.only d ws more is ends cut) ends cut

pub negated_at-returns-in_default-2-clause-only : goal.negated_at-returns-in_default-2-clause-only
negated_at-returns-in_default-2-clause-only t c = λ d ws more is ends cut.
    let (n, is_not, e) = c.in-Some-behind_condition_word.ensures.found in
    let negated = with_not (lexemes c.args.words.now) (lexemes c.in-Some-behind_condition_word.own.now) n c.in_default.ensures.only is_not e d ws more is ends cut in
    let read = c.in_ok-inner.ensures.only negated.inner negated.own more negated.single ends negated.words in
    absurd (rw c.in_default-2.is at read)

pub negated_at-returns-clause-found : goal.negated_at-returns-clause-found
negated_at-returns-clause-found t c =
    let (n, is_not, e) = c.in-Some-behind_condition_word.ensures.found in
    let (own, is, f) = rw c.in-Some-2.is at c.in_ok-inner.ensures.found in (
      n ∷ own,
      subst (λ (y : WrittenCondition). IsConditionBy ByNot y (n ∷ own)) (sym c.in_ok-condition.ensures) (tt, (n, own, is_not, is, refl)),
      e ∙ ap (λ (t : List Lexeme). n ∷ t) f,
    )

pub negated_at-returns-clause-only : goal.negated_at-returns-clause-only
negated_at-returns-clause-only t c = λ d ws more is ends cut.
    let (n, is_not, e) = c.in-Some-behind_condition_word.ensures.found in
    let negated = with_not (lexemes c.args.words.now) (lexemes c.in-Some-behind_condition_word.own.now) n c.in_default.ensures.only is_not e d ws more is ends cut in
    let read = c.in_ok-inner.ensures.only negated.inner negated.own more negated.single ends negated.words in
    let same = rw c.in-Some-2.is at read in
    (c.in_ok-condition.ensures ∙ ap BehindNot same.0 ∙ sym negated.same, same.1)

-- ---- AND

pub conjunction_at-returns-in_default-clause-only : goal.conjunction_at-returns-in_default-clause-only
conjunction_at-returns-in_default-clause-only t c =
    λ d ws more is ends cut. absurd (begins_none ByNot ByAnd word.And WithAnd and_joins and_chains (lexemes c.args.words.now) (rw c.in_default.is at c.in_ok-first.ensures.only) d ws more is ends cut)

pub conjunction_at-loop-own-init : goal.conjunction_at-loop-own-init
conjunction_at-loop-own-init t c =
    let found = rw c.in-Some.is at c.in_ok-first.ensures.found in record {
      so = begins ByNot ByAnd word.And WithAnd and_joins and_chains (lexemes c.args.words.now) (lexemes c.in-Some.behind.now) (written_condition c.in-Some.first) found (rw c.in-Some.is at c.in_ok-first.ensures.only);
      fewer = front_fewer (lexemes c.args.words.now) found.0 (lexemes c.in-Some.behind.now) found.2;
    }

pub conjunction_at-returns-in_default-2-clause-only : goal.conjunction_at-returns-in_default-2-clause-only
conjunction_at-returns-in_default-2-clause-only t c = λ d ws more is ends cut.
    absurd (goes_wrong ByNot ByAnd word.And WithAnd and_joins (lexemes c.args.words.now) (lexemes c.loop-own.rest.now) (lexemes c.in-Some-behind_condition_word.own.now) (written_condition c.loop-own.joined)
    c.loop-own.invariant.so c.in-Some-behind_condition_word.ensures.found (rw c.in_default-2.is at c.in_ok-next.ensures.only) d ws more is ends cut)

pub conjunction_at-loop-own-preserved : goal.conjunction_at-loop-own-preserved
conjunction_at-loop-own-preserved t c =
    let (w, is, e) = c.in-Some-behind_condition_word.ensures.found in
    let found = rw c.in-Some-2.is at c.in_ok-next.ensures.found in
    let so = goes_on ByNot ByAnd word.And WithAnd and_joins (lexemes c.args.words.now) (lexemes c.loop-own.rest.now) (lexemes c.in-Some-behind_condition_word.own.now) (lexemes c.in-Some-2.more.now)
    (written_condition c.loop-own.joined) (written_condition c.in-Some-2.next) c.loop-own.invariant.so (w, is, e) found (rw c.in-Some-2.is at c.in_ok-next.ensures.only) in record {
      so = subst (SoFar ByNot ByAnd word.And WithAnd (lexemes c.args.words.now) (lexemes c.in-Some-2.more.now)) (sym c.in_ok-joined.ensures) so;
      fewer = word_fewer (lexemes c.args.words.now) (lexemes c.loop-own.rest.now) (lexemes c.in-Some-behind_condition_word.own.now) found.0 (lexemes c.in-Some-2.more.now) w c.loop-own.invariant.fewer e found.2;
    }

pub conjunction_at-returns-clause-found : goal.conjunction_at-returns-clause-found
conjunction_at-returns-clause-found t c = (c.loop-own.invariant.so.done, c.loop-own.invariant.so.is, c.loop-own.invariant.so.words_are)

pub conjunction_at-returns-clause-only : goal.conjunction_at-returns-clause-only
conjunction_at-returns-clause-only t c =
    ends_here ByNot ByAnd word.And WithAnd (lexemes c.args.words.now) (lexemes c.loop-own.rest.now) (written_condition c.loop-own.joined) c.loop-own.invariant.so c.in_default-behind_condition_word.ensures.only

-- ---- OR

pub condition_at-returns-in_default-clause-only : goal.condition_at-returns-in_default-clause-only
condition_at-returns-in_default-clause-only t c =
    λ d ws more is ends cut. absurd (begins_none ByAnd ByOr word.Or WithOr or_joins or_chains (lexemes c.args.words.now) (rw c.in_default.is at c.in_ok-first.ensures.only) d ws more is ends cut)

pub condition_at-loop-own-init : goal.condition_at-loop-own-init
condition_at-loop-own-init t c =
    let found = rw c.in-Some.is at c.in_ok-first.ensures.found in record {
      so = begins ByAnd ByOr word.Or WithOr or_joins or_chains (lexemes c.args.words.now) (lexemes c.in-Some.behind.now) (written_condition c.in-Some.first) found (rw c.in-Some.is at c.in_ok-first.ensures.only);
      fewer = front_fewer (lexemes c.args.words.now) found.0 (lexemes c.in-Some.behind.now) found.2;
    }

pub condition_at-returns-in_default-2-clause-only : goal.condition_at-returns-in_default-2-clause-only
condition_at-returns-in_default-2-clause-only t c = λ d ws more is ends cut.
    absurd (goes_wrong ByAnd ByOr word.Or WithOr or_joins (lexemes c.args.words.now) (lexemes c.loop-own.rest.now) (lexemes c.in-Some-behind_condition_word.own.now) (written_condition c.loop-own.joined)
    c.loop-own.invariant.so c.in-Some-behind_condition_word.ensures.found (rw c.in_default-2.is at c.in_ok-next.ensures.only) d ws more is ends cut)

pub condition_at-loop-own-preserved : goal.condition_at-loop-own-preserved
condition_at-loop-own-preserved t c =
    let (w, is, e) = c.in-Some-behind_condition_word.ensures.found in
    let found = rw c.in-Some-2.is at c.in_ok-next.ensures.found in
    let so = goes_on ByAnd ByOr word.Or WithOr or_joins (lexemes c.args.words.now) (lexemes c.loop-own.rest.now) (lexemes c.in-Some-behind_condition_word.own.now) (lexemes c.in-Some-2.more.now)
    (written_condition c.loop-own.joined) (written_condition c.in-Some-2.next) c.loop-own.invariant.so (w, is, e) found (rw c.in-Some-2.is at c.in_ok-next.ensures.only) in record {
      so = subst (SoFar ByAnd ByOr word.Or WithOr (lexemes c.args.words.now) (lexemes c.in-Some-2.more.now)) (sym c.in_ok-joined.ensures) so;
      fewer = word_fewer (lexemes c.args.words.now) (lexemes c.loop-own.rest.now) (lexemes c.in-Some-behind_condition_word.own.now) found.0 (lexemes c.in-Some-2.more.now) w c.loop-own.invariant.fewer e found.2;
    }

pub condition_at-returns-clause-found : goal.condition_at-returns-clause-found
condition_at-returns-clause-found t c = (c.loop-own.invariant.so.done, c.loop-own.invariant.so.is, c.loop-own.invariant.so.words_are)

pub condition_at-returns-clause-only : goal.condition_at-returns-clause-only
condition_at-returns-clause-only t c =
    ends_here ByAnd ByOr word.Or WithOr (lexemes c.args.words.now) (lexemes c.loop-own.rest.now) (written_condition c.loop-own.joined) c.loop-own.invariant.so c.in_default-behind_condition_word.ensures.only
