use Rattle.std.proofs.Common.{ap, sym, subst, inl, inr, ℕ, List, ◌+◌, ◌<◌, ◌≤◌, rules, length, arith, drop}
use Rattle.std.proofs.lemmas.List.{drop_all}
use Rattle.std.specs.List.{AllByRecursion}
use Rattle.cob_source.specs.Tokens.{lexeme, lexemes}
use Rattle.cob_copybook_clauses.specs.Entries.{IsLeftOutWord}
use Rattle.cob_copybook_clauses.proofs.SentenceLemmas.{words_at, left_behind, short_lexeme}
use Rattle.cob_copybook_clauses.proofs.sentence.left_out_word.Goals as goal

pub returns-then-is_term-clause-found : goal.returns-then-is_term-clause-found
returns-then-is_term-clause-found c =
    let at = words_at c.args.words.now c.loop-token.token-index c.token-item.result (omega arith) c.token-item.is in
    c.loop-token.invariant.left c.as_slice.result.now (subst (IsLeftOutWord c.as_slice.result.now) (sym at) (inl (c.is_term.ensures.0 c.if-is_term.true, sym c.as_slice.ensures.value)))

pub returns-then-is_term-clause-short : goal.returns-then-is_term-clause-short
returns-then-is_term-clause-short c = subst (λ (t : List ℕ). length t ≤ 20) (sym c.as_slice.ensures.value) (short_lexeme c.token-item.result.kind c.token-item.result.text.items (c.is_term.ensures.0 c.if-is_term.true)).short

pub returns-then-is_term-clause-ascii : goal.returns-then-is_term-clause-ascii
returns-then-is_term-clause-ascii c = subst (λ (t : List ℕ). AllByRecursion (λ b. b < 128) t) (sym c.as_slice.ensures.value) (short_lexeme c.token-item.result.kind c.token-item.result.text.items (c.is_term.ensures.0 c.if-is_term.true)).ascii

pub loop-token-preserved : goal.loop-token-preserved
loop-token-preserved c =
    let at = words_at c.args.words.now c.loop-token.token-index c.token-item.result (omega arith) c.token-item.is in
    record {
      left = λ w h. c.loop-token.invariant.left w (subst (IsLeftOutWord w) (sym at) (inr h));
      whole = λ w h. left_behind w (lexeme c.token-item.result) (lexemes (drop (c.loop-token.token-index + 1) c.args.words.now)) (search rules) (subst (IsLeftOutWord w) at (c.loop-token.invariant.whole w h));
    }

pub returns-clause-none : goal.returns-clause-none
returns-clause-none c = λ w h. subst (IsLeftOutWord w) (ap lexemes (drop_all c.loop-token.token-index c.args.words.now (omega arith))) (c.loop-token.invariant.whole w h)
