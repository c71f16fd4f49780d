use Rattle.std.proofs.Common.{◌≡◌, List, refl, sym, ap, subst, ◌∙◌, true, false}
use Rattle.cob_source.specs.Tokens.{Lexeme, lexemes}
use Rattle.cob_move_loops.specs.Passages.{ToItem}
use Rattle.cob_move_loops.specs.Words.{AreItemWords}
use Rattle.cob_move_loops.proofs.HeadLemmas.{are_items, items_one}
use Rattle.cob_move_loops.proofs.head.item_bound_at.Goals as goal

pub returns-then-not-are_item_words-clause-only : goal.returns-then-not-are_item_words-clause-only
returns-then-not-are_item_words-clause-only c = λ own more is ends e.
    let one = items_one own (lexemes c.item_words_at.result.0.now) more (lexemes c.item_words_at.result.1.now) (are_items own is) c.item_words_at.ensures.are ends c.item_words_at.ensures.ends (sym e ∙ c.item_words_at.ensures.found) in
    let yes = c.are_item_words.ensures.1 (subst AreItemWords one.0 is) in
    absurd (let never : false ≡ true = sym c.if-not-are_item_words.true ∙ yes in cc)

pub returns-clause-found : goal.returns-clause-found
returns-clause-found c =
    (lexemes c.item_words_at.result.0.now, (c.are_item_words.ensures.0 c.if-not-are_item_words.false, refl), c.item_words_at.ensures.ends, c.item_words_at.ensures.found)

pub returns-clause-only : goal.returns-clause-only
returns-clause-only c = λ own more is ends e.
    let one = items_one own (lexemes c.item_words_at.result.0.now) more (lexemes c.item_words_at.result.1.now) (are_items own is) c.item_words_at.ensures.are ends c.item_words_at.ensures.ends (sym e ∙ c.item_words_at.ensures.found) in
    (ap (λ (t : List Lexeme). ToItem t) (sym one.0), sym one.1)
