use Rattle.std.proofs.Common.{◌≡◌, ◌∙◌, ◌++◌, ◌∷◌, [], ◌||◌, Bool, false, List, sym, ap, append_assoc}
use Rattle.cob_source.specs.Tokens.{Lexeme, lexeme, lexemes}
use Rattle.cob_source_copies.specs.Statements.{is_copy}
use Rattle.cob_source_copies.specs.Texts.{has_copy}
use Rattle.cob_copybook_text.proofs.copying.line_of_copy.Goals as goal

-- a word that is not COPY is passed over
no_copy_first : (rest more : List Lexeme) (w : Lexeme) → rest ≡ w ∷ more → is_copy w ≡ false → has_copy more ≡ has_copy rest
no_copy_first rest more w first other = ap (λ (b : Bool). b || has_copy more) (sym other) ∙ ap has_copy (sym first)

-- and it is one of those in front
one_further : (ws front rest more : List Lexeme) (w : Lexeme) → rest ≡ w ∷ more → ws ≡ front ++ rest → ws ≡ (front ++ w ∷ []) ++ more
one_further ws front rest more w first all = all ∙ ap (λ (t : List Lexeme). front ++ t) first ∙ sym (append_assoc front (w ∷ []) more)

pub loop-first-preserved : goal.loop-first-preserved
loop-first-preserved c =
    let ws = lexemes c.args.words.now in
    let rest = lexemes c.loop-first.rest.now in
    let more = lexemes c.in-Some.more.now in
    let w = lexeme c.in-Some.first.now in
    let first : rest ≡ w ∷ more = ap lexemes c.in-Some.ensures.cases.0 in
    let front = c.loop-first.invariant.1.0 in
    (no_copy_first rest more w first (sym c.is_copy.ensures ∙ c.if-is_copy.false) ∙ c.loop-first.invariant.0, (front ++ w ∷ [], one_further ws front rest more w first c.loop-first.invariant.1.1))
