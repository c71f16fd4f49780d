use Rattle.std.proofs.Common.{◌≡◌, List, ◌∷◌, ◌++◌, take, drop, sym, ap, ◌∙◌, append_assoc, arith}
use Rattle.std.specs.List.{flat_map}
use Rattle.cob_source.specs.declared.token.Cell.{Cell}
use Rattle.cob_source.specs.Tokens.{Lexeme, lexemes}
use Rattle.cob_source.specs.Pieces.{pieces}
use Rattle.cob_source.specs.Cuts.{word}
use Rattle.cob_source.proofs.PieceLemmas.{pieces-first}
use Rattle.cob_source.proofs.word.push_pieces.Goals as goal

pub loop-first-preserved : goal.loop-first-preserved
loop-first-preserved c =
    let n = c.uncut_len.result in
    let k = c.max.result in
    let first : pieces c.loop-first.rest.now ≡ take k c.loop-first.rest.now ∷ pieces (drop k c.loop-first.rest.now) =
    pieces-first c.loop-first.rest.now c.in-Some.first.now c.in-Some.after.now n k c.in-Some.ensures.cases.0 c.if-first-eq44.false c.uncut_len.ensures.each c.uncut_len.ensures.other (λ h. omega (arith, c.max.ensures)) (λ h. omega (arith, c.max.ensures)) in
    let parts : pieces c.loop-first.rest.now ≡ c.split_at.result.0.now ∷ pieces c.split_at.result.1.now =
    first ∙ ap (λ (l : List Cell). l ∷ pieces (drop k c.loop-first.rest.now)) (sym c.split_at.ensures.front) ∙ ap (λ (l : List Cell). c.split_at.result.0.now ∷ pieces l) (sym c.split_at.ensures.back) in
    ap (λ (l : List Lexeme). l ++ flat_map word (pieces c.split_at.result.1.now)) c.in_ok-push_word.ensures.ok
    ∙ append_assoc (lexemes c.loop-first.out.items) (word c.split_at.result.0.now) (flat_map word (pieces c.split_at.result.1.now))
    ∙ ap (λ (l : List (List Cell)). lexemes c.loop-first.out.items ++ flat_map word l) (sym parts)
    ∙ c.loop-first.invariant
