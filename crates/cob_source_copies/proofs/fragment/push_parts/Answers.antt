use Rattle.std.proofs.Common.{◌≡◌, ℕ, List, [], ◌∷◌, ◌++◌, map, take, drop, true, sym, ap, ◌∙◌, append_assoc, arith}
use Rattle.cob_source.specs.Tokens.{lexeme}
use Rattle.cob_source_copies.specs.TextWords.{TextWord, parts_at, parts_in, text_word}
use Rattle.cob_source_copies.proofs.CutLemmas.{parts_first}
use Rattle.cob_source_copies.proofs.fragment.push_parts.Goals as goal

pub loop-part-preserved : goal.loop-part-preserved
loop-part-preserved c =
    let w = lexeme c.args.word.now in
    let rest = c.loop-part.rest.now in
    let k = c.max.result in
    let part = c.split_at.result.0.now in
    let behind = c.split_at.result.1.now in
    let out = map text_word c.loop-part.out.items in
    let first : parts_in rest ≡ take k rest ∷ parts_in (drop k rest) =
    parts_first rest c.in-Some.field-0-0.now c.in-Some.field-0-1.now c.undivided_len.result k c.in-Some.ensures.cases.0 c.undivided_len.ensures.each c.undivided_len.ensures.other (λ h. omega (arith, c.max.ensures)) (λ h. omega (arith, c.max.ensures)) in
    let parts : parts_in rest ≡ part ∷ parts_in behind =
    first ∙ ap (λ (t : List ℕ). t ∷ parts_in (drop k rest)) (sym c.split_at.ensures.front) ∙ ap (λ (t : List ℕ). part ∷ parts_in t) (sym c.split_at.ensures.back) in
    ap (λ (t : List TextWord). t ++ parts_at w true (parts_in behind)) c.in_ok-push_part.ensures
    ∙ append_assoc out (parts_at w c.loop-part.joins (part ∷ [])) (parts_at w true (parts_in behind))
    ∙ ap (λ (t : List (List ℕ)). out ++ parts_at w c.loop-part.joins t) (sym parts)
    ∙ c.loop-part.invariant
