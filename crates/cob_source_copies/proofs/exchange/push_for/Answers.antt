use Rattle.std.proofs.Common.{List, [], ◌∷◌, ◌++◌, map, sym, ap, ◌∙◌, append_assoc, append-nil}
use Rattle.std.proofs.lemmas.List.{nil_from_length}
use Rattle.cob_source_copies.specs.declared.fragment.Fragment.{Fragment}
use Rattle.cob_source_copies.specs.TextWords.{TextWord, text_word}
use Rattle.cob_source_copies.specs.Exchanges.{in_place_of, put_for}
use Rattle.cob_source_copies.proofs.exchange.push_for.Goals as goal

pub loop-next-init : goal.loop-next-init
loop-next-init c =
    let v = text_word c.args.place.now in
    let moved = map (λ u. in_place_of v u.joins u) (map text_word c.in-Some.more.now) in
    ap (λ (t : List TextWord). t ++ moved) c.in_ok-push_in_place.ensures
    ∙ append_assoc (map text_word c.args.out.now.items) (in_place_of v v.joins (text_word c.in-Some.head.now) ∷ []) moved
    ∙ ap (λ (t : List Fragment). map text_word c.args.out.now.items ++ put_for v (map text_word t)) (sym c.in-Some.ensures.cases.0)

pub returns : goal.returns
returns c =
    let v = text_word c.args.place.now in
    sym (append-nil (map text_word c.loop-next.out.items))
    ∙ ap (λ (t : List Fragment). map text_word c.loop-next.out.items ++ map (λ u. in_place_of v u.joins u) (map text_word t)) (sym (nil_from_length c.loop-next.rest.now c.in_default-split_first.ensures.cases))
    ∙ c.loop-next.invariant
