use Rattle.std.proofs.Common.{◌≡◌, ℕ, ◌-◌, ◌/◌, List, ◌++◌, [], ◌∷◌, length, take, get_or, ◌∙◌, arith, length-take-le}
use Rattle.cob_codec.proofs.SignLemmas.{some_from, none_from}
use Rattle.cob_codec.proofs.PackedLaws.{front_count, packed_from, packed_parts}
use Rattle.cob_codec.proofs.PackedLemmas.{all_but_last, not_packed}
use Rattle.cob_codec.proofs.packed.read_packed.Goals as goal

pub read_last-requires-clause-count : goal.read_last-requires-clause-count
read_last-requires-clause-count c =
    let last : ℕ = length c.args.bytes.now - 1 in
    let long : length (take last c.args.bytes.now) ≡ c.args.shape.now.digits / 2 = length-take-le last c.args.bytes.now (omega arith) ∙ omega arith in
    front_count c.args.shape.now.digits (take last c.args.bytes.now) c.in-Some.front c.args.shape.now.some long c.in-Some.ensures.found.1

pub returns-in-Some-clause-found : goal.returns-in-Some-clause-found
returns-in-Some-clause-found c =
    let last : ℕ = length c.args.bytes.now - 1 in
    let front : List ℕ = take last c.args.bytes.now in
    let end : ℕ = get_or c.args.bytes.now last 0 in
    let long : length front ≡ c.args.shape.now.digits / 2 = length-take-le last c.args.bytes.now (omega arith) ∙ omega arith in
    let whole : c.args.bytes.now ≡ front ++ end ∷ [] = all_but_last c.args.bytes.now last (omega arith) in
    some_from c.read_last.result _ _ c.read_last.ensures.found
    (λ v ended. packed_from c.args.shape.now.digits c.args.shape.now.signed c.args.bytes.now front end c.in-Some.front v.negative v.digits c.args.shape.now.some whole long c.in-Some.ensures.found.1 c.in-Some.ensures.found.0 ended)

pub returns-in-Some-clause-none : goal.returns-in-Some-clause-none
returns-in-Some-clause-none c =
    let last : ℕ = length c.args.bytes.now - 1 in
    let front : List ℕ = take last c.args.bytes.now in
    let end : ℕ = get_or c.args.bytes.now last 0 in
    let long : length front ≡ c.args.shape.now.digits / 2 = length-take-le last c.args.bytes.now (omega arith) ∙ omega arith in
    let whole : c.args.bytes.now ≡ front ++ end ∷ [] = all_but_last c.args.bytes.now last (omega arith) in
    none_from c.read_last.result _ _ c.read_last.ensures.none
    (λ none. not_packed c.args.shape.now.digits c.args.shape.now.signed c.args.bytes.now front end c.in-Some.front c.args.shape.now.some whole long c.in-Some.ensures.found.1 none)

pub returns-in-None-clause-none : goal.returns-in-None-clause-none
returns-in-None-clause-none c = λ negative digits packed.
    let last : ℕ = length c.args.bytes.now - 1 in
    let front : List ℕ = take last c.args.bytes.now in
    let end : ℕ = get_or c.args.bytes.now last 0 in
    let long : length front ≡ c.args.shape.now.digits / 2 = length-take-le last c.args.bytes.now (omega arith) ∙ omega arith in
    let whole : c.args.bytes.now ≡ front ++ end ∷ [] = all_but_last c.args.bytes.now last (omega arith) in
    let parts = packed_parts c.args.shape.now.digits c.args.shape.now.signed c.args.bytes.now front end negative digits c.args.shape.now.some whole long packed in
    c.in-None.ensures.none parts.fd parts.valid parts.text
