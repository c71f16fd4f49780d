use Rattle.std.proofs.Common.{◌≡◌, ◌∷◌, refl, rules}
use Rattle.cob_move_condition.proofs.texts.next_character.Goals as goal

pub returns-in-Some-clause-coded : goal.returns-in-Some-clause-coded
returns-in-Some-clause-coded c =
    let front : c.args.literal.now ≡ c.in-Some.character.now ∷ c.in-Some.behind.now = search rules in
    λ bytes are. (c.byte_of.result ∷ bytes, rw front (c.byte_of.ensures, are), refl, refl)
