use Rattle.std.proofs.Common.{◌+◌, ◌≤◌, ◌∙◌, ap, subst, sym, inl, length, count_by}
use Rattle.cob_picture.specs.Positions.{symbols_of}
use Rattle.cob_picture.specs.Counts.{size}
use Rattle.cob_edit.specs.Places.{is_digit, bytes_of}
use Rattle.cob_edit.specs.Pictured.{places}
use Rattle.cob_edit.proofs.PlaceLemmas.{few_places, bytes_same, digits_same, few_digits}
use Rattle.cob_edit.proofs.positions.places_of.Goals as goal

pub positions-requires : goal.positions-requires
positions-requires c = inl c.requires.shows

pub places_in-requires : goal.places_in-requires
places_in-requires c =
    let same = c.as_slice.ensures.value ∙ c.positions.ensures.roles in
    record { few = subst (λ ps. length (places ps) + 2 ≤ 256) (sym same) (few_places _ _ c.positions.ensures.picture c.requires.shows) }

pub returns-clause-bytes : goal.returns-clause-bytes
returns-clause-bytes c =
    let same = c.as_slice.ensures.value ∙ c.positions.ensures.roles in
    ap bytes_of (c.places_in.ensures ∙ ap places same) ∙ bytes_same c.args.picture.now.category (symbols_of c.positions.result.items) ∙ ap size (sym c.positions.ensures.roles ∙ c.positions.ensures.value)

pub returns-clause-digits : goal.returns-clause-digits
returns-clause-digits c = ap (λ ps. count_by is_digit ps) (c.places_in.ensures ∙ ap places (c.as_slice.ensures.value ∙ c.positions.ensures.value)) ∙ digits_same c.args.picture.now.positions

pub returns-clause-few : goal.returns-clause-few
returns-clause-few c =
    let same = c.as_slice.ensures.value ∙ c.positions.ensures.roles in
    subst (λ ps. count_by is_digit ps ≤ 31) (sym (c.places_in.ensures ∙ ap places same)) (few_digits c.args.picture.now.category (symbols_of c.positions.result.items) c.positions.ensures.picture)
