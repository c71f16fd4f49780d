use Rattle.std.proofs.Common.{◌≡◌, ◌∙◌, rules, w8}
use Rattle.std.proofs.lemmas.Int.{to_z-of_z}
use mir.Val.{SFits}
use Rattle.cob_picture.specs.Counts.{scale}
use Rattle.cob_edit.proofs.PicturedLemmas.{made_found, made_only, range_places}
use Rattle.cob_edit.proofs.numbers.deedit.Goals as goal

pub returns-in-Some-clause-found : goal.returns-in-Some-clause-found
returns-in-Some-clause-found c =
    let fits : SFits w8 c.scale.result = search rules in
    let unit : c.new.result.scale ≡ scale c.args.picture.now.positions = c.new.ensures.scale ∙ to_z-of_z w8 c.scale.result fits ∙ c.scale.ensures.value in
    made_found c.args.picture.now c.args.blank c.in-Some.negative c.new.result.negative c.in-Some.digits c.new.result.digits c.args.bytes.now c.as_slice.result.now c.new.result.scale
    (c.as_slice.ensures.value ∙ c.places_of-places.ensures.value) c.in-Some.ensures.found.0 c.in-Some.ensures.found.1 c.new.ensures.sign c.new.ensures.digits unit

pub returns-in-Some-clause-only : goal.returns-in-Some-clause-only
returns-in-Some-clause-only c n ds range edited =
    let fits : SFits w8 c.scale.result = search rules in
    let unit : c.new.result.scale ≡ scale c.args.picture.now.positions = c.new.ensures.scale ∙ to_z-of_z w8 c.scale.result fits ∙ c.scale.ensures.value in
    let own = range_places c.args.picture.now c.args.blank n ds c.args.bytes.now c.as_slice.result.now (c.as_slice.ensures.value ∙ c.places_of-places.ensures.value) range edited in
    made_only n c.new.result.negative c.in-Some.negative ds c.new.result.digits c.in-Some.digits c.as_slice.result.now c.new.result.scale _ c.in-Some.ensures.found.0 c.new.ensures.sign c.new.ensures.digits unit (c.in-Some.ensures.only n ds own.0 own.1)

pub returns-in-None-clause-only : goal.returns-in-None-clause-only
returns-in-None-clause-only c n ds range edited =
    let own = range_places c.args.picture.now c.args.blank n ds c.args.bytes.now c.as_slice.result.now (c.as_slice.ensures.value ∙ c.places_of-places.ensures.value) range edited in
    c.in-None.ensures.only n ds own.0 own.1
