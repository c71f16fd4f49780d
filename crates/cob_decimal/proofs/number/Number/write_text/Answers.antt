use Rattle.std.proofs.Common.{rules, ◌≡◌, ◌∙◌, ap, [], ◌∷◌, append_assoc, refl, w8}
use Rattle.std.specs.Prelude.{if◌then◌else◌}
use Rattle.std.proofs.lemmas.List.{take_rest}
use Rattle.std.proofs.lemmas.Int.{to_z-of_z}
use mir.Val.{SFits}
use Rattle.cob_decimal.proofs.NumberTextLemmas.{made}
use Rattle.cob_decimal.proofs.number.Number.write_text.Goals as goal
use Rattle.cob_decimal.proofs.number.Number.write_text.Goals.{then-self, else-self}

pub returns : goal.returns
returns c =
    let fits : SFits w8 c.args.self.now.scale = search rules in
    let sign : c.if-self.out.items ≡ (if c.args.self.now.negative then 45 ∷ [] else []) =
    elim c.if-self.branch [
      | then-self w ↦ ap (λ v. v.items) w.out-is ∙ w.push.ensures.items ∙ rw (c.clear.ensures, w.if-self.true) refl
      | else-self w ↦ ap (λ v. v.items) w.out-is ∙ rw (c.clear.ensures, w.if-self.false) refl
    ]
    in
    made c.args.self.now.negative c.args.self.now.digits c.args.self.now.scale c.write_fraction.new.out.items c.as_slice-digits.ensures.digits
    (c.write_fraction.ensures ∙ rw (c.write_whole.ensures, c.without_zeros.ensures.rest, sign, c.zeros_of-zeros.ensures, c.saturating_sub-point.ensures, c.places-places.ensures, c.as_slice-digits.ensures.value, take_rest, to_z-of_z w8 c.args.self.now.scale fits, append_assoc) refl)
