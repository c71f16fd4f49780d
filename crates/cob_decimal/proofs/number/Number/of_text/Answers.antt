use Rattle.std.proofs.Common.{rules, ◌≡◌, ◌++◌, length, ℕ, ◌∙◌, sym, refl, ap, arith, ◌↔◌, List, [], IsTrue, Bool, true, false, Option, Some}
use Rattle.std.specs.Option.{option_copied}
use Rattle.std.specs.Prelude.{unwrap_or}
use Rattle.std.proofs.lemmas.Int.{ints}
use Rattle.cob_decimal.specs.Literals.{sign_text, digits_in}
use Rattle.cob_decimal.specs.Parts.{IsReadable}
use Rattle.cob_decimal.proofs.LiteralLemmas.{minus_is, length-digits_in, only_readable, literal_of, literal_read, literal_text_read}
use Rattle.cob_decimal.proofs.number.Number.of_text.Goals as goal

pub returns-then-not-is_literal-clause-only : goal.returns-then-not-is_literal-clause-only
returns-then-not-is_literal-clause-only c =
    λ l is e. let r : IsReadable c.split_point.result.0.now (option_copied c.split_point.result.1) = only_readable c.args.text.now c.split_sign-sign.result.1.now c.split_point.result.0.now c.split_sign-sign.result.0 (option_copied c.split_point.result.1) c.split_sign-sign.ensures.parts c.split_sign-sign.ensures.none c.split_point.ensures.parts c.split_point.ensures.first l is e in
    let t : IsTrue false = rw c.if-not-is_literal.true at (c.is_literal.ensures.1 r) in search rules

pub returns-clause-found : goal.returns-clause-found
returns-clause-found c =
    let r : IsReadable c.split_point.result.0.now (option_copied c.split_point.result.1) = c.is_literal.ensures.0 (rw c.if-not-is_literal.false (search rules)) in
    let s : Option Bool = c.split_sign-sign.result.0 in
    let w : List ℕ = c.split_point.result.0.now in
    let f : Option (List ℕ) = option_copied c.split_point.result.1 in
    let fraction : c.or_empty-fraction.result.now ≡ unwrap_or f [] = c.or_empty-fraction.ensures in
    let digits : c.new.result.digits ≡ digits_in w ++ digits_in (unwrap_or f []) =
    c.new.ensures.digits ∙ c.push_text-2.ensures ∙ rw (c.push_text.ensures, c.new-digits.ensures, fraction) refl
    in
    let places : length (digits_in (unwrap_or f [])) ≡ length c.or_empty-fraction.result.now = length-digits_in (unwrap_or f []) ∙ sym (ap length fraction) in
    let minus : IsTrue c.eq.result ↔ (s ≡ Some true) = minus_is s c.eq.result c.eq.ensures in (
      literal_of s w f,
      literal_read s w f r,
      c.split_sign-sign.ensures.parts ∙ ap (λ u. sign_text s ++ u) c.split_point.ensures.parts ∙ sym (literal_text_read s w f r),
      record {
        as_written = digits;
        point = omega (arith, ints, places, c.new.ensures.scale, (literal_read s w f r).most);
        minus = rw c.new.ensures.digits (λ h. (minus.0 (c.new.ensures.sign.0 h).0, (c.new.ensures.sign.0 h).1), λ h. c.new.ensures.sign.1 (minus.1 h.0, h.1));
      },
    )
