-- Whole records of one length in front of others.
use Rattle.std.proofs.Common.{◌≡◌, ◌∙◌, ℕ, zero, suc, ◌+◌, ◌*◌, ◌≤◌, List, [], ◌∷◌, length, take, drop, refl, sym, ap, subst, arith}
use Rattle.std.proofs.Math.Nat.{suc-mul}
use Rattle.std.proofs.lemmas.Grind.{common_steps}
use Rattle.std.proofs.lemmas.List.{drop-drop, take-append-drop}
use Rattle.cob_records.specs.Forms.{Come}
use Rattle.cob_records.specs.declared.records.Form.TheVariants.{Fixed}
use Rattle.cob_records_parts.specs.Choices.{AreInFront}

pub in_front : (count greatest : ℕ) (bytes : List ℕ) → count * greatest ≤ length bytes → AreInFront greatest count (count * greatest) bytes
in_front zero greatest bytes within =
    let product : zero * greatest ≡ 0 = omega arith in
    let none : drop (zero * greatest) bytes ≡ bytes = ap (λ (n : ℕ). drop n bytes) product in
    record { bodies = []; each = tt; come = (sym none, refl); many = refl }
in_front (suc count) greatest bytes within =
    let product : suc count * greatest ≡ greatest + count * greatest = omega (arith, suc-mul count greatest) in
    let long : length (take greatest bytes) ≡ greatest = grind (arith, common_steps) in
    let left : length bytes ≡ greatest + length (drop greatest bytes) = grind (arith, common_steps) in
    let others = in_front count greatest (drop greatest bytes) (omega (arith, product, within, left)) in
    let same : drop (count * greatest) (drop greatest bytes) ≡ drop (suc count * greatest) bytes =
    drop-drop (count * greatest) greatest bytes ∙ ap (λ (n : ℕ). drop n bytes) (sym product) in
    record {
      bodies = take greatest bytes ∷ others.bodies;
      each = (long, others.each);
      come = (
        0,
        drop greatest bytes,
        (sym (take-append-drop greatest bytes), refl),
        subst (λ (xs : List ℕ). Come Fixed 0 others.bodies (drop greatest bytes) 0 xs) same others.come,
      );
      many = ap (λ (n : ℕ). suc n) others.many;
    }

pub whole_in_front : (records from greatest : ℕ) (bytes : List ℕ) → from ≡ greatest → records * from ≤ length bytes → AreInFront greatest records (records * from) bytes
whole_in_front records from greatest bytes e within =
    subst (λ (n : ℕ). AreInFront greatest records (records * n) bytes) (sym e)
    (in_front records greatest bytes (subst (λ (n : ℕ). records * n ≤ length bytes) e within))
