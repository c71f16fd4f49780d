use Rattle.std.proofs.Common.{◌≡◌, Option, Some, None, sym, ap, ◌∙◌, arith}
use Rattle.std.specs.Prelude.{IfSome, is_some, true, List}
use Rattle.cob_picture.specs.declared.symbol.Symbol.{Symbol}
use Rattle.cob_picture.specs.declared.numeric.NumericParts.{NumericParts}
use Rattle.cob_picture.specs.declared.category.Category.{Category}
use Rattle.cob_picture.specs.declared.category.Category.TheVariants.{Numeric, Alphabetic, Alphanumeric, AlphanumericEdited}
use Rattle.cob_picture.specs.Numeric.{IsNumeric, numeric_symbols}
use Rattle.cob_picture.specs.Categories.{IsOf, IsAlphabetic, IsAlphanumeric, IsAlphanumericEdited}
use Rattle.cob_picture.specs.Positions.{written_out}
use Rattle.cob_picture.proofs.EditedFacts.{numeric_alone, one_category}
use Rattle.cob_picture.proofs.category.category_of.Goals as goal

from_some : (r : Option NumericParts) (c : Category) (ps : List Symbol) → IfSome r (λ n. IsNumeric n × (ps ≡ numeric_symbols n)) → is_some r ≡ true → IsOf c ps → c ≡ Numeric
from_some (Some n) c ps h s o = numeric_alone c ps n h.0 h.1 o
from_some None c ps h s o = absurd cc

pub returns-then-is_some-clause-only : goal.returns-then-is_some-clause-only
returns-then-is_some-clause-only c = λ k o. ap Some (sym (from_some c.numeric.result k _ c.numeric.ensures.found (sym c.is_some.ensures ∙ c.if-is_some.true) o))

pub returns-then-letters-all-clause-only : goal.returns-then-letters-all-clause-only
returns-then-letters-all-clause-only c = λ k o.
    let h : IsAlphabetic (written_out c.args.runs.now) = record {
      some = omega (arith, c.total-all.ensures.value, c.if-all-gt0.true);
      each = omega (arith, c.total-all.ensures.value, c.count_of-letters.ensures.value, c.if-letters-all.true);
    } in
    ap Some (one_category Alphabetic k (written_out c.args.runs.now) h o)

pub returns-then-digits-all-clause-only : goal.returns-then-digits-all-clause-only
returns-then-digits-all-clause-only c = λ k o.
    let h : IsAlphanumeric (written_out c.args.runs.now) = record {
      each = omega (arith, c.total-all.ensures.value, c.count_of-letters.ensures.value, c.count_of.ensures.value, c.count_of-digits.ensures.value, c.if-characters-digits.true);
      not_letters = omega (arith, c.total-all.ensures.value, c.count_of-letters.ensures.value, c.if-letters-all-2.true);
      not_digits = omega (arith, c.total-all.ensures.value, c.count_of-digits.ensures.value, c.if-digits-all.true);
    } in
    ap Some (one_category Alphanumeric k (written_out c.args.runs.now) h o)

pub returns-then-insertions-gt0-clause-only : goal.returns-then-insertions-gt0-clause-only
returns-then-insertions-gt0-clause-only c = λ k o.
    let h : IsAlphanumericEdited (written_out c.args.runs.now) = record {
      each = omega (arith, c.total-all.ensures.value, c.count_of-letters.ensures.value, c.count_of.ensures.value, c.count_of-digits.ensures.value, c.count_of-2.ensures.value, c.count_of-3.ensures.value, c.count_of-4.ensures.value, c.if-characters-digits-2.true);
      characters = omega (arith, c.count_of-letters.ensures.value, c.count_of.ensures.value, c.if-characters-gt0.true);
      insertions = omega (arith, c.count_of-2.ensures.value, c.count_of-3.ensures.value, c.count_of-4.ensures.value, c.if-insertions-gt0.true);
    } in
    ap Some (one_category AlphanumericEdited k (written_out c.args.runs.now) h o)
