use Rattle.std.proofs.Common.{List, sym, subst, arith}
use Rattle.std.proofs.lemmas.Grind.{common_steps}
use Rattle.std.proofs.lemmas.Int.{ints}
use Rattle.std.proofs.lemmas.Result.{err_from_is_err_and}
use Rattle.cob_picture.specs.declared.symbol.Run.{Run}
use Rattle.cob_picture.specs.Positions.{written_out}
use Rattle.cob_picture.specs.Pictures.{IsPicture}
use Rattle.cob_picture.proofs.Limits.{bounded}
use Rattle.cob_picture.proofs.Found.{positive_is, is_found, is_only, same_seen, broken_order}
use Rattle.cob_picture.proofs.picture.Picture.read.Goals as goal

pub category_and_counts-requires-clause-positive : goal.category_and_counts-requires-clause-positive
category_and_counts-requires-clause-positive c = rw c.as_slice.ensures.value (positive_is _ _ c.in_ok-runs.ensures.found)

pub returns-in_err-category-clause-only : goal.returns-in_err-category-clause-only
returns-in_err-category-clause-only c = λ p h.
    let o = is_only _ c.in_ok-runs.runs.items p c.in_ok-runs.ensures.only h in
    absurd (c.in_err-category.ensures.only p.category (subst (λ (runs : List Run). IsPicture p.category (written_out runs)) (sym c.as_slice.ensures.value) o.0))

pub returns-in_err-category-clause-fault : goal.returns-in_err-category-clause-fault
returns-in_err-category-clause-fault c =
    let m = rw c.as_slice.ensures.value at c.in_err-category.ensures.fault in
    let p = err_from_is_err_and c.from_residual-in_err-category.result c.from_residual-in_err-category.ensures.1 in
    rw (p.1, p.2) (broken_order _ _ c.in_ok-runs.runs.items c.in_ok-runs.ensures.found m)

pub overflow_cast-result-2 : goal.overflow_cast-result-2
overflow_cast-result-2 c =
    let f = rw c.as_slice.ensures.value at c.in_ok-category.ensures.found in
    let b = bounded _ _ f.0 in
    omega (arith, ints, b.few_digits, f.1.kept)

pub overflow_cast-result-3 : goal.overflow_cast-result-3
overflow_cast-result-3 c =
    let f = rw c.as_slice.ensures.value at c.in_ok-category.ensures.found in
    let b = bounded _ _ f.0 in
    omega (arith, ints, b.fraction, f.1.behind)

pub overflow_cast-result-4 : goal.overflow_cast-result-4
overflow_cast-result-4 c =
    let f = rw c.as_slice.ensures.value at c.in_ok-category.ensures.found in
    let b = bounded _ _ f.0 in
    omega (arith, ints, b.missing, f.1.missing)

pub overflow_sub-result : goal.overflow_sub-result
overflow_sub-result c =
    let f = rw c.as_slice.ensures.value at c.in_ok-category.ensures.found in
    let b = bounded _ _ f.0 in
    omega (arith, ints, b.fraction, b.missing, f.1.behind, f.1.missing)

pub invariant_of-result : goal.invariant_of-result
invariant_of-result c =
    let f = rw c.as_slice.ensures.value at c.in_ok-category.ensures.found in
    let b = bounded _ _ f.0 in (
      record {
        picture = f.0;
        takes = f.1.bytes;
        shows = f.1.kept;
        counts_in = omega (arith, ints, b.fraction, b.missing, f.1.behind, f.1.missing);
        keeps_sign = f.1.sign;
      },
      positive_is _ _ c.in_ok-runs.ensures.found,
    )

pub returns-clause-found : goal.returns-clause-found
returns-clause-found c =
    let f = rw c.as_slice.ensures.value at c.in_ok-category.ensures.found in
    is_found _ c.in_ok-runs.runs.items c.in_ok-category.category (grind (arith, common_steps)) (omega arith) c.in_ok-runs.ensures.found f.0

pub returns-clause-only : goal.returns-clause-only
returns-clause-only c = λ p h.
    let o = is_only _ c.in_ok-runs.runs.items p c.in_ok-runs.ensures.only h in
    let e = c.in_ok-category.ensures.only p.category (subst (λ (runs : List Run). IsPicture p.category (written_out runs)) (sym c.as_slice.ensures.value) o.0) in
    same_seen p c.in_ok-category.category c.in_ok-runs.runs.items e o.1
