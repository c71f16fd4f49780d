use Rattle.std.proofs.Common.{◌≡◌, subst, sym}
use Rattle.std.proofs.lemmas.Result.{err_from_is_err_and}
use Rattle.cob_convert_record.specs.Conversion.{Conversion}
use Rattle.cob_convert.specs.Unique.{HasBytes}
use Rattle.cob_convert.proofs.converter.Converter.prepare_with.Goals as goal

pub returns-clause-means : goal.returns-clause-means
returns-clause-means c = (c.in_ok-pictured.pictured, c.in_ok-pictured.ensures.means, c.with_reading.ensures)

pub returns-clause-forms : goal.returns-clause-forms
returns-clause-forms c =
    subst (λ (made : Conversion). (made.in_form ≡ c.args.in_form) × (made.out_form ≡ c.args.out_form)) (sym c.with_reading.ensures) c.in_ok-pictured.ensures.forms

pub returns-clause-records : goal.returns-clause-records
returns-clause-records c =
    subst (λ (made : Conversion). HasBytes made.records.input × HasBytes made.records.output) (sym c.with_reading.ensures) c.in_ok-pictured.ensures.records

pub returns-in_err-pictured-clause-only : goal.returns-in_err-pictured-clause-only
returns-in_err-pictured-clause-only c = λ m says fits.
    let p = err_from_is_err_and c.from_residual.result c.from_residual.ensures.1 in
    rw (p.1, p.2) (c.in_err-pictured.ensures.only m says fits)
