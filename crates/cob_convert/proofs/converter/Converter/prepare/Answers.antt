use Rattle.std.proofs.Common.{◌∙◌, ◌≡◌, ap, subst, sym}
use Rattle.std.proofs.lemmas.Result.{err_from_is_err_and}
use Rattle.cob_copybook.specs.Books.{IsBookOf}
use Rattle.cob_copybook.specs.declared.role.Role.TheVariants.{In, Out}
use Rattle.cob_copybook_conditions.specs.Names.{plain_condition_names}
use Rattle.cob_layout.specs.Storage.{greatest_length}
use Rattle.cob_move_names.specs.Valued.{PlainConditionNames}
use Rattle.cob_records.specs.Forms.{FitsForm}
use Rattle.cob_convert.specs.Means.{HaveConditionNames, Means}
use Rattle.cob_convert.proofs.Refused.{block_refused, block_refused_not, in_refused, moves_refused, out_refused, paragraph_named, paragraph_too}
use Rattle.cob_convert.proofs.converter.Converter.prepare.Goals as goal

pub returns-in_err-input-clause-only : goal.returns-in_err-input-clause-only
returns-in_err-input-clause-only c = λ m says fits.
    let p = err_from_is_err_and c.from_residual.result c.from_residual.ensures.1 in
    rw (p.1, p.2) ((c.in_err-input.ensures.only m.records.input says.input).1)

pub returns-in_err-output-clause-refused : goal.returns-in_err-output-clause-refused
returns-in_err-output-clause-refused c =
    let p = err_from_is_err_and c.from_residual-in_err-output.result c.from_residual-in_err-output.ensures.1 in
    rw (p.1, p.2) (out_refused c.args.out_form c.in_err-output.field-0.0 c.args.in_book.now c.args.out_book.now c.args.moves.now
    (c.in_ok-input.input, c.in_ok-input.ensures.found) c.in_err-output.ensures.refused)

pub returns-in_err-output-clause-only : goal.returns-in_err-output-clause-only
returns-in_err-output-clause-only c = λ m says fits.
    let p = err_from_is_err_and c.from_residual-in_err-output.result c.from_residual-in_err-output.ensures.1 in
    rw (p.1, p.2) ((c.in_err-output.ensures.only m.records.output says.output).1)

pub returns-in_err-in_names-clause-only : goal.returns-in_err-in_names-clause-only
returns-in_err-in_names-clause-only c = λ m says fits.
    let p = err_from_is_err_and c.from_residual-in_err-in_names.result c.from_residual-in_err-in_names.ensures.1 in
    rw (p.1, p.2) ((c.in_err-in_names.ensures.only says.names.input says.named.input).1)

pub returns-in_err-in_names-clause-refused : goal.returns-in_err-in_names-clause-refused
returns-in_err-in_names-clause-refused c =
    let p = err_from_is_err_and c.from_residual-in_err-in_names.result c.from_residual-in_err-in_names.ensures.1 in
    rw (p.1, p.2) (in_refused c.args.out_form c.in_err-in_names.field-0.0 c.args.in_book.now c.args.out_book.now c.args.moves.now c.in_err-in_names.ensures.refused)

pub returns-in_err-out_names-clause-only : goal.returns-in_err-out_names-clause-only
returns-in_err-out_names-clause-only c = λ m says fits.
    let p = err_from_is_err_and c.from_residual-in_err-out_names.result c.from_residual-in_err-out_names.ensures.1 in
    rw (p.1, p.2) ((c.in_err-out_names.ensures.only says.names.output says.named.output).1)

pub returns-in_err-out_names-clause-refused : goal.returns-in_err-out_names-clause-refused
returns-in_err-out_names-clause-refused c =
    let p = err_from_is_err_and c.from_residual-in_err-out_names.result c.from_residual-in_err-out_names.ensures.1 in
    rw (p.1, p.2) (out_refused c.args.out_form c.in_err-out_names.field-0.0 c.args.in_book.now c.args.out_book.now c.args.moves.now
    (c.in_ok-input.input, c.in_ok-input.ensures.found) c.in_err-out_names.ensures.refused)

pub returns-in_err-conversion-clause-refused : goal.returns-in_err-conversion-clause-refused
returns-in_err-conversion-clause-refused c =
    let p = err_from_is_err_and c.from_residual-in_err-conversion.result c.from_residual-in_err-conversion.ensures.1 in
    let names : PlainConditionNames = record { input = plain_condition_names c.as_slice.result.now; output = plain_condition_names c.as_slice-2.result.now } in
    let named : HaveConditionNames c.args.in_book.now c.args.out_book.now names = record {
      input = rw c.as_slice.ensures.value c.in_ok-in_names.ensures.found;
      output = rw c.as_slice-2.ensures.value c.in_ok-out_names.ensures.found;
    } in
    rw (p.1, p.2) (moves_refused c.args.out_form c.in_err-conversion.field-0.0 c.args.in_book.now c.args.out_book.now c.args.moves.now c.in_ok-input.input c.in_ok-output.output names
    c.in_ok-input.ensures.found c.in_ok-output.ensures.found named c.in_err-conversion.ensures.refused)

pub returns-in_err-conversion-clause-only : goal.returns-in_err-conversion-clause-only
returns-in_err-conversion-clause-only c = λ m says fits.
    let p = err_from_is_err_and c.from_residual-in_err-conversion.result c.from_residual-in_err-conversion.ensures.1 in
    let input = (c.in_ok-input.ensures.only m.records.input says.input).0 in
    let output = (c.in_ok-output.ensures.only m.records.output says.output).0 in
    let names : PlainConditionNames = record { input = plain_condition_names c.as_slice.result.now; output = plain_condition_names c.as_slice-2.result.now } in
    let in_same : plain_condition_names c.as_slice.result.now ≡ says.names.input = rw c.as_slice.ensures.value ((c.in_ok-in_names.ensures.only says.names.input says.named.input).0) in
    let out_same : plain_condition_names c.as_slice-2.result.now ≡ says.names.output = rw c.as_slice-2.ensures.value ((c.in_ok-out_names.ensures.only says.names.output says.named.output).0) in
    rw (p.1, p.2) (c.in_err-conversion.ensures.only m.deeds (paragraph_named c.args.moves.now _ _ names says.names m.deeds in_same out_same
    (paragraph_too c.args.moves.now _ _ _ _ says.names m.deeds input output says.paragraph)))

pub returns-in_err-check_block-clause-only : goal.returns-in_err-check_block-clause-only
returns-in_err-check_block-clause-only c = λ m says fits.
    let output = (c.in_ok-output.ensures.only m.records.output says.output).0 in
    let same = c.out_length.ensures.value ∙ ap greatest_length (c.in_ok-conversion.ensures.output ∙ output) in
    absurd (block_refused_not c.args.out_form c.in_err-check_block.field-0.0 c.out_length.result (subst (FitsForm c.args.out_form) (sym same) fits) c.in_err-check_block.ensures.refused)

pub returns-in_err-check_block-clause-refused : goal.returns-in_err-check_block-clause-refused
returns-in_err-check_block-clause-refused c =
    let p = err_from_is_err_and c.from_residual-in_err-check_block.result c.from_residual-in_err-check_block.ensures.1 in
    let made = c.in_ok-conversion.conversion in
    let input = c.in_ok-conversion.ensures.input in
    let output = c.in_ok-conversion.ensures.output in
    let means : Means c.args.in_book.now c.args.out_book.now c.args.moves.now made = record {
      input = subst (IsBookOf In c.args.in_book.now) (sym input) c.in_ok-input.ensures.found;
      output = subst (IsBookOf Out c.args.out_book.now) (sym output) c.in_ok-output.ensures.found;
      names = record { input = plain_condition_names c.as_slice.result.now; output = plain_condition_names c.as_slice-2.result.now };
      named = record { input = rw c.as_slice.ensures.value c.in_ok-in_names.ensures.found; output = rw c.as_slice-2.ensures.value c.in_ok-out_names.ensures.found };
      paragraph = paragraph_too c.args.moves.now _ _ _ _ _ made.deeds input output c.in_ok-conversion.ensures.paragraph;
    } in
    rw (p.1, p.2) (block_refused c.args.out_form c.in_err-check_block.field-0.0 c.out_length.result c.args.in_book.now c.args.out_book.now c.args.moves.now made means c.out_length.ensures.value c.in_err-check_block.ensures.refused)

pub returns-clause-means : goal.returns-clause-means
returns-clause-means c =
    let made = c.in_ok-conversion.conversion in
    let input = c.in_ok-conversion.ensures.input in
    let output = c.in_ok-conversion.ensures.output in
    let means : Means c.args.in_book.now c.args.out_book.now c.args.moves.now made = record {
      input = subst (IsBookOf In c.args.in_book.now) (sym input) c.in_ok-input.ensures.found;
      output = subst (IsBookOf Out c.args.out_book.now) (sym output) c.in_ok-output.ensures.found;
      names = record { input = plain_condition_names c.as_slice.result.now; output = plain_condition_names c.as_slice-2.result.now };
      named = record { input = rw c.as_slice.ensures.value c.in_ok-in_names.ensures.found; output = rw c.as_slice-2.ensures.value c.in_ok-out_names.ensures.found };
      paragraph = paragraph_too c.args.moves.now _ _ _ _ _ made.deeds input output c.in_ok-conversion.ensures.paragraph;
    } in
    subst (Means c.args.in_book.now c.args.out_book.now c.args.moves.now) (sym c.in_ok-of.ensures.made) means
