use Rattle.std.proofs.Common.{◌≡◌, arith, refl}
use Rattle.std.proofs.lemmas.Result.{err_from_is_err_and}
use Rattle.cob_program_job.specs.Marks.{IsMarkBehind, moves_mark, data_mark}
use Rattle.cob_program_job.proofs.JobTexts.{reach, reach_first, refuse, job_found, after_in, after_out, after_moves, after_mark, no_other_in, no_other_out, no_other_moves, no_other_data, one_in_form, one_out_form, same_parts}
use Rattle.cob_program_job.proofs.job_text.JobText.read.Goals as goal

pub returns-in_err-in_form-clause-only : goal.returns-in_err-in_form-clause-only
returns-in_err-in_form-clause-only c = λ parts is.
    absurd (no_other_in c.args.text.now parts 1 _ is c.in_err-in_form.ensures.err)

pub returns-in_err-in_form-clause-refused : goal.returns-in_err-in_form-clause-refused
returns-in_err-in_form-clause-refused c =
    let p = err_from_is_err_and c.from_residual.result c.from_residual.ensures.1 in
    rw (p.1, p.2) (refuse 0 c.args.text.now c.args.text.now 1 _ (λ line. IsMarkBehind 0 line) (reach_first c.args.text.now) (omega arith) (λ line m. m) c.in_err-in_form.ensures.err)

pub returns-in_err-out_form-clause-only : goal.returns-in_err-out_form-clause-only
returns-in_err-out_form-clause-only c = λ parts is.
    let p = err_from_is_err_and c.from_residual-in_err-out_form.result c.from_residual-in_err-out_form.ensures.1 in
    let a = after_in c.args.text.now parts _ c.form_mark.new.self.rest.now c.part-in_book.result.now c.part-in_book.new.self.rest.now 1 c.form_mark.new.self.number
    c.part-in_book.new.self.number is c.in_ok-in_form.ensures.ok.2 c.part-in_book.ensures in
    absurd (no_other_out c.args.text.now c.part-in_book.new.self.rest.now parts c.part-in_book.new.self.number _ is a.2 c.in_err-out_form.ensures.err)

pub returns-in_err-out_form-clause-refused : goal.returns-in_err-out_form-clause-refused
returns-in_err-out_form-clause-refused c =
    let p = err_from_is_err_and c.from_residual-in_err-out_form.result c.from_residual-in_err-out_form.ensures.1 in
    let first = reach 0 c.args.text.now c.args.text.now _ c.form_mark.new.self.rest.now c.part-in_book.result.now c.part-in_book.new.self.rest.now 1 c.form_mark.new.self.number
    c.part-in_book.new.self.number (reach_first c.args.text.now) (c.in_ok-in_form.in_form, c.in_ok-in_form.ensures.ok.1) c.in_ok-in_form.ensures.ok.2 c.part-in_book.ensures in
    rw (p.1, p.2) (refuse 1 c.args.text.now c.part-in_book.new.self.rest.now c.part-in_book.new.self.number _ (λ line. IsMarkBehind 1 line) first (omega arith) (λ line m. m)
    c.in_err-out_form.ensures.err)

pub returns-in_err-mark-clause-only : goal.returns-in_err-mark-clause-only
returns-in_err-mark-clause-only c = λ parts is.
    let a = after_in c.args.text.now parts _ c.form_mark.new.self.rest.now c.part-in_book.result.now c.part-in_book.new.self.rest.now 1 c.form_mark.new.self.number
    c.part-in_book.new.self.number is c.in_ok-in_form.ensures.ok.2 c.part-in_book.ensures in
    let b = after_out c.args.text.now parts c.part-in_book.new.self.rest.now _ c.form_mark-2.new.self.rest.now c.part-out_book.result.now c.part-out_book.new.self.rest.now
    c.part-in_book.new.self.number c.form_mark-2.new.self.number c.part-out_book.new.self.number is a.2 c.in_ok-out_form.ensures.ok.2 c.part-out_book.ensures in
    absurd (no_other_moves c.args.text.now c.part-out_book.new.self.rest.now parts c.part-out_book.new.self.number _ is b.2 c.in_err-mark.ensures.err)

pub returns-in_err-mark-clause-refused : goal.returns-in_err-mark-clause-refused
returns-in_err-mark-clause-refused c =
    let p = err_from_is_err_and c.from_residual-in_err-mark.result c.from_residual-in_err-mark.ensures.1 in
    let first = reach 0 c.args.text.now c.args.text.now _ c.form_mark.new.self.rest.now c.part-in_book.result.now c.part-in_book.new.self.rest.now 1 c.form_mark.new.self.number
    c.part-in_book.new.self.number (reach_first c.args.text.now) (c.in_ok-in_form.in_form, c.in_ok-in_form.ensures.ok.1) c.in_ok-in_form.ensures.ok.2 c.part-in_book.ensures in
    let second = reach 1 c.args.text.now c.part-in_book.new.self.rest.now _ c.form_mark-2.new.self.rest.now c.part-out_book.result.now c.part-out_book.new.self.rest.now
    c.part-in_book.new.self.number c.form_mark-2.new.self.number c.part-out_book.new.self.number first (c.in_ok-out_form.out_form, c.in_ok-out_form.ensures.ok.1) c.in_ok-out_form.ensures.ok.2 c.part-out_book.ensures in
    rw (p.1, p.2) (refuse 2 c.args.text.now c.part-out_book.new.self.rest.now c.part-out_book.new.self.number _ (λ line. line ≡ moves_mark) second (omega arith) (λ line m. m)
    c.in_err-mark.ensures.err)

pub returns-in_err-mark-2-clause-only : goal.returns-in_err-mark-2-clause-only
returns-in_err-mark-2-clause-only c = λ parts is.
    let a = after_in c.args.text.now parts _ c.form_mark.new.self.rest.now c.part-in_book.result.now c.part-in_book.new.self.rest.now 1 c.form_mark.new.self.number
    c.part-in_book.new.self.number is c.in_ok-in_form.ensures.ok.2 c.part-in_book.ensures in
    let b = after_out c.args.text.now parts c.part-in_book.new.self.rest.now _ c.form_mark-2.new.self.rest.now c.part-out_book.result.now c.part-out_book.new.self.rest.now
    c.part-in_book.new.self.number c.form_mark-2.new.self.number c.part-out_book.new.self.number is a.2 c.in_ok-out_form.ensures.ok.2 c.part-out_book.ensures in
    let m = after_moves c.args.text.now parts c.part-out_book.new.self.rest.now c.mark.new.self.rest.now c.part-moves.result.now c.part-moves.new.self.rest.now
    c.part-out_book.new.self.number c.mark.new.self.number c.part-moves.new.self.number is b.2 c.in_ok-mark.ensures.ok c.part-moves.ensures in
    absurd (no_other_data c.args.text.now c.part-moves.new.self.rest.now parts c.part-moves.new.self.number _ is m.1 c.in_err-mark-2.ensures.err)

pub returns-in_err-mark-2-clause-refused : goal.returns-in_err-mark-2-clause-refused
returns-in_err-mark-2-clause-refused c =
    let p = err_from_is_err_and c.from_residual-in_err-mark-2.result c.from_residual-in_err-mark-2.ensures.1 in
    let first = reach 0 c.args.text.now c.args.text.now _ c.form_mark.new.self.rest.now c.part-in_book.result.now c.part-in_book.new.self.rest.now 1 c.form_mark.new.self.number
    c.part-in_book.new.self.number (reach_first c.args.text.now) (c.in_ok-in_form.in_form, c.in_ok-in_form.ensures.ok.1) c.in_ok-in_form.ensures.ok.2 c.part-in_book.ensures in
    let second = reach 1 c.args.text.now c.part-in_book.new.self.rest.now _ c.form_mark-2.new.self.rest.now c.part-out_book.result.now c.part-out_book.new.self.rest.now
    c.part-in_book.new.self.number c.form_mark-2.new.self.number c.part-out_book.new.self.number first (c.in_ok-out_form.out_form, c.in_ok-out_form.ensures.ok.1) c.in_ok-out_form.ensures.ok.2 c.part-out_book.ensures in
    let third = reach 2 c.args.text.now c.part-out_book.new.self.rest.now moves_mark c.mark.new.self.rest.now c.part-moves.result.now c.part-moves.new.self.rest.now
    c.part-out_book.new.self.number c.mark.new.self.number c.part-moves.new.self.number second refl c.in_ok-mark.ensures.ok c.part-moves.ensures in
    rw (p.1, p.2) (refuse 3 c.args.text.now c.part-moves.new.self.rest.now c.part-moves.new.self.number _ (λ line. line ≡ data_mark) third (omega arith) (λ line m. m)
    c.in_err-mark-2.ensures.err)

pub returns-clause-found : goal.returns-clause-found
returns-clause-found c =
    job_found c.args.text.now c.form_mark.new.self.rest.now c.part-in_book.result.now c.part-in_book.new.self.rest.now c.form_mark-2.new.self.rest.now c.part-out_book.result.now
    c.part-out_book.new.self.rest.now c.mark.new.self.rest.now c.part-moves.result.now c.part-moves.new.self.rest.now c.mark-2.new.self.rest.now c.in_ok-in_form.in_form c.in_ok-out_form.out_form c.in_ok-in_form.ensures.ok.0 c.in_ok-out_form.ensures.ok.0
    c.form_mark.new.self.number c.part-in_book.new.self.number c.form_mark-2.new.self.number c.part-out_book.new.self.number c.mark.new.self.number c.part-moves.new.self.number
    c.mark-2.new.self.number c.in_ok-in_form.ensures.ok.1 c.in_ok-out_form.ensures.ok.1 c.in_ok-in_form.ensures.ok.2 c.part-in_book.ensures c.in_ok-out_form.ensures.ok.2 c.part-out_book.ensures c.in_ok-mark.ensures.ok c.part-moves.ensures
    c.in_ok-mark-2.ensures.ok

pub returns-clause-only : goal.returns-clause-only
returns-clause-only c = λ parts is.
    let a = after_in c.args.text.now parts _ c.form_mark.new.self.rest.now c.part-in_book.result.now c.part-in_book.new.self.rest.now 1 c.form_mark.new.self.number
    c.part-in_book.new.self.number is c.in_ok-in_form.ensures.ok.2 c.part-in_book.ensures in
    let b = after_out c.args.text.now parts c.part-in_book.new.self.rest.now _ c.form_mark-2.new.self.rest.now c.part-out_book.result.now c.part-out_book.new.self.rest.now
    c.part-in_book.new.self.number c.form_mark-2.new.self.number c.part-out_book.new.self.number is a.2 c.in_ok-out_form.ensures.ok.2 c.part-out_book.ensures in
    let m = after_moves c.args.text.now parts c.part-out_book.new.self.rest.now c.mark.new.self.rest.now c.part-moves.result.now c.part-moves.new.self.rest.now
    c.part-out_book.new.self.number c.mark.new.self.number c.part-moves.new.self.number is b.2 c.in_ok-mark.ensures.ok c.part-moves.ensures in
    let d = after_mark c.args.text.now parts c.part-moves.new.self.rest.now c.mark-2.new.self.rest.now c.part-moves.new.self.number c.mark-2.new.self.number is m.1 c.in_ok-mark-2.ensures.ok in
    same_parts parts c.in_ok-in_form.in_form c.in_ok-out_form.out_form c.part-in_book.result.now c.part-out_book.result.now c.part-moves.result.now c.mark-2.new.self.rest.now
    (one_in_form c.in_ok-in_form.in_form parts.in_form c.in_ok-in_form.ensures.ok.0 is.in_mark c.in_ok-in_form.ensures.ok.1 is.in_mark_is a.0)
    (one_out_form c.in_ok-out_form.out_form parts.out_form c.in_ok-out_form.ensures.ok.0 is.out_mark c.in_ok-out_form.ensures.ok.1 is.out_mark_is b.0) a.1 b.1 m.0 d
