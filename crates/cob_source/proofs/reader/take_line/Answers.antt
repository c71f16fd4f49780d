use Rattle.std.proofs.Common.{List, ◌++◌, sym, ap, ◌∙◌}
use Rattle.std.specs.Prelude.{◌&&◌, Result, Ok, Err, IfErr}
use Rattle.std.proofs.lemmas.Result.{err_from_is_err_and, on_ok_weaker}
use Rattle.cob_source.specs.declared.token.Cell.{Cell}
use Rattle.cob_source.specs.Tokens.{lexemes}
use Rattle.cob_source.specs.Lines.{is_nil, is_options, program_text}
use Rattle.cob_source.proofs.AheadLemmas.{behind_front}
use Rattle.cob_source.proofs.ReadingLemmas.{skips, passes, starts, continues, open_refused, continuation_refused}
use Rattle.cob_source.proofs.reader.take_line.Goals as goal

err_weaker : {T E : Type 0} {P Q : E → Type 0} (r : Result T E) → ((e : E) → P e → Q e) → IfErr r P → IfErr r Q
err_weaker (Ok x) f h = tt
err_weaker (Err e) f h = f e h

pub returns-in_err-cut_joined-in-Plain-clause-fault : goal.returns-in_err-cut_joined-in-Plain-clause-fault
returns-in_err-cut_joined-in-Plain-clause-fault c = λ front before num r.
    let p = err_from_is_err_and c.from_residual.result c.from_residual.ensures.1 in
    rw (p.1, p.2) (open_refused _ _ c.args.line.now r (sym c.line_kind.ensures ∙ c.in-Plain.is) c.in_err-cut_joined-in-Plain.ensures.fault)

pub returns-in-Skipped-clause-ok : goal.returns-in-Skipped-clause-ok
returns-in-Skipped-clause-ok c = λ front before num r. skips c.args.line.now r c.in_default.ensures.none (sym c.line_kind.ensures ∙ c.in-Skipped.is)

pub returns-then-only_has_options-clause-ok : goal.returns-then-only_has_options-clause-ok
returns-then-only_has_options-clause-ok c = λ front before num r.
    passes c.args.line.now r c.in_default.ensures.none (sym c.line_kind.ensures ∙ c.in-Plain.is)
    (ap (λ (l : List Cell). is_nil l && is_options (program_text c.args.line.now)) (sym c.as_slice.ensures.value) ∙ (sym c.only_has_options.ensures ∙ c.if-only_has_options.true))

pub returns-in_ok-begin_line-in-Plain-clause-ok : goal.returns-in_ok-begin_line-in-Plain-clause-ok
returns-in_ok-begin_line-in-Plain-clause-ok c = λ front before num r.
    let f = c.in_ok-cut_joined-in-Plain.ensures.found in
    rw c.in_ok-begin_line-in-Plain.ensures.last
    (starts c.args.line.now c.args.number f.0 c.begin_line.new.joined.cells.items c.begin_line.new.joined.quote (front ++ lexemes c.cut_joined.new.out.items) r c.in_default.ensures.none (sym c.line_kind.ensures ∙ c.in-Plain.is)
    (ap (λ (l : List Cell). is_nil l && is_options (program_text c.args.line.now)) (sym c.as_slice.ensures.value) ∙ (sym c.only_has_options.ensures ∙ c.if-only_has_options.false))
    c.in_ok-cut_joined-in-Plain.ensures.closed f.1 (behind_front front (lexemes c.args.out.now.items) f.0 (lexemes c.cut_joined.new.out.items) f.2) num c.in_ok-begin_line-in-Plain.ensures.cells c.in_ok-begin_line-in-Plain.ensures.quote)

pub returns-in-Continuation-clause-ok : goal.returns-in-Continuation-clause-ok
returns-in-Continuation-clause-ok c = λ front before num r.
    on_ok_weaker c.continue_line.result (λ j. continues c.args.line.now c.args.number _ _ _ r c.in_default.ensures.none (sym c.line_kind.ensures ∙ c.in-Continuation.is) num j) c.continue_line.ensures.ok

pub returns-in-Continuation-clause-fault : goal.returns-in-Continuation-clause-fault
returns-in-Continuation-clause-fault c = λ front before num r.
    err_weaker c.continue_line.result (λ f b. continuation_refused f.rule f.line c.args.number c.args.line.now r (sym c.line_kind.ensures ∙ c.in-Continuation.is) num b) c.continue_line.ensures.fault

pub returns-in-Continuation-clause-quote : goal.returns-in-Continuation-clause-quote
returns-in-Continuation-clause-quote c = on_ok_weaker c.continue_line.result (λ j. j.open_is) c.continue_line.ensures.ok
