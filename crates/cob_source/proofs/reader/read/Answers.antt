use Rattle.std.proofs.Common.{ℕ, List, [], ◌∷◌, ◌++◌, refl, ap, ◌∙◌, arith}
use Rattle.std.proofs.lemmas.Result.{err_from_is_err_and}
use Rattle.std.proofs.lemmas.Grind.{common_steps}
use Rattle.cob_source.specs.declared.fault.SourceRule.TheVariants.{TooLong}
use Rattle.cob_source.specs.Lines.{lines}
use Rattle.cob_source.proofs.AheadLemmas.{all_read, line_read, nothing_left, number_more}
use Rattle.cob_source.proofs.ReadingLemmas.{nothing_read, finishes, refusal_at, refusal_end, not_refused}
use Rattle.cob_source.proofs.reader.read.Goals as goal

pub returns-then-text-gt-MAX_TEXT_BYTES-clause-reads : goal.returns-then-text-gt-MAX_TEXT_BYTES-clause-reads
returns-then-text-gt-MAX_TEXT_BYTES-clause-reads c = λ ts w. absurd (w.breaks_none TooLong 1 (c.if-text-gt-MAX_TEXT_BYTES.true, refl))

pub loop-rest-init : goal.loop-rest-init
loop-rest-init c = record { few = omega arith; read = ([], refl, refl, rw (c.new.ensures.items, c.new-out.ensures.items) nothing_read) }

pub loop-rest-preserved : goal.loop-rest-preserved
loop-rest-preserved c =
    let r = c.loop-rest.invariant.read in
    let line = c.next_line.result.0.now in
    record {
      few = omega (arith, c.loop-rest.invariant.few, c.next_line.ensures.shorter);
      read = (
        r.0 ++ line ∷ [],
        line_read c.args.text.now c.loop-rest.rest.now c.next_line.result.1.now line r.0 r.1 c.next_line.ensures.line,
        number_more c.loop-rest.number r.0 line r.2,
        c.in_ok-take_line.ensures.ok [] r.0 r.2 r.3,
      );
    }

pub returns-in_err-take_line-clause-reads : goal.returns-in_err-take_line-clause-reads
returns-in_err-take_line-clause-reads c = λ ts w.
    let p = err_from_is_err_and c.from_residual.result c.from_residual.ensures.1 in
    let r = c.loop-rest.invariant.read in
    rw (p.1, p.2) (not_refused _ c.args.text.now ts _ _ w
    (refusal_at c.args.text.now _ _ r.0 c.next_line.result.0.now (lines c.next_line.result.1.now) (r.1 ∙ ap (λ (l : List (List ℕ)). r.0 ++ l) c.next_line.ensures.line) (c.in_err-take_line.ensures.fault [] r.0 r.2 r.3)))

pub returns-in_err-take_line-clause-refused : goal.returns-in_err-take_line-clause-refused
returns-in_err-take_line-clause-refused c =
    let p = err_from_is_err_and c.from_residual.result c.from_residual.ensures.1 in
    let r = c.loop-rest.invariant.read in
    rw (p.1, p.2)
    (refusal_at c.args.text.now _ _ r.0 c.next_line.result.0.now (lines c.next_line.result.1.now) (r.1 ∙ ap (λ (l : List (List ℕ)). r.0 ++ l) c.next_line.ensures.line) (c.in_err-take_line.ensures.fault [] r.0 r.2 r.3))

pub returns-in_err-cut_joined-clause-reads : goal.returns-in_err-cut_joined-clause-reads
returns-in_err-cut_joined-clause-reads c = λ ts w.
    let p = err_from_is_err_and c.from_residual-in_err-cut_joined.result c.from_residual-in_err-cut_joined.ensures.1 in
    let r = c.loop-rest.invariant.read in
    rw (p.1, p.2) (not_refused _ c.args.text.now ts _ _ w
    (refusal_end c.args.text.now _ _ r.3 (all_read c.args.text.now c.loop-rest.rest.now r.0 r.1 (nothing_left _ (grind (arith, common_steps)))) c.in_err-cut_joined.ensures.fault))

pub returns-in_err-cut_joined-clause-refused : goal.returns-in_err-cut_joined-clause-refused
returns-in_err-cut_joined-clause-refused c =
    let p = err_from_is_err_and c.from_residual-in_err-cut_joined.result c.from_residual-in_err-cut_joined.ensures.1 in
    let r = c.loop-rest.invariant.read in
    rw (p.1, p.2)
    (refusal_end c.args.text.now _ _ r.3 (all_read c.args.text.now c.loop-rest.rest.now r.0 r.1 (nothing_left _ (grind (arith, common_steps)))) c.in_err-cut_joined.ensures.fault)

pub returns-clause-words : goal.returns-clause-words
returns-clause-words c =
    let r = c.loop-rest.invariant.read in
    let f = c.in_ok-cut_joined.ensures.found in
    finishes c.args.text.now f.0 _ r.3 (all_read c.args.text.now c.loop-rest.rest.now r.0 r.1 (nothing_left _ (grind (arith, common_steps)))) c.if-text-gt-MAX_TEXT_BYTES.false c.in_ok-cut_joined.ensures.closed f.1 f.2
