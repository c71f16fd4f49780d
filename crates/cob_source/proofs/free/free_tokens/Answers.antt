use Rattle.std.proofs.Common.{inl, ℕ, List, [], ◌∷◌, ◌++◌, refl, sym, ap, subst, ◌∙◌, append-nil, arith}
use Rattle.std.proofs.lemmas.Result.{err_from_is_err_and}
use Rattle.std.proofs.lemmas.Grind.{common_steps}
use Rattle.cob_source.specs.Tokens.{Lexeme, lexemes}
use Rattle.cob_source.specs.Lines.{lines}
use Rattle.cob_source.specs.Free.{AreFreeFrom}
use Rattle.cob_source.proofs.AheadLemmas.{line_read, nothing_left, number_more}
use Rattle.cob_source.proofs.FreeLemmas.{line_cut, not_refused, refusal_at}
use Rattle.cob_source.proofs.free.free_tokens.Goals as goal

pub returns-then-text-gt-MAX_TEXT_BYTES-clause-reads : goal.returns-then-text-gt-MAX_TEXT_BYTES-clause-reads
returns-then-text-gt-MAX_TEXT_BYTES-clause-reads c = λ ts w. absurd (let s = w.short in let l = c.if-text-gt-MAX_TEXT_BYTES.true in omega (arith, s, l))

pub returns-then-text-gt-MAX_TEXT_BYTES-clause-refused : goal.returns-then-text-gt-MAX_TEXT_BYTES-clause-refused
returns-then-text-gt-MAX_TEXT_BYTES-clause-refused c = inl (c.if-text-gt-MAX_TEXT_BYTES.true, refl)

pub loop-rest-init : goal.loop-rest-init
loop-rest-init c = record { few = omega arith; at = ([], refl, refl); read = rw c.new-out.ensures.items (λ behind w. w) }

pub loop-rest-preserved : goal.loop-rest-preserved
loop-rest-preserved c =
    let r = c.loop-rest.invariant.at in
    let line = c.next_line.result.0.now in
    let more = c.next_line.result.1.now in
    let text = c.args.text.now in
    let found = c.in_ok-take_free_line.ensures.found in
    record {
      few = omega (arith, c.loop-rest.invariant.few, c.next_line.ensures.shorter);
      at = (
        r.0 ++ line ∷ [],
        line_read text c.loop-rest.rest.now more line r.0 r.1 c.next_line.ensures.line,
        number_more c.loop-rest.number r.0 line r.2,
      );
      read = λ behind w.
          line_cut c.loop-rest.number line (lines more) (lexemes c.loop-rest.out.items) found.0 _ behind (λ (t : List Lexeme). AreFreeFrom 1 (lines text) t) c.in_ok-take_free_line.ensures.fits found.1 w found.2
          (λ v. c.loop-rest.invariant.read (found.0 ++ behind) (subst (λ (ls : List (List ℕ)). AreFreeFrom c.loop-rest.number ls (found.0 ++ behind)) (sym c.next_line.ensures.line) v));
    }

pub returns-in_err-take_free_line-clause-reads : goal.returns-in_err-take_free_line-clause-reads
returns-in_err-take_free_line-clause-reads c = λ ts w.
    let p = err_from_is_err_and c.from_residual.result c.from_residual.ensures.1 in
    let r = c.loop-rest.invariant.at in
    rw (p.1, p.2) (not_refused c.args.text.now ts _ _ w
    (refusal_at c.args.text.now _ _ c.loop-rest.number r.0 c.next_line.result.0.now (lines c.next_line.result.1.now) (r.1 ∙ ap (λ (l : List (List ℕ)). r.0 ++ l) c.next_line.ensures.line) r.2 c.in_err-take_free_line.ensures.fault))

pub returns-in_err-take_free_line-clause-refused : goal.returns-in_err-take_free_line-clause-refused
returns-in_err-take_free_line-clause-refused c =
    let p = err_from_is_err_and c.from_residual.result c.from_residual.ensures.1 in
    let r = c.loop-rest.invariant.at in
    rw (p.1, p.2)
    (refusal_at c.args.text.now _ _ c.loop-rest.number r.0 c.next_line.result.0.now (lines c.next_line.result.1.now) (r.1 ∙ ap (λ (l : List (List ℕ)). r.0 ++ l) c.next_line.ensures.line) r.2 c.in_err-take_free_line.ensures.fault)

pub returns-clause-words : goal.returns-clause-words
returns-clause-words c =
    let nothing = nothing_left c.loop-rest.rest.now (grind (arith, common_steps)) in
    let all : AreFreeFrom 1 (lines c.args.text.now) (lexemes c.loop-rest.out.items ++ []) =
    c.loop-rest.invariant.read [] (subst (λ (t : List ℕ). AreFreeFrom c.loop-rest.number (lines t) []) (sym nothing) refl) in
    record { short = omega (arith, c.if-text-gt-MAX_TEXT_BYTES.false); words = subst (λ (t : List Lexeme). AreFreeFrom 1 (lines c.args.text.now) t) (append-nil (lexemes c.loop-rest.out.items)) all }
