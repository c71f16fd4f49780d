use Rattle.std.proofs.Common.{◌≡◌, ◌<◌, List, ◌∷◌, ◌++◌, take, drop, sym, ap, subst, ◌∙◌, arith}
use Rattle.std.specs.Prelude.{false}
use Rattle.std.specs.List.{AllByRecursion}
use Rattle.std.proofs.lemmas.List.{nil_from_length, append-nil, take-append-drop}
use Rattle.cob_source.specs.declared.token.Cell.{Cell}
use Rattle.cob_source.specs.Tokens.{lexemes}
use Rattle.cob_source.specs.Cuts.{IsPlain, plain_first, Gap, Chunk, Quoted, open_quote}
use Rattle.cob_source.proofs.CutLemmas.{goes_on, ends, plain_some, quote_from, open_gap, open_chunk}
use Rattle.cob_source.proofs.cut.cut.Goals as goal

pub loop-first-preserved-then-is_gap : goal.loop-first-preserved-then-is_gap
loop-first-preserved-then-is_gap c =
    let gap = sym c.is_gap.ensures ∙ c.if-is_gap.true in
    record {
      so_far = goes_on _ _ _ _ _ _ (Gap c.in-Some.first.now) _ c.loop-first.invariant.so_far gap tt c.in-Some.ensures.cases.0 (sym (append-nil (lexemes c.loop-first.out.items)));
      closed = sym (ap open_quote c.in-Some.ensures.cases.0 ∙ open_gap c.in-Some.first.now c.in-Some.after.now gap) ∙ c.loop-first.invariant.closed;
    }

pub loop-first-preserved-then-is_plain : goal.loop-first-preserved-then-is_plain
loop-first-preserved-then-is_plain c =
    let n = c.chunk_len.result in
    let some : 0 < n = plain_some c.loop-first.rest.now c.in-Some.first.now c.in-Some.after.now n c.in-Some.ensures.cases.0 (sym c.is_plain.ensures ∙ c.if-is_plain.true) c.chunk_len.ensures.other in
    let front : take n c.loop-first.rest.now ≡ c.split_at.result.0.now = sym c.split_at.ensures.front in
    let back : drop n c.loop-first.rest.now ≡ c.split_at.result.1.now = sym c.split_at.ensures.back in
    let each : AllByRecursion IsPlain c.split_at.result.0.now = subst (λ (t : List Cell). AllByRecursion IsPlain t) front c.chunk_len.ensures.each in
    let whole : c.loop-first.rest.now ≡ c.split_at.result.0.now ++ c.split_at.result.1.now = sym (take-append-drop n c.loop-first.rest.now) ∙ ap (λ (t : List Cell). t ++ drop n c.loop-first.rest.now) front ∙ ap (λ (t : List Cell). c.split_at.result.0.now ++ t) back in
    record {
      so_far = goes_on _ _ _ _ _ _ (Chunk c.split_at.result.0.now) _ c.loop-first.invariant.so_far
          (omega (arith, c.split_at.ensures.front_len), each)
          (subst (λ (t : List Cell). plain_first t ≡ false) back c.chunk_len.ensures.other)
          whole
          c.in_ok-push_chunk.ensures.ok;
      closed = sym (ap open_quote whole ∙ open_chunk c.split_at.result.0.now c.split_at.result.1.now each) ∙ c.loop-first.invariant.closed;
    }

pub loop-first-preserved : goal.loop-first-preserved
loop-first-preserved c =
    let f = c.in_ok-text.ensures.found in
    record {
      so_far = goes_on _ _ _ _ _ _ (Quoted c.in-Some.first.now f.0 c.in_ok-text.text.items) _ c.loop-first.invariant.so_far
          (quote_from c.in-Some.first.now.byte (sym c.is_gap.ensures ∙ c.if-is_gap.false) (sym c.is_plain.ensures ∙ c.if-is_plain.false), f.1) f.2
          (c.in-Some.ensures.cases.0 ∙ ap (λ (l : List Cell). c.in-Some.first.now ∷ l) f.3)
          c.in_ok-push_literal.ensures.ok;
      closed = c.in_ok-text.ensures.closed;
    }

pub returns : goal.returns
returns c = record { found = ends _ _ _ _ _ c.loop-first.invariant.so_far (nil_from_length _ c.in_default.ensures.cases) }
