use Rattle.std.proofs.Common.{◌≡◌, ◌≢◌, ◌≤◌, ℕ, List, ◌∷◌, length, sym, ap, subst, ◌∙◌, arith}
use Rattle.std.proofs.lemmas.List.{nil_from_length}
use Rattle.cob_source.specs.declared.token.Cell.{Cell}
use Rattle.cob_source.specs.Cuts.{NotFirstQuote}
use Rattle.cob_source.proofs.Literals.{within, takes_one, takes_two, closes, open_past, open_past_two}
use Rattle.cob_source.proofs.cut.literal_at.Goals as goal

none_first : (q : ℕ) (after : List Cell) → length after ≡ 0 → NotFirstQuote q after
none_first q after e = subst (NotFirstQuote q) (sym (nil_from_length after e)) tt

other_first : (q : ℕ) (after : List Cell) (c : Cell) (more : List Cell) → after ≡ c ∷ more → c.byte ≢ q → NotFirstQuote q after
other_first q after c more e ne = subst (NotFirstQuote q) (sym e) ne

shorter_one : (rest : List Cell) (c : Cell) (after : List Cell) (n : ℕ) → rest ≡ c ∷ after → length rest ≤ n → length after ≤ n
shorter_one rest c after n e h = let k = ap (length {A = Cell}) e in omega arith

pub loop-first-init : goal.loop-first-init
loop-first-init c = record { within = rw c.new-text.ensures.items (within _ _); closed = c.requires.closed; shorter = omega arith }

pub loop-first-preserved-then-first-quote : goal.loop-first-preserved-then-first-quote
loop-first-preserved-then-first-quote c = record {
  within = rw c.in_ok-push.ensures.items (takes_one _ _ _ _ _ _ c.loop-first.invariant.within c.in-Some.ensures.cases.0 c.if-first-quote.true);
  closed = sym (open_past _ _ _ _ c.in-Some.ensures.cases.0 c.if-first-quote.true) ∙ c.loop-first.invariant.closed;
  shorter = shorter_one _ _ _ _ c.in-Some.ensures.cases.0 c.loop-first.invariant.shorter;
}

pub returns-in_default-split_first-clause-found : goal.returns-in_default-split_first-clause-found
returns-in_default-split_first-clause-found c = closes _ _ _ _ _ _ c.loop-first.invariant.within c.in-Some.ensures.cases.0 c.if-first-quote.false (none_first _ _ c.in_default-split_first.ensures.cases)

pub returns-then-second-quote-clause-found : goal.returns-then-second-quote-clause-found
returns-then-second-quote-clause-found c = closes _ _ _ _ _ _ c.loop-first.invariant.within c.in-Some.ensures.cases.0 c.if-first-quote.false (other_first _ _ _ _ c.in-Some-split_first.ensures.cases.0 c.if-second-quote.true)

pub loop-first-preserved : goal.loop-first-preserved
loop-first-preserved c =
    let two = c.in-Some.ensures.cases.0 ∙ ap (λ (l : List Cell). c.in-Some.first.now ∷ l) c.in-Some-split_first.ensures.cases.0 in
    record {
      within = rw c.in_ok-push-2.ensures.items (takes_two _ _ _ _ _ _ _ c.loop-first.invariant.within two c.if-first-quote.false c.if-second-quote.false);
      closed = sym (open_past_two _ _ _ _ _ _ c.requires.quote c.in-Some.ensures.cases.0 c.if-first-quote.false c.in-Some-split_first.ensures.cases.0 c.if-second-quote.false) ∙ c.loop-first.invariant.closed;
      shorter = shorter_one _ _ _ _ c.in-Some-split_first.ensures.cases.0 (shorter_one _ _ _ _ c.in-Some.ensures.cases.0 c.loop-first.invariant.shorter);
    }
