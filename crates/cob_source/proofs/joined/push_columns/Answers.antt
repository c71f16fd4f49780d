use Rattle.std.proofs.Common.{◌≡◌, ℕ, ◌+◌, ◌-◌, List, [], ◌∷◌, ◌++◌, ◌≤◌, take, drop, refl, ap, sym, ◌∙◌, append_assoc, arith}
use Rattle.cob_source.specs.declared.token.Cell.{Cell}
use Rattle.cob_source.specs.Lines.{cells_from, filled}
use Rattle.cob_source.proofs.Trims.{columns_more}
use Rattle.cob_source.proofs.joined.push_columns.Goals as goal

-- one more cell behind those that were added
pushed : (old now new front all : List Cell) (cell want : Cell) → new ≡ now ++ cell ∷ [] → now ≡ old ++ front → cell ≡ want → all ≡ front ++ want ∷ [] → new ≡ old ++ all
pushed old now new front all cell want n o c a =
    n ∙ ap (λ (t : List Cell). t ++ cell ∷ []) o ∙ append_assoc old front (cell ∷ []) ∙ ap (λ (x : Cell). old ++ (front ++ x ∷ [])) c ∙ ap (λ (t : List Cell). old ++ t) (sym a)

cell_is : (b c n k : ℕ) → b ≡ c → let x : Cell = record { byte = b; line = n; column = k } in let y : Cell = record { byte = c; line = n; column = k } in x ≡ y
cell_is b c n k e = ap (λ (b : ℕ). record { byte = b; line = n; column = k }) e

pub loop-i-preserved : goal.loop-i-preserved
loop-i-preserved c =
    pushed _ _ _ _ _ _ _ c.in_ok-push.ensures.items c.loop-i.invariant (cell_is _ _ _ _ c.column_at.ensures)
    (columns_more c.args.line c.args.skipped c.loop-i.i c.args.area.now (c.loop-i.i + 8) c.loop-i.auto.i (omega (arith, c.loop-i-test.true, c.requires.few)) refl)

at_end : (i skipped end : ℕ) → skipped ≤ end → end ≤ i → (skipped ≤ end → i ≤ end) → i ≡ end
at_end i skipped end from le within = let h = within from in omega arith

pub returns : goal.returns
returns c =
    let end : c.loop-i.i ≡ c.args.end = at_end _ _ _ c.requires.from c.loop-i-test.false c.loop-i.auto.i-end in
    c.loop-i.invariant ∙ ap (λ (k : ℕ). c.args.cells.now.items ++ cells_from c.args.line (8 + c.args.skipped) (take (k - c.args.skipped) (drop c.args.skipped (filled c.args.area.now)))) end
