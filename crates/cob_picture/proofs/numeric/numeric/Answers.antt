use Rattle.std.proofs.Common.{◌≡◌, Some, length, ap, arith}
use Rattle.std.proofs.lemmas.Grind.{common_steps}
use Rattle.cob_picture.specs.Positions.{written_out}
use Rattle.cob_picture.specs.declared.numeric.NumericParts.{NumericParts}
use Rattle.cob_picture.proofs.Fronts.{Peeled, must, places_nil}
use Rattle.cob_picture.proofs.numeric.numeric.Goals as goal
use Rattle.cob_picture.proofs.numeric.numeric.Goals.{then-not-is_empty-via-then-not-is_empty, then-not-is_empty-via-else-not-is_empty+then-not-is_numeric}

pub returns-then-not-is_empty-clause-only : goal.returns-then-not-is_empty-clause-only
returns-then-not-is_empty-clause-only c = λ m is e.
    let n : NumericParts = record { signs = c.front-signs.result.0; points = c.front-points.result.0; left = c.front-left.result.0; nines = c.front-nines.result.0; right = c.front-right.result.0; after = c.front-after.result.0; fraction = c.front-fraction.result.0 } in
    let p : Peeled (written_out c.args.runs.now) n (written_out c.front-fraction.result.1.now) = record {
      p1 = written_out c.front-signs.result.1.now;
      p2 = written_out c.front-points.result.1.now;
      p3 = written_out c.front-left.result.1.now;
      p4 = written_out c.front-nines.result.1.now;
      p5 = written_out c.front-right.result.1.now;
      p6 = written_out c.front-after.result.1.now;
      signs = c.front-signs.ensures.parts;
      points = c.front-points.ensures.parts;
      left = c.front-left.ensures.parts;
      nines = c.front-nines.ensures.parts;
      right = c.front-right.ensures.parts;
      after = c.front-after.ensures.parts;
      fraction = c.front-fraction.ensures.parts;
      not1 = c.front-signs.ensures.other;
      not2 = c.front-points.ensures.other;
      not3 = c.front-left.ensures.other;
      not4 = c.front-nines.ensures.other;
      not5 = c.front-right.ensures.other;
      not6 = c.front-after.ensures.other;
      not7 = c.front-fraction.ensures.other;
    } in
    let h = must _ n m _ p is e in
    let nothing : length c.front-fraction.result.1.now ≡ 0 = places_nil _ c.front-fraction.ensures.positive h.2 in
    elim c.then-not-is_empty.branch [
      | then-not-is_empty-via-then-not-is_empty w ↦ absurd (grind (arith, common_steps))
      | then-not-is_empty-via-else-not-is_empty+then-not-is_numeric w ↦ absurd (let yes = w.is_numeric.ensures.must h.1 in cc)
    ]

pub returns-clause-only : goal.returns-clause-only
returns-clause-only c = λ m is e.
    let n : NumericParts = record { signs = c.front-signs.result.0; points = c.front-points.result.0; left = c.front-left.result.0; nines = c.front-nines.result.0; right = c.front-right.result.0; after = c.front-after.result.0; fraction = c.front-fraction.result.0 } in
    let p : Peeled (written_out c.args.runs.now) n (written_out c.front-fraction.result.1.now) = record {
      p1 = written_out c.front-signs.result.1.now;
      p2 = written_out c.front-points.result.1.now;
      p3 = written_out c.front-left.result.1.now;
      p4 = written_out c.front-nines.result.1.now;
      p5 = written_out c.front-right.result.1.now;
      p6 = written_out c.front-after.result.1.now;
      signs = c.front-signs.ensures.parts;
      points = c.front-points.ensures.parts;
      left = c.front-left.ensures.parts;
      nines = c.front-nines.ensures.parts;
      right = c.front-right.ensures.parts;
      after = c.front-after.ensures.parts;
      fraction = c.front-fraction.ensures.parts;
      not1 = c.front-signs.ensures.other;
      not2 = c.front-points.ensures.other;
      not3 = c.front-left.ensures.other;
      not4 = c.front-nines.ensures.other;
      not5 = c.front-right.ensures.other;
      not6 = c.front-after.ensures.other;
      not7 = c.front-fraction.ensures.other;
    } in
    let h = must _ n m _ p is e in
    ap Some h.0
