use Rattle.std.proofs.Common.{◌≡◌, length, refl, arith}
use Rattle.cob_picture.specs.Positions.{written_out}
use Rattle.cob_back_moves.proofs.RunLemmas.{same_everywhere}
use Rattle.cob_back_moves.proofs.same_pictures.are_same_symbols.Goals as goal

pub returns : goal.returns
returns c =
    let many : length (written_out c.args.runs.now) ≡ length (written_out c.args.others.now) =
    omega (arith, c.symbols_in-count.ensures, c.symbols_in.ensures, c.if-count-symbols_in.false) in (
      λ is. same_everywhere (written_out c.args.runs.now) (written_out c.args.others.now) many
          (λ k lt. c.loop-place.invariant k (omega (arith, lt, c.loop-place-test.false, c.loop-place.auto.place-end, c.symbols_in-count.ensures))),
      λ same. refl,
    )
