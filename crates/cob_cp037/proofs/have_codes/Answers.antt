use Rattle.std.proofs.Common.{◌<◌, length, arith, below_more, refl}
use Rattle.cob_cp037.proofs.have_codes.Goals as goal

pub returns-then-byte_of-eq0 : goal.returns-then-byte_of-eq0
returns-then-byte_of-eq0 c = (
  λ h. absurd (cc),
  λ all.
      let within : c.loop-character.character-index < length c.args.characters.now = omega arith in
      let pair = all c.loop-character.character-index within in
      let found = c.byte_of.ensures.only pair.0 pair.1 in
      absurd (omega arith),
)

pub loop-character-preserved : goal.loop-character-preserved
loop-character-preserved c =
    below_more _ _ c.loop-character.invariant (c.byte_of.result, c.byte_of.ensures.found (omega arith))

pub returns : goal.returns
returns c = (λ h i lt. c.loop-character.invariant i (omega arith), λ all. refl)
