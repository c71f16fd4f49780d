use Rattle.std.proofs.Common.{◌≢◌, ◌<◌, length, refl, arith, below_more, get_or-set_other, get_or-set_same}
use Rattle.cob_cp037.specs.Table.{HaveCodes}
use Rattle.cob_cp037.proofs.encode_into.Goals as goal

pub loop-at-preserved : goal.loop-at-preserved
loop-at-preserved c =
    below_more _ _
    (λ k h. let ne : k ≢ c.loop-at.at = omega arith in rw get_or-set_other (c.loop-at.invariant k h))
    (
    let lt : c.loop-at.at < length c.loop-at.bytes = omega arith in
    let within : c.loop-at.at < length c.args.characters.now = omega arith in
    let all : HaveCodes c.args.characters.now = c.if-not-have_codes.ensures.0 refl in
    let pair = all c.loop-at.at within in
    rw (get_or-set_same) (c.byte_of.ensures.found (let known = c.byte_of.ensures.only pair.0 pair.1 in omega arith))
    )
