use Rattle.std.proofs.Common.{◌≡◌, ◌/◌, ℕ, cond, eqb, refl, ◌∙◌, arith}
use Rattle.std.proofs.lemmas.List.{get_or-replicate}
use Rattle.cob_codec.specs.Sign.{sign_code}
use Rattle.cob_codec_lanes.specs.declared.writer.LaneWriter.{LaneWriter}
use Rattle.cob_codec_lanes.proofs.HalfLemmas.{lane_from}
use Rattle.cob_codec_lanes.proofs.Writing.{two_bases, packed_writer}
use Rattle.cob_codec_lanes.proofs.writer.LaneWriter.packed.Goals as goal

pub returns : goal.returns
returns c =
    let s = c.args.shape.now in
    let n : ℕ = c.from-count.result in
    let w : LaneWriter = record { high = c.digit_picks.result; low = c.digit_picks-2.result; plus = c.with_lane.result; minus = c.with_lane-2.result } in
    let e : n ≡ s.digits = c.from-count.ensures in
    packed_writer n s.digits s.signed w e (record {
      room = omega (arith, e, c.requires);
      high = c.digit_picks.ensures;
      low = c.digit_picks-2.ensures;
      base = two_bases w (λ minus i. cond (eqb i (n / 2)) (sign_code s.signed minus) 0)
          (λ i lt. c.with_lane.ensures i lt ∙ lane_from i _ _ _ _ _ _ refl c.sign_code.ensures (get_or-replicate 16 i 0 0 lt))
          (λ i lt. c.with_lane-2.ensures i lt ∙ lane_from i _ _ _ _ _ _ refl c.sign_code-2.ensures (get_or-replicate 16 i 0 0 lt));
    })
