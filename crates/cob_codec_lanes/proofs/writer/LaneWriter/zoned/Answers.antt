use Rattle.std.proofs.Common.{◌≡◌, ◌*◌, ℕ, cond, eqb, ap, ◌∙◌, arith}
use Rattle.cob_codec.specs.Sign.{sign_code, sign_place}
use Rattle.cob_codec_lanes.specs.Windows.{lane_between}
use Rattle.cob_codec_lanes.specs.declared.writer.LaneWriter.{LaneWriter}
use Rattle.cob_codec_lanes.proofs.HalfLemmas.{lane_from}
use Rattle.cob_codec_lanes.proofs.Writing.{two_bases, zoned_writer}
use Rattle.cob_codec_lanes.proofs.writer.LaneWriter.zoned.Goals as goal

pub returns : goal.returns
returns c =
    let s = c.args.shape.now in
    let n : ℕ = c.from-count.result in
    let w : LaneWriter = record { high = c.digit_picks.result; low = c.digit_picks-2.result; plus = c.with_lane.result; minus = c.with_lane-2.result } in
    let e : n ≡ s.digits = c.from-count.ensures in
    zoned_writer n s.digits s.signed s.leading w e (record {
      some = omega (arith, e, s.some);
      most = omega (arith, e, c.requires);
      high = c.digit_picks.ensures;
      low = c.digit_picks-2.ensures;
      base = two_bases w (λ minus i. cond (eqb i (sign_place s.signed s.leading n)) (sign_code s.signed minus * 16) (lane_between 0 n 240 0 i))
          (λ i lt. c.with_lane.ensures i lt ∙ lane_from i _ _ _ _ _ _ c.sign_place-place.ensures.place (ap (λ k. k * 16) c.sign_code.ensures) (c.lanes_between-zones.ensures i lt))
          (λ i lt. c.with_lane-2.ensures i lt ∙ lane_from i _ _ _ _ _ _ c.sign_place-place.ensures.place (ap (λ k. k * 16) c.sign_code-2.ensures) (c.lanes_between-zones.ensures i lt));
    })
