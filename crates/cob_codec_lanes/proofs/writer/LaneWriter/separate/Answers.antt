use Rattle.std.proofs.Common.{◌≡◌, ◌+◌, ◌*◌, ℕ, true, false, cond, eqb, subst, ap, ◌∙◌, arith}
use Rattle.cob_codec.specs.Separate.{sign_byte}
use Rattle.cob_codec_lanes.specs.Windows.{lane_between, first_byte, own_sign_byte, AreDigitPicks}
use Rattle.cob_codec_lanes.specs.declared.writer.LaneWriter.{LaneWriter}
use Rattle.cob_codec_lanes.proofs.HalfLemmas.{lane_from}
use Rattle.cob_codec_lanes.proofs.Writing.{two_bases, separate_writer}
use Rattle.cob_codec_lanes.proofs.writer.LaneWriter.separate.Goals as goal

pub returns : goal.returns
returns c =
    let s = c.args.shape.now in
    let n : ℕ = c.from-count.result in
    let w : LaneWriter = record { high = c.digit_picks.result; low = c.digit_picks-2.result; plus = c.with_lane.result; minus = c.with_lane-2.result } in
    let e : n ≡ s.digits = c.from-count.ensures in
    let f : c.first_byte-first.result ≡ first_byte s.leading = c.first_byte-first.ensures.byte in
    separate_writer n s.digits s.leading w e (record {
      most = omega (arith, e, c.requires);
      high = subst (λ k. AreDigitPicks true (2 * k + 1) 2 n c.digit_picks.result.lanes) f c.digit_picks.ensures;
      low = subst (λ k. AreDigitPicks false (2 * k + 1) 2 n c.digit_picks-2.result.lanes) f c.digit_picks-2.ensures;
      base = two_bases w (λ minus i. cond (eqb i (own_sign_byte s.leading n)) (sign_byte minus) (lane_between (first_byte s.leading) (first_byte s.leading + n) 240 0 i))
          (λ i lt. c.with_lane.ensures i lt ∙ lane_from i _ _ _ _ _ _ c.own_sign_byte-place.ensures.byte c.sign_byte.ensures (c.lanes_between-zones.ensures i lt ∙ ap (λ k. lane_between k (k + n) 240 0 i) f))
          (λ i lt. c.with_lane-2.ensures i lt ∙ lane_from i _ _ _ _ _ _ c.own_sign_byte-place.ensures.byte c.sign_byte-2.ensures (c.lanes_between-zones.ensures i lt ∙ ap (λ k. lane_between k (k + n) 240 0 i) f));
    })
