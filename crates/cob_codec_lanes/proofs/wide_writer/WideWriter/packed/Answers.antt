use Rattle.std.proofs.Common.{◌≡◌, ◌/◌, ℕ, cond, eqb, replicate, refl, ◌∙◌, arith}
use Rattle.std.proofs.lemmas.List.{get_or-replicate}
use Rattle.cob_codec.specs.Sign.{sign_code}
use Rattle.cob_codec_lanes.specs.declared.wide_writer.WideWriter.{WideWriter}
use Rattle.cob_codec_lanes.proofs.HalfLemmas.{lane_from}
use Rattle.cob_codec_lanes.proofs.Writing.{two_bases}
use Rattle.cob_codec_lanes.proofs.WideWriting.{wide_writer}
use Rattle.cob_codec_lanes.proofs.wide_writer.WideWriter.packed.Goals as goal

pub returns : goal.returns
returns c =
    let s = c.args.shape.now in
    let n : ℕ = c.from-count.result in
    let w : WideWriter = record {
      front = record { high = c.digit_picks.result; low = c.digit_picks-2.result; plus = replicate 16 0; minus = replicate 16 0 };
      back = record { high = c.digit_picks-3.result; low = c.digit_picks-4.result; plus = c.with_lane.result; minus = c.with_lane-2.result };
    } in
    let e : n ≡ s.digits = c.from-count.ensures in
    wide_writer n s.digits s.signed w e (record {
      many = omega (arith, e, c.requires);
      most = omega (arith, e, s.most);
      front_high = c.digit_picks.ensures;
      front_low = c.digit_picks-2.ensures;
      front_base = two_bases w.front (λ minus i. 0) (λ i lt. get_or-replicate 16 i 0 0 lt) (λ i lt. get_or-replicate 16 i 0 0 lt);
      back_high = c.digit_picks-3.ensures;
      back_low = c.digit_picks-4.ensures;
      back_base = two_bases w.back (λ minus i. cond (eqb i (n / 2)) (sign_code s.signed minus) 0)
          (λ i lt. c.with_lane.ensures i lt ∙ lane_from i _ _ _ _ _ _ refl c.sign_code.ensures (get_or-replicate 16 i 0 0 lt))
          (λ i lt. c.with_lane-2.ensures i lt ∙ lane_from i _ _ _ _ _ _ refl c.sign_code-2.ensures (get_or-replicate 16 i 0 0 lt));
    })
