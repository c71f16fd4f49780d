use Rattle.std.proofs.Common.{◌≡◌, ◌≤◌, ◌^◌, ap, subst, sym, ◌∙◌, arith}
use Rattle.std.proofs.Math.Nat.{pow-le-pow_right}
use Rattle.cob_codec_lanes.proofs.wide_words.power_of_ten.Goals as goal

pub returns-clause-small : goal.returns-clause-small
returns-clause-small c =
    let is : c.pow.result ≡ 10 ^ c.args.exponent = c.pow.ensures ∙ ap (λ k. 10 ^ k) c.from.ensures in
    subst (λ n. n ≤ 1000000000000000000) (sym is) (pow-le-pow_right (omega arith) c.requires)
