use Rattle.std.proofs.Common.{◌≡◌, ◌-◌, ◌≤◌, ℕ, List, length, take, drop, refl, ap, ◌∙◌, arith}
use Rattle.cob_codec_lanes.proofs.EndLemmas.{ends_written}
use Rattle.cob_codec_lanes.proofs.writer.put_ends.Goals as goal

pub returns : goal.returns
returns g c =
    let N : ℕ = g.row.N in
    let out : List ℕ = c.args.out.now in
    let bytes : List ℕ = c.args.bytes.now in
    let n : ℕ = length out in
    let least : N ≤ n = c.requires.least in
    let front : List ℕ = c.copy_from_slice.new.self in
    let back : List ℕ = c.copy_from_slice-2.new.self in
    let first : front ≡ take N bytes = c.copy_from_slice.ensures.after in
    let width : n - (n - N) ≡ N = omega arith in
    let last : back ≡ take N (drop (n - N) bytes) = c.copy_from_slice-2.ensures.after ∙ ap (λ k. take k (drop (n - N) bytes)) width in
    ends_written N n out bytes front back refl least c.requires.most c.requires.enough first last
