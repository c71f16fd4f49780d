use Rattle.std.proofs.Common.{◌≡◌, ◌-◌, ◌∙◌, ℕ, List, length, take, drop, replicate, arith, length-drop, length-take-le}
use Rattle.std.proofs.lemmas.List.{take_all}
use Rattle.cob_codec_lanes.proofs.WindowLemmas.{put_padded}
use Rattle.cob_codec_lanes.proofs.reading.padded_window.Goals as goal

pub returns : goal.returns
returns c =
    let bytes : List ℕ = c.args.bytes.now in
    let a : ℕ = 16 - length bytes in
    let k : ℕ = 16 - a in
    let zeros : List ℕ = replicate 16 0 in
    let room : length (drop a zeros) ≡ k = length-drop a zeros in
    let long : length (take k (drop a zeros)) ≡ k = length-take-le k (drop a zeros) (omega (arith, room)) in
    let same : k ≡ length bytes = omega (arith, c.requires) in
    put_padded bytes c.put_front.new.out k c.requires
    (c.put_front.ensures ∙ take_all (length (take k (drop a zeros))) bytes (omega (arith, long, same)))
    same
