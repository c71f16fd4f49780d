use Rattle.std.proofs.Common.{◌≡◌, ◌∙◌, ◌<◌, ℕ, List, length, take, ap, sym, arith, length-take-le}
use Rattle.std.proofs.lemmas.List.{take_all}
use Rattle.cob_codec_lanes.proofs.TextLemmas.{both_written, room_behind}
use Rattle.cob_codec_lanes.proofs.text.put_both.Goals as goal

pub copy_from_slice-requires : goal.copy_from_slice-requires
copy_from_slice-requires c = length-take-le 16 c.args.out.now (omega (arith, c.if-out-le16.false)) ∙ sym (length-take-le 16 c.args.front.now (omega (arith, c.requires.first)))

pub returns-else-out-le16 : goal.returns-else-out-le16
returns-else-out-le16 c =
    let out : List ℕ = c.args.out.now in
    let front : List ℕ = c.args.front.now in
    let back : List ℕ = c.args.back.now in
    let first : List ℕ = c.copy_from_slice.new.self in
    let more : 16 < length out = c.if-out-le16.false in
    let is : first ≡ front = c.copy_from_slice.ensures.after ∙ take_all 16 front (omega (arith, c.requires.first)) in
    let long : length first ≡ 16 = ap length is ∙ c.requires.first in
    both_written out front back first c.put_front-else-out-le16.new.out c.requires.first more c.requires.room c.requires.last is
    (c.put_front-else-out-le16.ensures ∙ ap (λ n. take n back) (room_behind out first long (omega arith)))
