use Rattle.std.proofs.Common.{◌≡◌, ◌<◌, ◌++◌, ℕ, List, length, take, drop, ap, sym, ◌∙◌, arith, length-append, length-take-le}
use Rattle.std.proofs.lemmas.List.{take-append-le, take_all}
use Rattle.cob_codec_lanes.proofs.LongTextLemmas.{all_put, room_left}
use Rattle.cob_codec_lanes.proofs.long_texts.put_all.Goals as goal

pub slice_bounds-put_both-end-else-out-le32 : goal.slice_bounds-put_both-end-else-out-le32
slice_bounds-put_both-end-else-out-le32 c = omega (arith, length-take-le 32 c.args.out.now (omega (arith, c.if-out-le32.false)))

pub put_both-requires-else-out-le32-clause-room : goal.put_both-requires-else-out-le32-clause-room
put_both-requires-else-out-le32-clause-room c = omega (arith, c.if-out-le32.false, length-take-le 32 c.args.out.now (omega (arith, c.if-out-le32.false)))

pub returns-then-out-le32 : goal.returns-then-out-le32
returns-then-out-le32 c =
    let lead : List ℕ = c.args.front.now ++ c.args.middle.now in
    let long : length lead ≡ 32 = omega (arith, length-append c.args.front.now c.args.middle.now, c.requires.first, c.requires.second) in
    c.put_both.ensures ∙ sym (take-append-le (length c.args.out.now) lead c.args.back.now (omega (arith, long, c.if-out-le32.true)))

pub returns-else-out-le32 : goal.returns-else-out-le32
returns-else-out-le32 c =
    let out : List ℕ = c.args.out.now in
    let lead : List ℕ = c.args.front.now ++ c.args.middle.now in
    let more : 32 < length out = c.if-out-le32.false in
    let long : length lead ≡ 32 = omega (arith, length-append c.args.front.now c.args.middle.now, c.requires.first, c.requires.second) in
    let first : List ℕ = c.put_both-else-out-le32.new.out in
    let is : first ≡ lead =
    c.put_both-else-out-le32.ensures ∙ ap (λ n. take n lead) (length-take-le 32 out (omega arith)) ∙ take_all 32 lead (omega (arith, long)) in
    let first_long : length first ≡ 32 = ap length is ∙ long in
    all_put out lead c.args.back.now (first ++ drop 32 out) c.put_front.new.out more c.requires.room long c.requires.last (ap (λ xs. xs ++ drop 32 out) is)
    (c.put_front.ensures ∙ ap (λ n. take n c.args.back.now) (room_left out first first_long more))
