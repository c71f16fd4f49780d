use Rattle.std.proofs.Common.{rules, ◌≡◌, ◌++◌, ◌-◌, ◌∙◌, ap, List, ℕ, length, take, replicate, min}
use Rattle.cob_move_receive.proofs.PaddingLemmas.{characters_are}
use Rattle.cob_move_receive.proofs.characters.put_left.Goals as goal

pub returns : goal.returns
returns c =
    let n : ℕ = length c.args.bytes.now in
    let k : ℕ = c.min-count.result in
    let sent : List ℕ = c.args.text.now in
    let front : c.copy_from_slice.new.self ≡ take k sent = search rules in
    let tail : c.fill.new.self ≡ replicate (n - k) 0x40 = search rules in
    let least : k ≡ min (length sent) n = search rules in
    ap (λ t. t ++ c.fill.new.self) front ∙ ap (λ t. take k sent ++ t) tail ∙ characters_are n k sent least
