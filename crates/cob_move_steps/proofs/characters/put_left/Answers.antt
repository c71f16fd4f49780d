use Rattle.std.proofs.Common.{rules, ◌≡◌, ◌++◌, ◌-◌, ◌∙◌, ap, List, ℕ, length, take, replicate, min}
use Rattle.cob_move_receive.proofs.PaddingLemmas.{characters_are}
use Rattle.cob_move_steps.proofs.characters.put_left.Goals as goal

pub returns : goal.returns
returns c =
    let n : ℕ = length c.args.to.now in
    let k : ℕ = c.min-count.result in
    let sent : List ℕ = c.args.text.now in
    let front : c.copy_all.new.to ≡ take k sent = search rules in
    let tail : c.fill_spaces.new.to ≡ replicate (n - k) 0x40 = search rules in
    let least : k ≡ min (length sent) n = search rules in
    ap (λ t. t ++ c.fill_spaces.new.to) front ∙ ap (λ t. take k sent ++ t) tail ∙ characters_are n k sent least
