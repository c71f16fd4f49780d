use Rattle.std.proofs.Common.{◌≡◌, ◌-◌, ◌≤◌, ℕ, List, length, take, drop, refl, ◌∙◌}
use Rattle.cob_move_steps.proofs.CopyLemmas.{ends_copied, tail_taken}
use Rattle.cob_move_steps.proofs.short.copy_ends.Goals as goal

pub returns : goal.returns
returns g c =
    let N : ℕ = g.row.N in
    let out : List ℕ = c.args.to.now in
    let bytes : List ℕ = c.args.from.now in
    let n : ℕ = length out in
    let least : N ≤ n = c.requires.least in
    let front : List ℕ = c.copy_from_slice-3.new.self in
    let back : List ℕ = c.copy_from_slice-4.new.self in
    let first : front ≡ take N bytes = c.copy_from_slice-3.ensures.after ∙ c.copy_from_slice.ensures.after in
    let last : back ≡ drop (n - N) bytes = c.copy_from_slice-4.ensures.after ∙ (c.copy_from_slice-2.ensures.after ∙ tail_taken N n bytes c.requires.long least) in
    ends_copied N n out bytes front back refl c.requires.long least c.requires.most first last
