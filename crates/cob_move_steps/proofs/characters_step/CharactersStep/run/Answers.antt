use Rattle.std.proofs.Common.{◌≡◌, ◌-◌, ℕ, List, length, take, drop, ap, ◌∙◌}
use Rattle.cob_codec_lanes.specs.Windows.{last_bytes}
use Rattle.cob_move_receive.specs.Characters.{padded, padded_left}
use Rattle.cob_move_steps.proofs.CopyLemmas.{characters_received, tail_all}
use Rattle.cob_move_steps.proofs.characters_step.CharactersStep.run.Goals as goal

pub returns : goal.returns
returns c = λ from to size is reading.
    let bytes : List ℕ = c.args.from.now in
    let n : ℕ = length c.args.to.now in
    let step = c.args.self.now in
    let same : take (length bytes - (length bytes - step.sent)) (drop (length bytes - step.sent) bytes) ≡ last_bytes size bytes =
    tail_all (length bytes - step.sent) bytes ∙ ap (λ k. drop (length bytes - k) bytes) is.count in
    characters_received from to reading n (last_bytes size bytes) c.put.new.to step.right is.gives is.side
    (λ e. c.put.ensures.left e ∙ ap (padded n) same) (λ e. c.put.ensures.right e ∙ ap (padded_left n) same)
