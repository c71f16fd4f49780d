-- A piece that is read behind the bytes that were read before.
use Rattle.std.proofs.Common.{◌≡◌, ℕ, ◌+◌, List, ◌++◌, take, drop, ap, ◌∙◌}
use Rattle.std.proofs.Math.Seq.{take-add}

-- the front of a room in which the first bytes are the old ones is these and what stands behind them
pub piece_behind : (old room now : List ℕ) (before count : ℕ) → take before room ≡ old → now ≡ take (before + count) room
    → now ≡ old ++ take count (drop before room)
piece_behind old room now before count e1 e2 = e2 ∙ take-add before count room ∙ ap (λ t. t ++ take count (drop before room)) e1
