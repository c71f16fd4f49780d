use Rattle.std.proofs.Common.{◌-◌, ℕ, List, length, drop, ◌∙◌, arith, length-drop}
use Rattle.std.proofs.lemmas.List.{take_all}
use Rattle.cob_codec_lanes.proofs.reading.window_of.Goals.{then-bytes-lt16, else-bytes-lt16}
use Rattle.cob_codec_lanes.proofs.reading.window_of.Goals as goal

pub returns-clause-many : goal.returns-clause-many
returns-clause-many c = λ many.
    let bytes : List ℕ = c.args.bytes.now in
    let last : List ℕ = drop (length bytes - 16) bytes in
    elim c.if-bytes-lt16.branch [
      | then-bytes-lt16 w ↦ absurd (omega (arith, w.if-bytes-lt16.true))
      | else-bytes-lt16 w ↦ w.result-is ∙ take_all 16 last (omega (arith, length-drop (length bytes - 16) bytes))
    ]
