use Rattle.std.proofs.Common.{drop, sym, ◌∙◌, arith}
use Rattle.std.proofs.lemmas.List.{nil_from_length, length-drop}
use Rattle.cob_source.proofs.LineLemmas.{same_letters-short}
use Rattle.cob_source.proofs.lines.is_spelled.Goals as goal

pub returns-in_default : goal.returns-in_default
returns-in_default c =
    sym (c.loop-b.invariant ∙ same_letters-short (drop c.loop-b.b-index c.args.word.now) c.loop-b.rest.now (omega (arith, length-drop c.loop-b.b-index c.args.word.now)) (nil_from_length _ c.in_default.ensures.cases))
