use Rattle.std.proofs.Common.{◌≡◌, ◌+◌, drop}
use Rattle.cob_source.specs.Comments.{comment_at, comment_from}
use Rattle.cob_source.proofs.lines.comment_start.Given as goal

abbrev pub invariant-loop-i : goal.invariant-loop-i
invariant-loop-i l = comment_at l.text ≡ l.i + comment_from l.quote l.behind_space (drop l.i l.text)
