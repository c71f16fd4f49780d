use Rattle.std.proofs.Common.{◌≡◌, ◌∷◌, ◌++◌, [], take, sym, ◌∙◌, ap, append-nil, arith}
use Rattle.cob_records.specs.Frame.{descriptor}
use Rattle.cob_records.proofs.Placing.{block_opens, set_last}
use Rattle.cob_records.proofs.place.behind_block.Goals as goal

pub returns-in-Ok-clause-at : goal.returns-in-Ok-clause-at
returns-in-Ok-clause-at c = λ left bytes (none, blocked, is).
    let whole : take c.args.seen c.args.head ++ c.args.byte ∷ [] ≡ descriptor c.in-Ok.room = set_last c.args.seen c.args.byte c.args.head c.requires.seen (omega arith) c.requires.head ∙ c.in-Ok.ensures.0 in
    let lead : bytes ++ c.args.byte ∷ [] ≡ descriptor c.in-Ok.room = ap (λ xs. xs ++ c.args.byte ∷ []) is ∙ whole in (
      bytes ++ c.args.byte ∷ [],
      block_opens c.args.form c.in-Blocked.most left c.in-Ok.room (bytes ++ c.args.byte ∷ []) c.in-Blocked.is none lead c.in-Ok.ensures.1 (rw c.from.ensures at c.in-Ok.ensures.2),
      sym (append-nil (bytes ++ c.args.byte ∷ [])),
    )
