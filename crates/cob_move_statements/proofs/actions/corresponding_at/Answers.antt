use Rattle.std.proofs.Common.{refl, ◌∷◌, ◌++◌}
use Rattle.cob_source.specs.Tokens.{lexemes}
use Rattle.cob_move_statements.proofs.StatementLemmas.{corresponding_cut, corresponding_split}
use Rattle.cob_move_statements.proofs.actions.corresponding_at.Goals as goal

pub returns-in_err-from-clause-only : goal.returns-in_err-from-clause-only
returns-in_err-from-clause-only c = λ from to ws more is fit e.
    let (k, b, sender, receiver, ik, sends, ib, gets, same) = is in
    let split = corresponding_split k b (lexemes c.args.words.now) ws sender receiver more e same in
    let sent = c.in_ok-sent.ensures.only k (sender ++ b ∷ (receiver ++ more)) ik split in
    absurd (c.in_err-from.ensures.only from sender (receiver ++ more) b sends ib sent)

pub returns-in_err-to-clause-only : goal.returns-in_err-to-clause-only
returns-in_err-to-clause-only c = λ from to ws more is fit e.
    let (k, b, sender, receiver, ik, sends, ib, gets, same) = is in
    let split = corresponding_split k b (lexemes c.args.words.now) ws sender receiver more e same in
    let sent = c.in_ok-sent.ensures.only k (sender ++ b ∷ (receiver ++ more)) ik split in
    let read = c.in_ok-from.ensures.only from sender (receiver ++ more) b sends ib sent in
    absurd (c.in_err-to.ensures.only to receiver more gets fit.0 fit.1 read.1)

pub returns-clause-found : goal.returns-clause-found
returns-clause-found c =
    let (k, ik, e) = c.in_ok-sent.ensures.found in
    let (sender, b, sends, ib, f) = c.in_ok-from.ensures.found in
    let (receiver, gets, g) = c.in_ok-to.ensures.found in (
      k ∷ (sender ++ b ∷ receiver),
      (k, b, sender, receiver, ik, sends, ib, gets, refl),
      corresponding_cut k b (lexemes c.args.words.now) (lexemes c.in_ok-sent.sent.now) (lexemes c.in_ok-from.received.now) sender receiver (lexemes c.in_ok-to.more.now) e f g,
    )

pub returns-clause-only : goal.returns-clause-only
returns-clause-only c = λ from to ws more is fit e.
    let (k, b, sender, receiver, ik, sends, ib, gets, same) = is in
    let split = corresponding_split k b (lexemes c.args.words.now) ws sender receiver more e same in
    let sent = c.in_ok-sent.ensures.only k (sender ++ b ∷ (receiver ++ more)) ik split in
    let read = c.in_ok-from.ensures.only from sender (receiver ++ more) b sends ib sent in
    let got = c.in_ok-to.ensures.only to receiver more gets fit.0 fit.1 read.1 in
    (read.0, got.0, got.1)
