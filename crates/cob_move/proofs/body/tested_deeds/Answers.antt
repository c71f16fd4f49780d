use Rattle.std.proofs.lemmas.Result.{err_from_is_err_and}
use Rattle.cob_source.specs.Tokens.{lexemes}
use Rattle.cob_move.specs.DeedsRead.{made_lists}
use Rattle.cob_move.proofs.BodyLemmas.{tested_ready, unbounded_refused}
use Rattle.cob_move.proofs.body.tested_deeds.Goals as goal

pub returns-in_err-check_bounded-clause-fault : goal.returns-in_err-check_bounded-clause-fault
returns-in_err-check_bounded-clause-fault c =
    let p = err_from_is_err_and c.from_residual.result c.from_residual.ensures.1 in
    let judged = c.requires.judged in
    rw (p.1, p.2) (unbounded_refused c.in_err-check_bounded.field-0.0 c.args.entries.now (lexemes c.args.body.now) judged.passage judged.says c.in_err-check_bounded.ensures.fault.0 c.in_err-check_bounded.ensures.fault.1)

pub made_of_body-requires-clause-bounds : goal.made_of_body-requires-clause-bounds
made_of_body-requires-clause-bounds c =
    let judged = c.requires.judged in
    (judged.passage, judged.says, c.in_ok-check_bounded.ensures.bounded judged.passage judged.says)

pub returns-clause-found : goal.returns-clause-found
returns-clause-found c =
    let judged = c.requires.judged in
    (tested_ready c.args.entries.now (lexemes c.args.body.now) (made_lists c.in_ok-made.made) c.in_ok-deeds.deeds judged (c.in_ok-check_bounded.ensures.bounded judged.passage judged.says) c.in_ok-made.ensures.added c.in_ok-deeds.ensures).0

pub returns-clause-ready : goal.returns-clause-ready
returns-clause-ready c =
    let judged = c.requires.judged in
    (tested_ready c.args.entries.now (lexemes c.args.body.now) (made_lists c.in_ok-made.made) c.in_ok-deeds.deeds judged (c.in_ok-check_bounded.ensures.bounded judged.passage judged.says) c.in_ok-made.ensures.added c.in_ok-deeds.ensures).1
