use Rattle.std.proofs.Common.{◌≡◌, ◌++◌, ◌∷◌, [], List, ◌∙◌, ap, subst}
use Rattle.cob_source.specs.Tokens.{lexemes}
use Rattle.cob_move_loops.specs.Reading.{counters, written_loop}
use Rattle.cob_move_loops.specs.Turns.{Counted, counter_at}
use Rattle.cob_move_loops.proofs.WritingLemmas.{counters_more}
use Rattle.cob_move.specs.declared.made.NotRead.{NotRead}
use Rattle.cob_move.specs.declared.made.NotRead.TheVariants as why
use Rattle.cob_move.specs.DeedsRead.{WordsStop}
use Rattle.cob_move.proofs.looking.look_at_turn.Goals as goal

pub returns-in-Err-Broken-clause-stops : goal.returns-in-Err-Broken-clause-stops
returns-in-Err-Broken-clause-stops c =
    let e = c.args.entries.now in
    let ns = counters c.args.turn.now in
    let l = written_loop c.args.head.now in
    let body = lexemes c.args.body.now in
    let inner : counters c.as_slice.result.now ≡ ns ++ counter_at l c.args.number ∷ [] = ap counters (c.as_slice.ensures.value ∙ c.in_ok-inner.ensures) ∙ counters_more c.args.turn.now _ in
    subst (λ (n : List Counted). WordsStop (why.Broken c.in-Err-Broken.fault) e n body) inner (subst (λ (n : NotRead). WordsStop n e (counters c.as_slice.result.now) body) c.in-Err-Broken.field-0-is c.in-Err-Broken.ensures.stops)
