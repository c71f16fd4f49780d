use Rattle.std.proofs.Common.{◌∙◌, ap, length, rules}
use Rattle.cob_move_data.specs.Singles.{plain_sent}
use Rattle.cob_move_data.proofs.SingleLemmas.{all_senders_taken, sender_taken}
use Rattle.cob_move_data.proofs.senders.SendersIterator.next.Goals as goal

pub returns-in-Some-sender_at-clause-steps : goal.returns-in-Some-sender_at-clause-steps
returns-in-Some-sender_at-clause-steps c =
    let left = c.loop-moves.self-inside in
    c.loop-moves.invariant ∙ sender_taken left.taken c.in-Some.moves.now c.in-Some.behind.now left.statements.now (plain_sent c.in-Some-sender_at.sent) c.in-Some.ensures.cases.0 c.in-Some-sender_at.ensures

pub returns-in-Some-sender_at-clause-goes : goal.returns-in-Some-sender_at-clause-goes
returns-in-Some-sender_at-clause-goes c =
    let left = c.loop-moves.self-inside in
    let step =
    c.loop-moves.invariant
    ∙ sender_taken left.taken c.in-Some.moves.now c.in-Some.behind.now left.statements.now (plain_sent c.in-Some-sender_at.sent) c.in-Some.ensures.cases.0 c.in-Some-sender_at.ensures
    in
    let shorter = ap length step in search rules

pub loop-moves-preserved : goal.loop-moves-preserved
loop-moves-preserved c =
    let left = c.loop-moves.self-inside in
    c.loop-moves.invariant ∙ all_senders_taken left.taken c.in-Some.moves.now c.in-Some.behind.now left.statements.now c.in-Some.ensures.cases.0 c.in_default-sender_at.ensures
