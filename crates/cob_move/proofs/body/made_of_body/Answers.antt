use Rattle.std.proofs.Common.{[], subst, sym}
use Rattle.cob_source.specs.Tokens.{lexemes}
use Rattle.cob_move.specs.DeedsRead.{AddsDeeds, IsMade, MadeLists, TurnRefused, made_lists}
use Rattle.cob_move_tests.specs.Entries.{records_of}
use Rattle.cob_move.proofs.BodyLemmas.{body_refused, empty_made}
use Rattle.cob_move.proofs.body.made_of_body.Goals as goal

pub add_passage-requires-clause-made : goal.add_passage-requires-clause-made
add_passage-requires-clause-made c = subst (λ (m : MadeLists). IsMade (records_of c.args.entries.now) m) (sym c.new-made.ensures) (empty_made (records_of c.args.entries.now))

pub returns-in-Ok-clause-added : goal.returns-in-Ok-clause-added
returns-in-Ok-clause-added c =
    subst (λ (m : MadeLists). AddsDeeds c.args.entries.now [] (lexemes c.args.body.now) m (made_lists c.add_passage.new.made)) c.new-made.ensures c.in-Ok.ensures.added

pub returns-in-Err-clause-fault : goal.returns-in-Err-clause-fault
returns-in-Err-clause-fault c =
    let (p, is, bounded) = c.requires.bounds in
    body_refused c.in-Err.why c.fault_told.result c.args.entries.now (lexemes c.args.body.now) p is c.requires.item c.fault_told.ensures
    (subst (λ (m : MadeLists). TurnRefused c.in-Err.why c.args.entries.now [] (lexemes c.args.body.now) m) c.new-made.ensures c.in-Err.ensures.fault)
