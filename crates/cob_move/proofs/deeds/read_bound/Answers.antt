use Rattle.std.proofs.Common.{◌≡◌, List, ap, false, subst, ◌∙◌}
use Rattle.cob_source.specs.Tokens.{Lexeme, lexemes}
use Rattle.cob_move_loops.specs.Reading.{counters}
use Rattle.cob_move_loops.specs.Turns.{in_turn}
use Rattle.cob_move.specs.DeedsRead.{BoundRefused, IsBoundRead}
use Rattle.cob_move.proofs.BoundLemmas.{bound_told}
use Rattle.cob_move.proofs.deeds.read_bound.Goals as goal

pub returns-in-Ok-clause-found : goal.returns-in-Ok-clause-found
returns-in-Ok-clause-found c =
    let own : lexemes c.as_slice.result.now ≡ in_turn (counters c.args.turn.now) false 0 (lexemes c.args.words.now) = ap lexemes c.as_slice.ensures.value ∙ c.in_ok-own.ensures in
    subst (λ (ws : List Lexeme). IsBoundRead c.args.entries.now ws c.in-Ok.found) own c.in-Ok.ensures.found

pub returns-clause-fault : goal.returns-clause-fault
returns-clause-fault c =
    let own : lexemes c.as_slice.result.now ≡ in_turn (counters c.args.turn.now) false 0 (lexemes c.args.words.now) = ap lexemes c.as_slice.ensures.value ∙ c.in_ok-own.ensures in
    bound_told c.fault_of.result c.in-Err.rule c.args.entries.now c.args.head.now.line (in_turn (counters c.args.turn.now) false 0 (lexemes c.args.words.now)) c.fault_of.ensures.0 c.fault_of.ensures.1
    (subst (λ (ws : List Lexeme). BoundRefused c.in-Err.rule c.args.entries.now ws) own c.in-Err.ensures.fault)
