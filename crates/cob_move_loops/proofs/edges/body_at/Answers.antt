use Rattle.std.proofs.lemmas.List.{length-map}
use Rattle.std.proofs.Common.{false, length, sym, ap, ◌∙◌, arith}
use Rattle.cob_source.specs.Tokens.{lexeme, lexemes}
use Rattle.std.specs.Prelude.{Option, Some}
use Rattle.cob_move_loops.specs.declared.edges.Edge.{Edge}
use Rattle.cob_move_loops.specs.Passages.{open_by}
use Rattle.cob_move_loops.proofs.FrontLemmas.{closed_found, closed_here, never_closed, opened_first, opened_more}
use Rattle.cob_move_loops.proofs.edges.body_at.Goals as goal

pub depth_behind-requires : goal.depth_behind-requires
depth_behind-requires c = record { room = omega (arith, c.loop-first.invariant.room, ap length (ap lexemes c.in-Some.ensures.cases.0), length-map c.args.words.now lexeme) }

pub loop-first-init : goal.loop-first-init
loop-first-init c = opened_first c.args.pair false (lexemes c.args.words.now)

pub loop-first-preserved : goal.loop-first-preserved
loop-first-preserved c =
    opened_more c.args.pair false (lexemes c.args.words.now) (lexemes c.loop-first.rest.now) (lexemes c.in-Some.more.now) (lexeme c.in-Some.first.now) c.loop-first.depth c.in-Some-depth_behind.next c.loop-first.invariant
    (ap lexemes c.in-Some.ensures.cases.0)
    (c.in-Some-depth_behind.ensures.value ∙ ap (λ (o : Option Edge). open_by false o (Some c.loop-first.depth)) c.edge_of.ensures)
    c.in-Some-depth_behind.ensures.most

pub returns-in-None-clause-found : goal.returns-in-None-clause-found
returns-in-None-clause-found c =
    closed_found c.args.pair (lexemes c.args.words.now) (lexemes c.loop-first.rest.now) (lexemes c.in-Some.more.now) (lexemes c.front.result.now) (lexeme c.in-Some.first.now) c.loop-first.depth c.loop-first.invariant
    (c.front.ensures c.loop-first.invariant.done (lexemes c.loop-first.rest.now) c.loop-first.invariant.words_are (length-map c.loop-first.rest.now lexeme))
    (ap lexemes c.in-Some.ensures.cases.0)
    (ap (λ (o : Option Edge). open_by false o (Some c.loop-first.depth)) (sym c.edge_of.ensures) ∙ sym c.in-None.ensures.value)

pub returns-in-None-clause-only : goal.returns-in-None-clause-only
returns-in-None-clause-only c = λ own more closed.
    let here = closed_here c.args.pair (lexemes c.args.words.now) (lexemes c.loop-first.rest.now) (lexemes c.in-Some.more.now) (lexeme c.in-Some.first.now) c.loop-first.depth c.loop-first.invariant
    (ap lexemes c.in-Some.ensures.cases.0)
    (ap (λ (o : Option Edge). open_by false o (Some c.loop-first.depth)) (sym c.edge_of.ensures) ∙ sym c.in-None.ensures.value) own more closed in
    (c.front.ensures c.loop-first.invariant.done (lexemes c.loop-first.rest.now) c.loop-first.invariant.words_are (length-map c.loop-first.rest.now lexeme) ∙ here.0, here.1)

pub returns-clause-only : goal.returns-clause-only
returns-clause-only c = λ own more closed.
    never_closed c.args.pair (lexemes c.args.words.now) (lexemes c.loop-first.rest.now) c.loop-first.depth c.loop-first.invariant (omega (arith, length-map c.loop-first.rest.now lexeme, c.in_default.ensures.cases)) own more closed
