use Rattle.std.proofs.lemmas.List.{length-map}
use Rattle.std.proofs.Common.{◌≡◌, ◌≤◌, true, false, length, sym, ap, ◌∙◌, arith}
use Rattle.cob_source.specs.Tokens.{lexeme, lexemes}
use Rattle.std.specs.Prelude.{Option, Some}
use Rattle.cob_move_loops.specs.declared.edges.Edge.{Edge}
use Rattle.cob_move_loops.specs.declared.edges.Pair.TheVariants as pair
use Rattle.cob_move_loops.specs.Passages.{open_by}
use Rattle.cob_move_loops.specs.Reading.{PartedInFront}
use Rattle.cob_move_loops.proofs.FrontLemmas.{none_left, opened_first, opened_more, parted_end, parted_found, parted_here, parted_never, parted_whole}
use Rattle.cob_move_loops.proofs.HeadLemmas.{some_weaker}
use Rattle.cob_move_loops.proofs.edges.part_at.Goals as goal

pub depth_behind-requires : goal.depth_behind-requires
depth_behind-requires c = record { room = omega (arith, c.loop-first.invariant.room, ap length (ap lexemes c.in-Some.ensures.cases.0), length-map c.args.words.now lexeme) }

pub loop-first-init : goal.loop-first-init
loop-first-init c = opened_first (pair.Choice c.args.kind) true (lexemes c.args.words.now)

pub loop-first-preserved : goal.loop-first-preserved
loop-first-preserved c =
    opened_more (pair.Choice c.args.kind) true (lexemes c.args.words.now) (lexemes c.loop-first.rest.now) (lexemes c.in-Some.more.now) (lexeme c.in-Some.first.now) c.loop-first.depth c.in-Some-depth_behind.next c.loop-first.invariant
    (ap lexemes c.in-Some.ensures.cases.0)
    (c.in-Some-depth_behind.ensures.value ∙ ap (λ (o : Option Edge). open_by true o (Some c.loop-first.depth)) c.edge_of.ensures)
    c.in-Some-depth_behind.ensures.most

pub returns-in-None-clause-found : goal.returns-in-None-clause-found
returns-in-None-clause-found c =
    parted_found c.args.kind (lexemes c.args.words.now) (lexemes c.loop-first.rest.now) (lexemes c.in-Some.more.now) (lexemes c.front.result.now) (lexeme c.in-Some.first.now) c.loop-first.depth c.loop-first.invariant
    (c.front.ensures c.loop-first.invariant.done (lexemes c.loop-first.rest.now) c.loop-first.invariant.words_are (length-map c.loop-first.rest.now lexeme))
    (ap lexemes c.in-Some.ensures.cases.0)
    (ap (λ (o : Option Edge). open_by true o (Some c.loop-first.depth)) (sym c.edge_of.ensures) ∙ sym c.in-None.ensures.value)
    (c.parts.ensures.0 c.if-not-parts.false)

pub returns-in-None-clause-only : goal.returns-in-None-clause-only
returns-in-None-clause-only c = λ own more parted.
    let here = parted_here c.args.kind (lexemes c.args.words.now) (lexemes c.loop-first.rest.now) (lexemes c.in-Some.more.now) (lexeme c.in-Some.first.now) c.loop-first.depth c.loop-first.invariant
    (ap lexemes c.in-Some.ensures.cases.0)
    (ap (λ (o : Option Edge). open_by true o (Some c.loop-first.depth)) (sym c.edge_of.ensures) ∙ sym c.in-None.ensures.value) own more parted in
    (c.front.ensures c.loop-first.invariant.done (lexemes c.loop-first.rest.now) c.loop-first.invariant.words_are (length-map c.loop-first.rest.now lexeme) ∙ here.0, here.1)

pub returns-then-not-parts-clause-only : goal.returns-then-not-parts-clause-only
returns-then-not-parts-clause-only c = λ own more parted.
    absurd (parted_never c.args.kind (lexemes c.args.words.now) (lexemes c.loop-first.rest.now) (lexemes c.in-Some.more.now) (lexeme c.in-Some.first.now) c.loop-first.depth c.loop-first.invariant
    (ap lexemes c.in-Some.ensures.cases.0)
    (ap (λ (o : Option Edge). open_by true o (Some c.loop-first.depth)) (sym c.edge_of.ensures) ∙ sym c.in-None.ensures.value)
    (λ is. let never : false ≡ true = sym c.if-not-parts.true ∙ c.parts.ensures.1 is in cc) own more parted)

pub returns-clause-found : goal.returns-clause-found
returns-clause-found c =
    some_weaker (λ r. (lexemes r.0.now ≡ lexemes c.args.words.now) × (lexemes r.1.now ≡ lexemes c.loop-first.rest.now) × (c.loop-first.depth ≡ 0))
    (λ r. PartedInFront c.args.kind (lexemes r.0.now) (lexemes c.args.words.now) (lexemes r.1.now)) c.closed_part.result
    (λ r is. parted_whole c.args.kind (lexemes c.args.words.now) (lexemes c.loop-first.rest.now) (lexemes r.0.now) (lexemes r.1.now) c.loop-first.depth c.loop-first.invariant
    (omega (arith, length-map c.loop-first.rest.now lexeme, c.in_default.ensures.cases)) is.0 is.1 is.2) c.closed_part.ensures.found

pub returns-clause-only : goal.returns-clause-only
returns-clause-only c = λ own more parted.
    let few : length (lexemes c.loop-first.rest.now) ≤ 0 = omega (arith, length-map c.loop-first.rest.now lexeme, c.in_default.ensures.cases) in
    let end = parted_end c.args.kind (lexemes c.args.words.now) (lexemes c.loop-first.rest.now) c.loop-first.depth c.loop-first.invariant few own more parted in
    c.closed_part.ensures.only own more end.2 (sym end.0) (none_left (lexemes c.loop-first.rest.now) few ∙ sym end.1)
