use Rattle.std.proofs.Common.{◌≡◌, ap, ◌∙◌, sym, true, false, refl, arith}
use Rattle.cob_source.specs.Tokens.{lexeme, lexemes}
use Rattle.cob_move_loops.proofs.CountLemmas.{IsOpenBehind, open_first, open_more, open_none, too_deep}
use Rattle.cob_move_loops.proofs.counting.is_shallow.Goals as goal

pub choices_behind-next_ifs-requires : goal.choices_behind-next_ifs-requires
choices_behind-next_ifs-requires c = record { room = omega (arith, c.loop-first.invariant.low) }

pub choices_behind-next_evaluates-requires : goal.choices_behind-next_evaluates-requires
choices_behind-next_evaluates-requires c = record { room = omega (arith, c.loop-first.invariant.low) }

pub loops_behind-requires : goal.loops_behind-requires
loops_behind-requires c = record { room = omega (arith, c.loop-first.invariant.low) }

pub are_many-requires : goal.are_many-requires
are_many-requires c = record {
  few = omega (arith, c.loop-first.invariant.low, c.in-Some-loops_behind.ensures.most);
  fewer = omega (arith, c.loop-first.invariant.low, c.choices_behind-next_ifs.ensures.most);
  least = omega (arith, c.loop-first.invariant.low, c.choices_behind-next_evaluates.ensures.most);
}

pub loop-first-init : goal.loop-first-init
loop-first-init c = open_first (lexemes c.args.words.now)

pub loop-first-preserved : goal.loop-first-preserved
loop-first-preserved c =
    open_more (lexemes c.args.words.now) (lexemes c.loop-first.rest.now) (lexemes c.in-Some.more.now) (lexeme c.in-Some.first.now) c.loop-first.loops c.loop-first.ifs c.loop-first.evaluates
    c.in-Some-loops_behind.next c.choices_behind-next_ifs.result c.choices_behind-next_evaluates.result c.loop-first.invariant (ap lexemes c.in-Some.ensures.cases.0)
    (record { of_loops = c.in-Some-loops_behind.ensures.value; of_ifs = c.choices_behind-next_ifs.ensures.value; of_evaluates = c.choices_behind-next_evaluates.ensures.value })
    (c.are_many.ensures.some c.if-are_many.false)

pub returns-then-are_many : goal.returns-then-are_many
returns-then-are_many c = (
  λ yes. absurd (let never : false ≡ true = yes in cc),
  λ few. absurd (too_deep (lexemes c.args.words.now) (lexemes c.loop-first.rest.now) (lexemes c.in-Some.more.now) (lexeme c.in-Some.first.now) c.loop-first.loops c.loop-first.ifs c.loop-first.evaluates
      c.in-Some-loops_behind.next c.choices_behind-next_ifs.result c.choices_behind-next_evaluates.result c.loop-first.invariant (ap lexemes c.in-Some.ensures.cases.0)
      (record { of_loops = c.in-Some-loops_behind.ensures.value; of_ifs = c.choices_behind-next_ifs.ensures.value; of_evaluates = c.choices_behind-next_evaluates.ensures.value })
      (c.are_many.ensures.many c.if-are_many.true) few),
)

pub returns-in-None : goal.returns-in-None
returns-in-None c = (
  λ yes. open_none (lexemes c.args.words.now) (lexemes c.loop-first.rest.now) (lexemes c.in-Some.more.now) (lexeme c.in-Some.first.now) c.loop-first.loops c.loop-first.ifs c.loop-first.evaluates
      c.choices_behind-next_ifs.result c.choices_behind-next_evaluates.result c.loop-first.invariant (ap lexemes c.in-Some.ensures.cases.0)
      (record { of_loops = c.in-None.ensures.value; of_ifs = c.choices_behind-next_ifs.ensures.value; of_evaluates = c.choices_behind-next_evaluates.ensures.value }),
  λ few. refl,
)
