use Rattle.std.proofs.Common.{◌∙◌, ◌∷◌, [], List, arith, ap, map, refl, subst, sym}
use Rattle.std.proofs.lemmas.Result.{err_from_is_err_and}
use Rattle.cob_move_data.specs.declared.operands.NumberedPair.{NumberedPair}
use Rattle.cob_move_data.specs.declared.operands.StatementMoves.TheVariants.{Pairs}
use Rattle.cob_move_data.specs.Moves.{AreMoves, Move, Records, numbered_move_by, statement_moves_by}
use Rattle.cob_move_apply.specs.ByRule.{AreGone}
use Rattle.cob_move_apply.specs.Surveyed.{records}
use Rattle.cob_move_apply.proofs.ByRuleLemmas.{all_spends, empty_of, gone_all, gone_next, gone_none, gone_stopped, placed_pair, stop_spends}
use Rattle.cob_move_apply.proofs.StepLemmas.{made_one}
use Rattle.cob_move_apply.proofs.by_rule.apply_pairs.Goals as goal

pub loop-pair-init : goal.loop-pair-init
loop-pair-init c =
    let x = c.args.layouts.now.reading in
    let r : Records = records c.args.layouts.now in
    let g = c.args.group.now in
    record {
      gone = subst (λ (ps : List NumberedPair). AreGone r (statement_moves_by x r (Pairs g)) (map (numbered_move_by x r g) ps) c.args.input.now c.args.output.now c.args.output.now
          c.args.space.now.output c.args.space.now.output) (sym c.as_slice-left.ensures.value)
          (gone_none r (statement_moves_by x r (Pairs g)) c.args.input.now c.args.output.now c.args.space.now.output);
      moves = subst (λ (ps : List NumberedPair). AreMoves r (map (numbered_move_by x r g) ps)) (sym c.as_slice-left.ensures.value) c.requires.moves;
      output = refl;
      space = c.requires.space;
    }

pub make_pair_move-requires-clause-placed : goal.make_pair_move-requires-clause-placed
make_pair_move-requires-clause-placed c =
    let x = c.args.layouts.now.reading in
    let r : Records = records c.args.layouts.now in
    let g = c.args.group.now in
    let moves = subst (λ (ps : List NumberedPair). AreMoves r (map (numbered_move_by x r g) ps)) c.in-Some.ensures.cases.0 c.loop-pair.invariant.moves in
    placed_pair x r g c.in-Some.pair.now c.args.unnoted.now moves.0 c.requires.none c.requires.room

pub returns-in_err-make_pair_move-clause-applied : goal.returns-in_err-make_pair_move-clause-applied
returns-in_err-make_pair_move-clause-applied c =
    let x = c.args.layouts.now.reading in
    let r : Records = records c.args.layouts.now in
    let g = c.args.group.now in
    let m : Move = numbered_move_by x r g c.in-Some.pair.now in
    let p = err_from_is_err_and c.from_residual.result c.from_residual.ensures.1 in
    rw (p.1, p.2) (gone_stopped r (statement_moves_by x r (Pairs g)) (m ∷ []) (map (numbered_move_by x r g) c.in-Some.behind.now) (map (numbered_move_by x r g) c.loop-pair.left.now)
    c.args.input.now c.args.output.now c.loop-pair.output c.make_pair_move.new.output c.in_err-make_pair_move.field-0.0 c.args.space.now.output c.loop-pair.space.output
    (ap (map (numbered_move_by x r g)) c.in-Some.ensures.cases.0) c.loop-pair.invariant.gone
    (made_one r (m ∷ []) m c.args.input.now c.loop-pair.output _ refl c.in_err-make_pair_move.ensures.moved))

pub returns-in_err-make_pair_move-clause-spends : goal.returns-in_err-make_pair_move-clause-spends
returns-in_err-make_pair_move-clause-spends c =
    let x = c.args.layouts.now.reading in
    let r : Records = records c.args.layouts.now in
    let g = c.args.group.now in
    let m : Move = numbered_move_by x r g c.in-Some.pair.now in
    let p = err_from_is_err_and c.from_residual.result c.from_residual.ensures.1 in
    rw p.1 (stop_spends r (statement_moves_by x r (Pairs g)) (m ∷ []) (map (numbered_move_by x r g) c.in-Some.behind.now) (map (numbered_move_by x r g) c.loop-pair.left.now)
    c.args.input.now c.args.output.now c.loop-pair.output c.make_pair_move.new.output c.in_err-make_pair_move.field-0.0 c.args.space.now.output c.loop-pair.space.output
    c.make_pair_move.new.space.output (ap (map (numbered_move_by x r g)) c.in-Some.ensures.cases.0) c.loop-pair.invariant.gone c.in_err-make_pair_move.ensures.spends)

pub loop-pair-preserved : goal.loop-pair-preserved
loop-pair-preserved c =
    let x = c.args.layouts.now.reading in
    let r : Records = records c.args.layouts.now in
    let g = c.args.group.now in
    let m : Move = numbered_move_by x r g c.in-Some.pair.now in
    let moves = subst (λ (ps : List NumberedPair). AreMoves r (map (numbered_move_by x r g) ps)) c.in-Some.ensures.cases.0 c.loop-pair.invariant.moves in
    record {
      gone = gone_next r (statement_moves_by x r (Pairs g)) (m ∷ []) (map (numbered_move_by x r g) c.in-Some.behind.now) (map (numbered_move_by x r g) c.loop-pair.left.now)
          c.args.input.now c.args.output.now c.loop-pair.output c.make_pair_move.new.output c.args.space.now.output c.loop-pair.space.output c.make_pair_move.new.space.output
          (ap (map (numbered_move_by x r g)) c.in-Some.ensures.cases.0) c.loop-pair.invariant.gone
          (made_one r (m ∷ []) m c.args.input.now c.loop-pair.output _ refl c.in_ok-make_pair_move.ensures.moved) c.in_ok-make_pair_move.ensures.spends;
      moves = moves.1;
      output = c.make_pair_move.auto.output ∙ c.loop-pair.invariant.output;
      space = c.make_pair_move.ensures.space;
    }

pub returns-clause-applied : goal.returns-clause-applied
returns-clause-applied c =
    let x = c.args.layouts.now.reading in
    let r : Records = records c.args.layouts.now in
    let g = c.args.group.now in
    gone_all r (statement_moves_by x r (Pairs g)) (map (numbered_move_by x r g) c.loop-pair.left.now) c.args.input.now c.args.output.now c.loop-pair.output c.args.space.now.output
    c.loop-pair.space.output (ap (map (numbered_move_by x r g)) (empty_of c.loop-pair.left.now (omega (arith, c.in_default.ensures.cases)))) c.loop-pair.invariant.gone

pub returns-clause-spends : goal.returns-clause-spends
returns-clause-spends c =
    let x = c.args.layouts.now.reading in
    let r : Records = records c.args.layouts.now in
    let g = c.args.group.now in
    all_spends r (statement_moves_by x r (Pairs g)) (map (numbered_move_by x r g) c.loop-pair.left.now) c.args.input.now c.args.output.now c.loop-pair.output c.args.space.now.output
    c.loop-pair.space.output (ap (map (numbered_move_by x r g)) (empty_of c.loop-pair.left.now (omega (arith, c.in_default.ensures.cases)))) c.loop-pair.invariant.gone
