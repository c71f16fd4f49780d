use Rattle.std.proofs.Common.{◌∙◌, [], ◌∷◌, List, map, refl, subst, sym}
use Rattle.std.proofs.lemmas.Result.{err_from_is_err_and}
use Rattle.cob_move_data.specs.declared.operands.NumberedPair.{NumberedPair}
use Rattle.cob_move_data.specs.Moves.{AreMoves, numbered_move_by}
use Rattle.cob_report_explain.specs.Each.{AreOfMoves, Sees, all_done, numbered_of_pair, numbered_of_pairs, stopped_at}
use Rattle.cob_report_explain.specs.Seen.{records_of_layouts}
use Rattle.cob_report_explain.proofs.EachLemmas.{moves_all, moves_more, moves_none, moves_stop, one_done, one_stops}
use Rattle.cob_report_explain.proofs.LawLemmas.{cut_pair, no_pair, pair_between, pair_is, the_pair}
use Rattle.cob_report_explain.proofs.statements.walk_pairs.Goals as goal

pub loop-index-init : goal.loop-index-init
loop-index-init g c = record {
  seen = moves_none c.args.layouts.now.reading (records_of_layouts c.args.layouts.now) (numbered_of_pairs c.args.statement c.args.group.now 0 c.as_slice-pairs.result.now) c.args.input.now c.args.output.now (g.W.Watcher.seen c.args.watcher.now);
  output = refl;
  room = c.requires.room;
}

pub walk_pair-requires-clause-moves : goal.walk_pair-requires-clause-moves
walk_pair-requires-clause-moves g c =
    let x = c.args.layouts.now.reading in
    pair_between x (records_of_layouts c.args.layouts.now) c.args.group.now c.as_slice-pairs.result.now c.loop-index.index (the_pair c.as_slice-pairs.result.now c.loop-index.index) c.loop-index-test.true (pair_is c.as_slice-pairs.result.now c.loop-index.index c.loop-index-test.true)
    (subst (λ (ps : List NumberedPair). AreMoves (records_of_layouts c.args.layouts.now) (map (numbered_move_by x (records_of_layouts c.args.layouts.now) c.args.group.now) ps)) (sym c.as_slice-pairs.ensures.value) c.requires.moves)

pub loop-index-preserved : goal.loop-index-preserved
loop-index-preserved g c =
    let x = c.args.layouts.now.reading in record {
      seen = moves_more x (records_of_layouts c.args.layouts.now) _ _ (numbered_of_pair c.args.statement c.args.group.now c.loop-index.index (the_pair c.as_slice-pairs.result.now c.loop-index.index) ∷ []) _ c.args.input.now c.args.output.now c.loop-index.output c.walk_pair.new.output
          _ _ _ (cut_pair c.args.statement c.args.group.now c.as_slice-pairs.result.now c.loop-index.index (the_pair c.as_slice-pairs.result.now c.loop-index.index) c.loop-index-test.true (pair_is c.as_slice-pairs.result.now c.loop-index.index c.loop-index-test.true)) c.loop-index.invariant.seen
          (one_done x (records_of_layouts c.args.layouts.now) (numbered_of_pair c.args.statement c.args.group.now c.loop-index.index (the_pair c.as_slice-pairs.result.now c.loop-index.index)) c.args.input.now c.loop-index.output c.walk_pair.new.output
          (g.W.Watcher.seen c.loop-index.watcher) (g.W.Watcher.seen c.walk_pair.new.watcher) c.in_ok-walk_pair.ensures.seen);
      output = c.walk_pair.auto.output ∙ c.loop-index.invariant.output;
      room = c.in_ok-walk_pair.ensures.room;
    }

pub returns-in_err-walk_pair-clause-seen : goal.returns-in_err-walk_pair-clause-seen
returns-in_err-walk_pair-clause-seen g c =
    let x = c.args.layouts.now.reading in
    let p = err_from_is_err_and c.from_residual.result c.from_residual.ensures.1 in
    rw (p.1, p.2)
    (subst (λ (ps : List NumberedPair). Sees (g.W.Watcher.seen c.args.watcher.now) (g.W.Watcher.seen c.walk_pair.new.watcher)
    (λ ones. AreOfMoves x (records_of_layouts c.args.layouts.now) (numbered_of_pairs c.args.statement c.args.group.now 0 ps) c.args.input.now c.args.output.now ones (stopped_at c.in_err-walk_pair.field-0.0 c.walk_pair.new.output)))
    c.as_slice-pairs.ensures.value
    (moves_stop x (records_of_layouts c.args.layouts.now) _ _ (numbered_of_pair c.args.statement c.args.group.now c.loop-index.index (the_pair c.as_slice-pairs.result.now c.loop-index.index) ∷ []) _ c.args.input.now c.args.output.now c.loop-index.output c.walk_pair.new.output
    _ _ _ c.in_err-walk_pair.field-0.0 (cut_pair c.args.statement c.args.group.now c.as_slice-pairs.result.now c.loop-index.index (the_pair c.as_slice-pairs.result.now c.loop-index.index) c.loop-index-test.true (pair_is c.as_slice-pairs.result.now c.loop-index.index c.loop-index-test.true)) c.loop-index.invariant.seen
    (one_stops x (records_of_layouts c.args.layouts.now) (numbered_of_pair c.args.statement c.args.group.now c.loop-index.index (the_pair c.as_slice-pairs.result.now c.loop-index.index)) c.args.input.now c.loop-index.output c.walk_pair.new.output
    (g.W.Watcher.seen c.loop-index.watcher) (g.W.Watcher.seen c.walk_pair.new.watcher) c.in_err-walk_pair.field-0.0 c.in_err-walk_pair.ensures.seen)))

pub returns-clause-seen : goal.returns-clause-seen
returns-clause-seen g c =
    let x = c.args.layouts.now.reading in
    subst (λ (ps : List NumberedPair). Sees (g.W.Watcher.seen c.args.watcher.now) (g.W.Watcher.seen c.loop-index.watcher)
    (λ ones. AreOfMoves x (records_of_layouts c.args.layouts.now) (numbered_of_pairs c.args.statement c.args.group.now 0 ps) c.args.input.now c.args.output.now ones (all_done c.loop-index.output)))
    c.as_slice-pairs.ensures.value
    (moves_all x (records_of_layouts c.args.layouts.now) _ _ c.args.input.now c.args.output.now c.loop-index.output _ _
    (no_pair c.args.statement c.args.group.now c.as_slice-pairs.result.now c.loop-index.index c.loop-index-test.false) c.loop-index.invariant.seen)
