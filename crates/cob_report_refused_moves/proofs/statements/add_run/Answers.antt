use Rattle.std.proofs.Common.{List, false, ap, sym, subst, ◌∙◌}
use Rattle.cob_source.specs.Tokens.{lexemes}
use Rattle.cob_move_loops.specs.Reading.{counters}
use Rattle.cob_move_loops.specs.Turns.{in_turn}
use Rattle.cob_move_loops.specs.declared.turn.Counter.{Counter}
use Rattle.cob_report_refused_moves.specs.Statements.{HasRun}
use Rattle.cob_report_refused_moves.proofs.Telling.{on_wider}
use Rattle.cob_report_refused_moves.proofs.statements.add_run.Goals as goal

pub returns : goal.returns
returns c =
    let e = ap lexemes c.as_slice-2.ensures.value ∙ c.in_ok-words.ensures ∙ ap (λ (cs : List Counter). in_turn (counters cs) false 0 (lexemes c.args.run.now.words.now)) c.as_slice.ensures.value in
    on_wider c.add_statements.result (λ adds text names has all. adds text names (subst (HasRun text c.args.input.now c.args.output.now) (sym e) has) all) c.add_statements.ensures
