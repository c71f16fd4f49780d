use Rattle.cob_report_refused_moves.specs.Statements.{IsMoveRefusal}
use Rattle.cob_report_refused_moves.proofs.Telling.{all_behind_first, all_cut, first_of}
use Rattle.cob_report_refused_moves.proofs.moves.parted_at.Goals as goal

pub returns-in-Some : goal.returns-in-Some
returns-in-Some c = λ text input output names all.
    let parts = all_cut (IsMoveRefusal text input output names) _ c.args.found.now c.split_at.result.0.now c.split_at.result.1.now c.split_at.ensures.front c.split_at.ensures.back all in
    (c.place_in.ensures text input output names (first_of (IsMoveRefusal text input output names) _ c.split_at.result.1.now _ c.in-Some.ensures.cases.0 parts.1), parts.0, all_behind_first (IsMoveRefusal text input output names) _ c.split_at.result.1.now _ c.in-Some.ensures.cases.0 parts.1)

pub returns-in-None : goal.returns-in-None
returns-in-None c = λ text input output names all.
    let parts = all_cut (IsMoveRefusal text input output names) _ c.args.found.now c.split_at.result.0.now c.split_at.result.1.now c.split_at.ensures.front c.split_at.ensures.back all in
    (tt, parts.0, parts.1)
