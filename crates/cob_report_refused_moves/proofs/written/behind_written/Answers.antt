use Rattle.std.proofs.Common.{ap}
use Rattle.cob_source.specs.Tokens.{lexemes}
use Rattle.cob_report_refused_moves.proofs.Cutting.{cut}
use Rattle.cob_report_refused_moves.proofs.written.behind_written.Goals as goal

pub returns-in-Some : goal.returns-in-Some
returns-in-Some c =
    let o = c.behind_others.ensures.found in
    let s = c.behind_stops.ensures.found in
    cut (lexemes c.args.words.now) _ _ _ _ o.0 s.0 (ap lexemes c.in-Some.ensures.cases.0) o.1 o.2 c.behind_others.ensures.ends s.1 s.2 c.behind_stops.ensures.none
