use Rattle.std.proofs.Common.{sym, ◌∙◌}
use Rattle.cob_source.specs.Tokens.{lexemes}
use Rattle.cob_report_refused_moves.proofs.Cutting.{written_is, written_shorter}
use Rattle.cob_report_refused_moves.proofs.written.written_at.Goals as goal

pub in_front-requires : goal.in_front-requires
in_front-requires c = let h = c.behind_written-rest.ensures in (h.0, h.2)

pub returns-clause-written : goal.returns-clause-written
returns-clause-written c = let h = c.behind_written-rest.ensures in written_is h.0 (lexemes c.in_front.result.now) _ h.1 (sym h.2 ∙ c.in_front.ensures)

pub returns-clause-shorter : goal.returns-clause-shorter
returns-clause-shorter c = let h = c.behind_written-rest.ensures in written_shorter c.args.words.now c.behind_written-rest.result.now h.0 h.1 h.2
