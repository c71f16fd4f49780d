use Rattle.std.proofs.Common.{sym, ap, ◌∙◌}
use Rattle.std.specs.List.{list_any}
use Rattle.cob_picture.specs.Positions.{is}
use Rattle.cob_picture.proofs.Placed.{any_runs}
use Rattle.cob_copybook_rules.proofs.Symbols.{any_symbols}
use Rattle.cob_copybook_rules.proofs.placements.has.Goals as goal

pub returns : goal.returns
returns c =
    c.stands_in.ensures
    ∙ sym (any_runs (is c.args.symbol) c.runs.result.now c.runs.ensures.positive)
    ∙ ap (list_any (is c.args.symbol)) (sym c.runs.ensures.symbols)
    ∙ sym (any_symbols (is c.args.symbol) c.args.picture.now.positions)
