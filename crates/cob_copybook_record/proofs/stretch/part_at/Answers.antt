use Rattle.std.proofs.Common.{length, sym, ap, ◌∙◌}
use Rattle.std.proofs.lemmas.List.{length-map}
use Rattle.cob_source.specs.Tokens.{lexeme, lexemes}
use Rattle.cob_copybook_record.specs.OneRecord.{words_behind_part, words_of_part}
use Rattle.cob_copybook_record.proofs.StretchLemmas.{both}
use Rattle.cob_copybook_record.proofs.stretch.part_at.Goals as goal

pub returns-clause-own : goal.returns-clause-own
returns-clause-own c =
    let ws = lexemes c.args.words.now in
    c.front.ensures (words_of_part c.args.part c.args.starts ws) (words_behind_part c.args.part c.args.starts ws) (sym (both c.args.part c.args.starts ws))
    (ap length (sym c.behind_part-behind.ensures.behind) ∙ length-map c.behind_part-behind.result.now lexeme)
