use Rattle.std.proofs.Common.{[], ap, refl, subst, sym}
use Rattle.cob_source.specs.Tokens.{lexemes}
use Rattle.cob_move_loops.specs.Passages.{IsPassage}
use Rattle.cob_move_loops.specs.Turns.{words_by_turn}
use Rattle.cob_report_lossless.proofs.LineLemmas.{headed_body, plain_body}
use Rattle.cob_report_lossless.proofs.lines.body_of.Goals as goal

pub returns-in_default-clause-found : goal.returns-in_default-clause-found
returns-in_default-clause-found c =
    let (p, is) = c.in_default.ensures.found in
    record { heading = []; passage = p; named = tt; words_are = refl; says = is }

pub returns-in_default-clause-only : goal.returns-in_default-clause-only
returns-in_default-clause-only c = λ body has p says. plain_body c.one_passage.ensures (lexemes c.args.words.now) body p has says

pub returns-in-Ok-clause-only : goal.returns-in-Ok-clause-only
returns-in-Ok-clause-only c = λ body has p says.
    let own = lexemes c.behind_heading-body.result.now in
    let same = headed_body c.breaks_none.ensures (lexemes c.args.words.now) own body c.in-Err.field-0 has c.in-Err.ensures.line c.behind_heading-body.ensures.found in
    ap (words_by_turn []) (c.one_passage.ensures p has.passage own says (subst (IsPassage has.passage) (sym same) has.says))

pub returns-in-Err-check-clause-only : goal.returns-in-Err-check-clause-only
returns-in-Err-check-clause-only c = λ body has.
    let own = lexemes c.behind_heading-body.result.now in
    let same = headed_body c.breaks_none.ensures (lexemes c.args.words.now) own body c.in-Err.field-0 has c.in-Err.ensures.line c.behind_heading-body.ensures.found in
    c.breaks_none.ensures own c.in-Err-check.line c.in-Err-check.ensures.line has.passage (subst (IsPassage has.passage) (sym same) has.says)
