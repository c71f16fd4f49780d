use Rattle.std.proofs.Common.{refl, sym, ap, ◌∙◌, ◌++◌, ◌∷◌}
use Rattle.cob_source.specs.Tokens.{lexemes}
use Rattle.cob_copybook_clauses.specs.Written.{names_behind}
use Rattle.cob_move_statements.specs.Written.{word_texts}
use Rattle.cob_move_statements.proofs.ReferenceLemmas.{not_of, reference_cut, reference_split, same_reference}
use Rattle.cob_move_statements.proofs.references.reference_at.Goals as goal

pub returns-clause-found : goal.returns-clause-found
returns-clause-found c =
    let (w, is, text, e) = c.in_ok-name.ensures.found in
    let (bs, are, f) = c.in_ok-subscripts.ensures.found in
    let qs = lexemes c.qualifiers_at.result.0.now in (
      w ∷ (qs ++ bs),
      record { named = w; behind = qs; brackets = bs; is = is; name = sym text; qualified = c.qualifiers_at.ensures.are; qualifiers = refl; subscripted = are; words = refl },
      reference_cut w (lexemes c.args.words.now) (lexemes c.in_ok-name.named.now) (lexemes c.qualifiers_at.result.1.now) qs bs (lexemes c.in_ok-subscripts.more.now) e c.qualifiers_at.ensures.found f,
    )

pub returns-clause-only : goal.returns-clause-only
returns-clause-only c = λ x ws more is nof nop e.
    let split = reference_split is.named (lexemes c.args.words.now) ws is.behind is.brackets more e is.words in
    let read = c.in_ok-name.ensures.only is.named (is.behind ++ (is.brackets ++ more)) is.is split in
    let quals = c.qualifiers_at.ensures.only is.behind (is.brackets ++ more) is.qualified (not_of x.subscripts is.brackets more is.subscripted nof) read.1 in
    let subs = c.in_ok-subscripts.ensures.only x.subscripts is.brackets more is.subscripted nop quals.1 in
    (same_reference x c.in_ok-name.name.now (names_behind (lexemes c.qualifiers_at.result.0.now)) (word_texts (lexemes c.in_ok-subscripts.subscripts.now)) (read.0 ∙ sym is.name) (ap names_behind quals.0 ∙ sym is.qualifiers) subs.0, subs.1)

pub returns-in_err-subscripts-clause-only : goal.returns-in_err-subscripts-clause-only
returns-in_err-subscripts-clause-only c = λ x ws more is nof nop e.
    let split = reference_split is.named (lexemes c.args.words.now) ws is.behind is.brackets more e is.words in
    let read = c.in_ok-name.ensures.only is.named (is.behind ++ (is.brackets ++ more)) is.is split in
    let quals = c.qualifiers_at.ensures.only is.behind (is.brackets ++ more) is.qualified (not_of x.subscripts is.brackets more is.subscripted nof) read.1 in
    absurd (c.in_err-subscripts.ensures.only x.subscripts is.brackets more is.subscripted nop quals.1)
