use Rattle.std.proofs.Common.{◌∙◌, refl, sym, ap, ◌∷◌, ◌++◌}
use Rattle.cob_source.specs.Tokens.{lexemes}
use Rattle.cob_copybook_clauses.specs.Written.{names_behind}
use Rattle.cob_copybook_clauses.proofs.TableLemmas.{count_words, count_split, same_name}
use Rattle.cob_copybook_clauses.proofs.qualifiers.count_at.Goals as goal

pub returns-clause-found : goal.returns-clause-found
returns-clause-found c =
    let (d, is, e) = c.in_ok-depending.ensures.found in
    let (on, noise, f) = c.skip-on.ensures.found in
    let (w, named, not, g) = c.in_ok-name.ensures.found in
    let qs = lexemes c.qualifiers_at.result.0.now in (
      d ∷ (on ++ w ∷ qs),
      record {
        depending = d;
        on = on;
        named = w;
        behind = qs;
        depends = is;
        noise = noise;
        is = named;
        not_on = not;
        qualified = c.qualifiers_at.ensures.are;
        qualifiers = refl;
        words = refl;
      },
      count_words d w _ _ on _ _ qs _ e f g c.qualifiers_at.ensures.found,
    )

pub returns-clause-only : goal.returns-clause-only
returns-clause-only c = λ name ws more is nf e.
    let behind = c.in_ok-depending.ensures.only is.depending (is.on ++ is.named ∷ (is.behind ++ more)) is.depends (count_split is.depending is.named _ ws is.on is.behind more e is.words) in
    let other = c.skip-on.ensures.only is.on (is.named ∷ (is.behind ++ more)) is.noise is.not_on behind in
    let read = c.in_ok-name.ensures.only name.name is.named (is.behind ++ more) is.is is.not_on other in
    let quals = c.qualifiers_at.ensures.only is.behind more is.qualified nf read.1 in
    (same_name name c.in_ok-name.name.now (names_behind (lexemes c.qualifiers_at.result.0.now)) read.0 (ap names_behind quals.0 ∙ sym is.qualifiers), quals.1)
