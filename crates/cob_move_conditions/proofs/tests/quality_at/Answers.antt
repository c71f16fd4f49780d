use Rattle.std.proofs.Common.{◌++◌, ◌∷◌, [], ◌∙◌, ap, refl, subst, sym}
use Rattle.cob_source.specs.Tokens.{lexeme, lexemes}
use Rattle.cob_move_conditions.specs.Conditions.{IsQualityWord}
use Rattle.cob_move_conditions.proofs.TestLemmas.{negation_no_is, quality_fits, same_behind, same_front, some_same, three_found, three_split}
use Rattle.cob_move_conditions.proofs.WordLemmas.{nothing_is_some}
use Rattle.cob_move_conditions.proofs.tests.quality_at.Goals as goal

pub returns-clause-found : goal.returns-clause-found
returns-clause-found c =
    let w = lexeme c.in_ok-first.first.now in
    let (is, noise, a) = c.without_word.ensures.found in
    let (negation, negates, b) = c.negation_at-opposite.ensures.found in (
      is ++ (negation ++ w ∷ []),
      record { is = is; negation = negation; named = w; noise = noise; negates = negates; names = c.in_ok-quality.ensures.found; words = refl },
      three_found (lexemes c.args.words.now) is (lexemes c.without_word.result.now) negation (lexemes c.negation_at-opposite.result.1.now) (w ∷ []) (lexemes c.in_ok-first.more.now) a b (ap lexemes c.in_ok-first.ensures.cases.0),
    )

pub returns-clause-only : goal.returns-clause-only
returns-clause-only c = λ opposite q ws more it cut.
    let split = three_split (lexemes c.args.words.now) ws it.is it.negation (it.named ∷ []) more cut it.words in
    let a = c.without_word.ensures.only it.is (it.negation ++ it.named ∷ more) it.noise (negation_no_is opposite q it.negation more it.named it.negates it.names) split in
    let b = c.negation_at-opposite.ensures.only opposite it.negation (it.named ∷ more) it.negates (quality_fits q it.named more it.names) a in
    let both = sym (ap lexemes c.in_ok-first.ensures.cases.0) ∙ b.1 in
    let same = same_front (lexeme c.in_ok-first.first.now) it.named (lexemes c.in_ok-first.more.now) more both in
    (b.0, some_same c.in_ok-quality.quality q (sym c.in_ok-quality.was ∙ c.quality_of.ensures.only q (subst (IsQualityWord q) (sym same) it.names)), same_behind (lexeme c.in_ok-first.first.now) it.named (lexemes c.in_ok-first.more.now) more both)

pub returns-in_err-quality-clause-only : goal.returns-in_err-quality-clause-only
returns-in_err-quality-clause-only c = λ opposite q ws more it cut.
    let split = three_split (lexemes c.args.words.now) ws it.is it.negation (it.named ∷ []) more cut it.words in
    let a = c.without_word.ensures.only it.is (it.negation ++ it.named ∷ more) it.noise (negation_no_is opposite q it.negation more it.named it.negates it.names) split in
    let b = c.negation_at-opposite.ensures.only opposite it.negation (it.named ∷ more) it.negates (quality_fits q it.named more it.names) a in
    let both = sym (ap lexemes c.in_ok-first.ensures.cases.0) ∙ b.1 in
    let same = same_front (lexeme c.in_ok-first.first.now) it.named (lexemes c.in_ok-first.more.now) more both in
    absurd (nothing_is_some q (sym c.in_err-quality.was ∙ c.quality_of.ensures.only q (subst (IsQualityWord q) (sym same) it.names)))
