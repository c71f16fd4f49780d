use Rattle.std.proofs.Common.{◌++◌, refl}
use Rattle.cob_source.specs.Tokens.{lexemes}
use Rattle.cob_move_conditions.proofs.TestLemmas.{relation_no_is, three_found, three_split}
use Rattle.cob_move_conditions.proofs.WordLemmas.{operand_fits}
use Rattle.cob_move_conditions.proofs.tests.related_at.Goals as goal

pub returns-clause-found : goal.returns-clause-found
returns-clause-found c =
    let (is, noise, a) = c.without_word-related.ensures.found in
    let (relation, related, b) = c.in_ok-relation.ensures.found in
    let (operand, compared, d) = c.in_ok-operand.ensures.found in (
      is ++ (relation ++ operand),
      record { is = is; relation = relation; operand = operand; noise = noise; related = related; compared = compared; words = refl },
      three_found (lexemes c.args.words.now) is (lexemes c.without_word-related.result.now) relation (lexemes c.in_ok-relation.compared.now) operand (lexemes c.in_ok-operand.more.now) a b d,
    )

pub returns-in_err-relation-clause-only : goal.returns-in_err-relation-clause-only
returns-in_err-relation-clause-only c = λ r s ws more it no_of no_bracket cut.
    let split = three_split (lexemes c.args.words.now) ws it.is it.relation it.operand more cut it.words in
    let a = c.without_word-related.ensures.only it.is (it.relation ++ (it.operand ++ more)) it.noise (relation_no_is r.opposite r.order it.relation (it.operand ++ more) it.related) split in
    absurd (c.in_err-relation.ensures.only r it.relation (it.operand ++ more) it.related (operand_fits s it.operand more it.compared) a)

pub returns-in_err-operand-clause-only : goal.returns-in_err-operand-clause-only
returns-in_err-operand-clause-only c = λ r s ws more it no_of no_bracket cut.
    let split = three_split (lexemes c.args.words.now) ws it.is it.relation it.operand more cut it.words in
    let a = c.without_word-related.ensures.only it.is (it.relation ++ (it.operand ++ more)) it.noise (relation_no_is r.opposite r.order it.relation (it.operand ++ more) it.related) split in
    let b = c.in_ok-relation.ensures.only r it.relation (it.operand ++ more) it.related (operand_fits s it.operand more it.compared) a in
    absurd (c.in_err-operand.ensures.only s it.operand more it.compared no_of no_bracket b.1)

pub returns-clause-only : goal.returns-clause-only
returns-clause-only c = λ r s ws more it no_of no_bracket cut.
    let split = three_split (lexemes c.args.words.now) ws it.is it.relation it.operand more cut it.words in
    let a = c.without_word-related.ensures.only it.is (it.relation ++ (it.operand ++ more)) it.noise (relation_no_is r.opposite r.order it.relation (it.operand ++ more) it.related) split in
    let b = c.in_ok-relation.ensures.only r it.relation (it.operand ++ more) it.related (operand_fits s it.operand more it.compared) a in
    let d = c.in_ok-operand.ensures.only s it.operand more it.compared no_of no_bracket b.1 in
    (b.0, d.0, d.1)
