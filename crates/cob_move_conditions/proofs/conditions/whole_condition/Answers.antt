use Rattle.std.proofs.Common.{◌≡◌, ◌≤◌, [], arith, length}
use Rattle.std.proofs.lemmas.Bool.Decides.{nat_tests}
use Rattle.std.proofs.lemmas.List.{length-map}
use Rattle.cob_source.specs.Tokens.{lexeme, lexemes}
use Rattle.cob_move_conditions.specs.Conditions.{most_condition_words}
use Rattle.cob_move_conditions.specs.Written.{written_condition}
use Rattle.cob_move_conditions.proofs.ConditionLemmas.{nothing_behind, whole_cut, whole_found}
use Rattle.cob_move_conditions.proofs.conditions.whole_condition.Goals as goal

pub returns-in_default-clause-only : goal.returns-in_default-clause-only
returns-in_default-clause-only c = λ d is.
    let read = c.in_ok-condition.ensures.only d (lexemes c.args.words.now) [] is.is (tt, tt, tt) (whole_cut (lexemes c.args.words.now)) in
    absurd (rw c.in_default.is at read)

pub returns-then-not-is_empty-clause-only : goal.returns-then-not-is_empty-clause-only
returns-then-not-is_empty-clause-only c = λ d is.
    let read = c.in_ok-condition.ensures.only d (lexemes c.args.words.now) [] is.is (tt, tt, tt) (whole_cut (lexemes c.args.words.now)) in
    let same = rw c.in-Some.is at read in
    let none = nothing_behind (lexemes c.in-Some.more.now) same.1 in
    let all = length-map c.in-Some.more.now lexeme in
    let gone : length c.in-Some.more.now ≡ 0 = omega (arith, none, all) in
    grind (arith, nat_tests)

pub returns-clause-found : goal.returns-clause-found
returns-clause-found c =
    let found = rw c.in-Some.is at c.in_ok-condition.ensures.found in
    let all = length-map c.in-Some.more.now lexeme in
    let words = length-map c.args.words.now lexeme in
    let gone : length c.in-Some.more.now ≡ 0 = grind (arith, nat_tests) in
    let few : length c.args.words.now ≤ most_condition_words = grind (arith, nat_tests) in
    whole_found (written_condition c.in-Some.condition) (lexemes c.args.words.now) (lexemes c.in-Some.more.now) found (omega (arith, all, gone)) (omega (arith, words, few))

pub returns-clause-only : goal.returns-clause-only
returns-clause-only c = λ d is.
    let read = c.in_ok-condition.ensures.only d (lexemes c.args.words.now) [] is.is (tt, tt, tt) (whole_cut (lexemes c.args.words.now)) in
    let same = rw c.in-Some.is at read in
    same.0
