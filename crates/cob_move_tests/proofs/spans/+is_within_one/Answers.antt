use Rattle.std.proofs.Common.{◌≡◌, ◌∷◌, List, ap, map, subst}
use Rattle.std.specs.List.{AllByRecursion}
use Rattle.std.proofs.lemmas.Result.{IfOk-weaker}
use Rattle.cob_copybook_conditions.specs.Names.{PlainSpan, plain_span}
use Rattle.cob_move_data.specs.Moves.{Records}
use Rattle.cob_move_receive.specs.Table.{Entry}
use Rattle.cob_move_tests.specs.declared.entries.NamedEntry.{NamedEntry}
use Rattle.cob_move_tests.specs.Asked.{IsTestable, MayBeValued, kind_named}
use Rattle.cob_move_tests.specs.Spans.{MayBeWithinBy, constants}
use Rattle.cob_move_tests.proofs.spans.+is_within_one.Goals as goal

pub returns-in_default-clause-testable : goal.returns-in_default-clause-testable
returns-in_default-clause-testable t c = λ r asked may. (let (there, all) = may in c.in_ok-own.ensures.testable r asked (there, all.0))

pub returns-clause-testable : goal.returns-clause-testable
returns-clause-testable t c =
    let n = c.args.number in
    let same : map plain_span c.args.more.now ≡ plain_span c.in-Some.next.now ∷ map plain_span c.in-Some.others.now = ap (map plain_span) c.in-Some.ensures.cases.0 in
    IfOk-weaker c.either.result (λ d. (r : Records) (asked : List NamedEntry) → IsTestable r asked c.in_ok-own.own → IsTestable r asked c.in_ok-rest.rest → IsTestable r asked d)
    (λ d. (r : Records) (asked : List NamedEntry) → MayBeValued r asked n (plain_span c.args.first.now) (map plain_span c.args.more.now) → IsTestable r asked d)
    (λ d testable r asked may. (let (there, all) = may in
    testable r asked (c.in_ok-own.ensures.testable r asked (there, all.0))
    (c.in_ok-rest.ensures.testable r asked (there, subst (λ (vs : List PlainSpan). AllByRecursion (λ v. MayBeWithinBy (Entry (kind_named r asked n)) (constants v)) vs) same all.1))))
    c.either.ensures.testable
