use Rattle.std.proofs.Common.{◌≡◌, ◌∙◌, ◌++◌, [], ◌∷◌, List, ap, subst, sym, inr}
use Rattle.std.proofs.lemmas.List.{map-append}
use Rattle.cob_source.specs.Tokens.{lexemes}
use Rattle.cob_move_statements.specs.Written.{WrittenStatement, written_statements, written_statement}
use Rattle.cob_move_statements.proofs.ParagraphLemmas.{ReadSoFar, all_found, all_only, kept_begins, kept_goes, line_in, none_left, none_more, shorter, some_left}
use Rattle.cob_move_statements.proofs.paragraph.ended_statements.Goals as goal

pub loop-rest-init : goal.loop-rest-init
loop-rest-init c = kept_begins (lexemes c.args.words.now) (written_statements c.new-statements.result.items) (ap written_statements c.new-statements.ensures.items)

pub loop-rest-preserved : goal.loop-rest-preserved
loop-rest-preserved c =
    let is = rw c.in-Some.is at c.in_ok-statement.ensures.found in
    let items : written_statements c.push.new.self.items ≡ written_statements c.loop-rest.statements.items ++ written_statement c.in-Some.statement ∷ [] =
    ap written_statements c.in_ok-push.ensures.items ∙ map-append written_statement c.loop-rest.statements.items (c.in-Some.statement ∷ []) in
    subst (λ (ds : List WrittenStatement). ReadSoFar (lexemes c.args.words.now) (lexemes c.in-Some.more.now) ds) (sym items)
    (kept_goes (lexemes c.args.words.now) (lexemes c.loop-rest.rest.now) (lexemes c.in-Some.more.now) (written_statements c.loop-rest.statements.items) (written_statement c.in-Some.statement) c.loop-rest.invariant is
    (λ x m it. let read = c.in_ok-statement.ensures.only x m it in rw c.in-Some.is at read))

pub loop-rest-smaller : goal.loop-rest-smaller
loop-rest-smaller c =
    let is = rw c.in-Some.is at c.in_ok-statement.ensures.found in
    shorter (written_statement c.in-Some.statement) (lexemes c.loop-rest.rest.now) (lexemes c.in-Some.more.now) is

pub returns-in_default-clause-fault : goal.returns-in_default-clause-fault
returns-in_default-clause-fault c =
    inr (
      c.ungrammatical.ensures.rule,
      none_more (lexemes c.args.words.now) (lexemes c.loop-rest.rest.now) (written_statements c.loop-rest.statements.items) c.loop-rest.invariant.so_far
          (some_left c.loop-rest.rest.now c.is_empty.result c.is_empty.ensures c.loop-rest-test.true)
          (λ u more is. let never = c.in_ok-statement.ensures.only u more is in rw c.in_default.is at never),
    )

pub returns-in_default-clause-line : goal.returns-in_default-clause-line
returns-in_default-clause-line c =
    line_in c.ungrammatical.result.rule c.ungrammatical.result.line (lexemes c.args.words.now) c.ungrammatical.ensures.rule
    (record {
      before = written_statements c.loop-rest.statements.items;
      rest = lexemes c.loop-rest.rest.now;
      stand = c.loop-rest.invariant.stand;
      none = λ u more is. let never = c.in_ok-statement.ensures.only u more is in rw c.in_default.is at never;
      line_is = c.ungrammatical.ensures.line;
    })

pub returns-clause-found : goal.returns-clause-found
returns-clause-found c = all_found (lexemes c.args.words.now) (lexemes c.loop-rest.rest.now) (written_statements c.loop-rest.statements.items) c.loop-rest.invariant.so_far (none_left c.loop-rest.rest.now c.is_empty.result c.is_empty.ensures c.loop-rest-test.false)

pub returns-clause-only : goal.returns-clause-only
returns-clause-only c = all_only (lexemes c.args.words.now) (lexemes c.loop-rest.rest.now) (written_statements c.loop-rest.statements.items) c.loop-rest.invariant.so_far (none_left c.loop-rest.rest.now c.is_empty.result c.is_empty.ensures c.loop-rest-test.false)
