use Rattle.std.proofs.Common.{◌≡◌, List, ◌++◌, sym, ap, subst, ◌∙◌, true, false}
use Rattle.cob_source.specs.Tokens.{Lexeme, lexemes}
use Rattle.cob_move_loops.specs.Passages.{Branched}
use Rattle.cob_move_loops.specs.Reading.{written_test}
use Rattle.cob_move_loops.specs.Words.{NoHeadWord}
use Rattle.cob_move_loops.proofs.ChoiceLemmas.{ends_parted, ends_same}
use Rattle.cob_move_loops.proofs.choice.branch_at.Goals as goal

pub branch_ends-requires : goal.branch_ends-requires
branch_ends-requires c = let (closed, first, e) = c.in_ok-body.ensures.found in first

pub returns-in_err-test-clause-only : goal.returns-in_err-test-clause-only
returns-in_err-test-clause-only c = λ t own more (head, h, b, e). absurd (c.in_err-test.ensures.only t head (own ++ more) h b.begins e)

pub returns-then-not-has_no_head_word-clause-only : goal.returns-then-not-has_no_head_word-clause-only
returns-then-not-has_no_head_word-clause-only c = λ t own more (head, h, b, e).
    let first = c.in_ok-test.ensures.only t head (own ++ more) h b.begins e in
    let yes = c.has_no_head_word.ensures.1 (subst NoHeadWord (sym first.1) b.begins) in
    absurd (let never : false ≡ true = sym c.if-not-has_no_head_word.true ∙ yes in cc)

pub returns-in_err-body-clause-only : goal.returns-in_err-body-clause-only
returns-in_err-body-clause-only c = λ t own more (head, h, b, e).
    let first = c.in_ok-test.ensures.only t head (own ++ more) h b.begins e in
    absurd (c.in_err-body.ensures.only own more (b.closed, ends_parted c.args.kind t own more b.ends, first.1))

pub returns-then-not-branch_ends-clause-only : goal.returns-then-not-branch_ends-clause-only
returns-then-not-branch_ends-clause-only c = λ t own more (head, h, b, e).
    let first = c.in_ok-test.ensures.only t head (own ++ more) h b.begins e in
    let second = c.in_ok-body.ensures.only own more (b.closed, ends_parted c.args.kind t own more b.ends, first.1) in
    let yes = c.branch_ends.ensures.1 (ends_same c.args.kind (written_test c.in_ok-test.test) t (lexemes c.in_ok-body.body.now) own (lexemes c.in_ok-body.more.now) more first.0 second.0 second.1 b.ends) in
    absurd (let never : false ≡ true = sym c.if-not-branch_ends.true ∙ yes in cc)

pub returns-clause-found : goal.returns-clause-found
returns-clause-found c =
    let (head, h, e) = c.in_ok-test.ensures.found in
    let (closed, first, f) = c.in_ok-body.ensures.found in (
      head,
      h,
      record {
        begins = subst NoHeadWord f (c.has_no_head_word.ensures.0 c.if-not-has_no_head_word.false);
        closed = closed;
        ends = c.branch_ends.ensures.0 c.if-not-branch_ends.false;
      },
      e ∙ ap (λ (t : List Lexeme). head ++ t) f,
    )

pub returns-clause-only : goal.returns-clause-only
returns-clause-only c = λ t own more (head, h, b, e).
    let first = c.in_ok-test.ensures.only t head (own ++ more) h b.begins e in
    let second = c.in_ok-body.ensures.only own more (b.closed, ends_parted c.args.kind t own more b.ends, first.1) in
    (λ i. Branched (first.0 i) (second.0 i), second.1)
