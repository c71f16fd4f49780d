use Rattle.std.proofs.Common.{◌≡◌, List, ℕ, arith, ap, sym, subst, ◌∙◌}
use Rattle.cob_test_moves.specs.Choices.{AreChoices, rank_of}
use Rattle.cob_test_moves.proofs.Ranks.{chosen, ended, are_choices, ranked, chosen_again}
use Rattle.cob_test_moves.proofs.choices.choices_of.Goals as goal

pub returns-clause-found : goal.returns-clause-found
returns-clause-found c =
    let made : c.loop-size.choices.items ≡ chosen c.args.sizes.now c.args.rank
    = ended c.args.sizes.now c.loop-size.choices.items c.loop-size.size-index c.loop-size.left c.args.rank
    (omega (arith, c.loop-size-test.false)) c.loop-size.invariant.1 in
    let P : List ℕ → Type 0 = λ choices. AreChoices c.args.sizes.now choices in
    subst P (sym made) (are_choices c.args.sizes.now c.args.rank c.requires)

pub returns-clause-rank : goal.returns-clause-rank
returns-clause-rank c =
    let made : c.loop-size.choices.items ≡ chosen c.args.sizes.now c.args.rank
    = ended c.args.sizes.now c.loop-size.choices.items c.loop-size.size-index c.loop-size.left c.args.rank
    (omega (arith, c.loop-size-test.false)) c.loop-size.invariant.1 in
    ap (λ choices. rank_of c.args.sizes.now choices) made ∙ ranked c.args.sizes.now c.args.rank c.requires

pub returns-clause-only : goal.returns-clause-only
returns-clause-only c = λ choices are ranks.
    let made : c.loop-size.choices.items ≡ chosen c.args.sizes.now c.args.rank
    = ended c.args.sizes.now c.loop-size.choices.items c.loop-size.size-index c.loop-size.left c.args.rank
    (omega (arith, c.loop-size-test.false)) c.loop-size.invariant.1 in
    made ∙ ap (λ n. chosen c.args.sizes.now n) (sym ranks) ∙ chosen_again c.args.sizes.now choices are
