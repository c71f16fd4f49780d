use Rattle.std.proofs.Common.{◌≡◌, ◌∙◌, ℕ, ap, List}
use Rattle.std.proofs.lemmas.Result.{IfOk-weaker}
use Rattle.cob_copybook_entry.specs.Described.{plain_value}
use Rattle.std.specs.declared.cmp.Ordering.TheVariants.{Less}
use Rattle.cob_move_condition.specs.Conditions.{Both, Compares, Condition, Not, condition_of}
use Rattle.cob_move_data.specs.Moves.{Literal, Records, Sender}
use Rattle.cob_move_tests.specs.declared.entries.NamedEntry.{NamedEntry}
use Rattle.cob_move_tests.specs.Asked.{IsTestable, MayBeListed}
use Rattle.cob_move_tests.specs.Spans.{FromTo, within}
use Rattle.cob_move_tests.proofs.spans.between.Goals as goal

pub returns-clause-means : goal.returns-clause-means
returns-clause-means c =
    IfOk-weaker c.both.result (λ d. (entry : ℕ → Sender) → condition_of entry d ≡ Both (condition_of entry c.in_ok-not_less.not_less) (condition_of entry c.in_ok-not_greater.not_greater))
    (λ d. (entry : ℕ → Sender) → condition_of entry d ≡ within (entry c.args.number) (FromTo (Literal (plain_value c.args.from)) (Literal (plain_value c.args.to))))
    (λ d means entry. means entry
    ∙ ap (λ (x : Condition). Both x (condition_of entry c.in_ok-not_greater.not_greater)) (c.in_ok-not_less.ensures.means entry ∙ ap (λ (x : Condition). Not x) (c.compares.ensures.means entry))
    ∙ ap (λ (x : Condition). Both (Not (Compares (entry c.args.number) Less (Literal (plain_value c.args.from)))) x) (c.in_ok-not_greater.ensures.means entry ∙ ap (λ (x : Condition). Not x) (c.compares-2.ensures.means entry)))
    c.both.ensures.means

pub returns-clause-testable : goal.returns-clause-testable
returns-clause-testable c =
    IfOk-weaker c.both.result (λ d. (r : Records) (asked : List NamedEntry) → IsTestable r asked c.in_ok-not_less.not_less → IsTestable r asked c.in_ok-not_greater.not_greater → IsTestable r asked d)
    (λ d. (r : Records) (asked : List NamedEntry) → MayBeListed r asked c.args.number (plain_value c.args.from) → MayBeListed r asked c.args.number (plain_value c.args.to) → IsTestable r asked d)
    (λ d testable r asked first last. testable r asked (c.in_ok-not_less.ensures.testable r asked (c.compares.ensures.testable r asked first)) (c.in_ok-not_greater.ensures.testable r asked (c.compares-2.ensures.testable r asked last)))
    c.both.ensures.testable
