-- Words that mean something to a choice break no rule.
use Rattle.std.proofs.Common.{◌≡◌, ◌⊎◌, List, true, false, refl, sym, subst, ◌∙◌, inl, inr}
use Rattle.cob_source.specs.Tokens.{Lexeme}
use Rattle.cob_copybook_clauses.specs.Written.{WrittenValue}
use Rattle.cob_move_condition.specs.Comparable.{may_compare}
use Rattle.cob_move_condition.specs.Conditions.{Condition}
use Rattle.cob_move_data.specs.Moves.{Records, Sender}
use Rattle.cob_move_loops.specs.Passages.{AnEvaluate, AnIf}
use Rattle.cob_move_loops.specs.Turns.{Counted, in_turn}
use Rattle.cob_move_names.specs.Laws.{NamedBreakNoRule, OneNamed}
use Rattle.cob_move_names.specs.References.{BreaksReference}
use Rattle.cob_move_names.specs.Senders.{kind_of_sender}
use Rattle.cob_move_statements.specs.declared.fault.MoveRule.{MoveRule}
use Rattle.cob_move_statements.specs.Written.{SentConstant, WrittenReference}
use Rattle.cob_move_statements.proofs.OneLemmas.{one_reference}
use Rattle.cob_move_tests.specs.Laws.{ConditionsBreakNoRule}
use Rattle.cob_move_tests.specs.Meant.{IsOperandOf}
use Rattle.cob_move_tests.specs.Spans.{FromTo, MayBeWithin, One, Span}
use Rattle.cob_move_tests.proofs.NoRuleLemmas.{no_operand}
use Rattle.cob_move_choices.specs.Choices.{AnEntry, BreaksEvaluated, BreaksListed, BreaksListedValue, BreaksSpan, IsEvaluated, IsListedTest, Truth, all_of}
use Rattle.cob_move_choices.specs.Laws.{BranchTestsBreakNoRule, SubjectsBreakNoRule}
use Rattle.cob_move_choices.specs.Values.{FromToWritten, IsSpanOf, OneWritten, WrittenSpan}
use Rattle.cob_move_choices.proofs.SpanLemmas.{one_span, one_span_of}

no_evaluated : NamedBreakNoRule → (r : MoveRule) (records : Records) (ns : List Counted) (ws : List Lexeme) (s : Sender) → IsEvaluated records ns ws s → BreaksEvaluated r records ns ws → ⊥
no_evaluated law r records ns ws s (none, (w, side, o, is, names, e)) (inl (same, some)) = some none
no_evaluated law r records ns ws s (none, (w, side, o, is, names, e)) (inr (inl (same, never))) = never w is
no_evaluated law r records ns ws s (none, (w, side, o, is, names, e)) (inr (inr (x, it, broken))) =
    law (all_of records) w side o r names
    (subst (λ (z : WrittenReference). BreaksReference r (all_of records) z) (one_reference (in_turn ns false 0 ws) x w it.0 is.0) broken)

pub no_subject : NamedBreakNoRule → SubjectsBreakNoRule
no_subject law r records ns (AnIf line) a is broken = broken
no_subject law r records ns (AnEvaluate line ws) a (inl (is, e)) broken = broken.0 is
no_subject law r records ns (AnEvaluate line ws) a (inr (other, (s, is, e))) broken = no_evaluated law r records ns ws s is broken.1

no_value : OneNamed → NamedBreakNoRule → (r : MoveRule) (records : Records) (s : Sender) (v : WrittenValue) (a : Sender) → IsOperandOf (all_of records) (SentConstant v) a
    → may_compare (kind_of_sender s) (kind_of_sender a) ≡ true → BreaksListedValue r records s v → ⊥
no_value one law r records s v a is may (inl broken) = no_operand law r (all_of records) (SentConstant v) a is broken
no_value one law r records s v a is may (inr (same, (x, it, never))) =
    let meant : x ≡ One a = one_span_of one (all_of records) (OneWritten v) x (One a) it (a, is, refl) in
    never (subst (λ (z : Span). MayBeWithin s z) (sym meant) may)

no_span : OneNamed → NamedBreakNoRule → (r : MoveRule) (records : Records) (s : Sender) (w : WrittenSpan) (v : Span) → IsSpanOf (all_of records) w v → MayBeWithin s v
    → BreaksSpan r records s w → ⊥
no_span one law r records s (OneWritten x) v (a, is, e) may broken =
    let may_too : MayBeWithin s (One a) = subst (λ (z : Span). MayBeWithin s z) e may in
    no_value one law r records s x a is may_too broken
no_span one law r records s (FromToWritten x y) v (a, b, is, last, e) may (inl broken) =
    let may_too : MayBeWithin s (FromTo a b) = subst (λ (z : Span). MayBeWithin s z) e may in
    no_value one law r records s x a is may_too.0 broken
no_span one law r records s (FromToWritten x y) v (a, b, is, last, e) may (inr broken) =
    let may_too : MayBeWithin s (FromTo a b) = subst (λ (z : Span). MayBeWithin s z) e may in
    no_value one law r records s y b last may_too.1 broken

no_listed : OneNamed → NamedBreakNoRule → (r : MoveRule) (records : Records) (s : Sender) (ws : List Lexeme) (c : Condition) → IsListedTest records s ws c → BreaksListed r records s ws → ⊥
no_listed one law r records s ws c (w, v, spelled, is, may, e) (inl (same, none)) = none w spelled
no_listed one law r records s ws c (w, v, spelled, is, may, e) (inr (x, it, broken)) =
    no_span one law r records s w v is may (subst (λ (z : WrittenSpan). BreaksSpan r records s z) (one_span x w ws it spelled) broken)

pub no_test : ConditionsBreakNoRule → OneNamed → NamedBreakNoRule → BranchTestsBreakNoRule
no_test none one law r records values ns Truth ws c h (inl (same, some)) = some h.0
no_test none one law r records values ns Truth ws c h (inr (without, broken)) = none r records values (in_turn ns false 0 ws) c h.1 broken
no_test none one law r records values ns (AnEntry s) ws c h (inl (same, some)) = some h.0
no_test none one law r records values ns (AnEntry s) ws c h (inr (without, broken)) = no_listed one law r records s (in_turn ns false 0 ws) c h.1 broken
