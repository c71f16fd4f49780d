-- A choice is held against one thing, and the words of a test mean one condition.
use Rattle.std.proofs.Common.{◌≡◌, ◌⊎◌, List, false, sym, ap, subst, ◌∙◌, inl, inr}
use Rattle.cob_source.specs.Tokens.{Lexeme}
use Rattle.cob_codec.specs.declared.reading.Reading.TheVariants.{Pictured}
use Rattle.cob_move_condition.specs.Conditions.{Condition}
use Rattle.cob_move_data.specs.declared.operands.Operand.{Operand}
use Rattle.cob_move_data.specs.declared.operands.Side.{Side}
use Rattle.cob_move_data.specs.Moves.{Entry, Records, Sender}
use Rattle.cob_move_loops.specs.Passages.{AnEvaluate, AnIf}
use Rattle.cob_move_loops.specs.Turns.{Counted, in_turn}
use Rattle.cob_move_names.specs.Laws.{OneNamed}
use Rattle.cob_move_names.specs.References.{NamesOperand}
use Rattle.cob_move_statements.specs.Written.{WrittenReference}
use Rattle.cob_move_statements.proofs.OneLemmas.{one_reference}
use Rattle.cob_move_tests.specs.Laws.{OneConditionOf}
use Rattle.cob_move_tests.specs.Spans.{Span, within}
use Rattle.cob_move_choices.specs.Choices.{AnEntry, IsEvaluated, IsListedTest, Truth, all_of}
use Rattle.cob_move_choices.specs.Laws.{OneBranchTest, OneSubject}
use Rattle.cob_move_choices.specs.Values.{IsSpanOf, WrittenSpan}
use Rattle.cob_move_choices.proofs.SpanLemmas.{one_span, one_span_of}

one_evaluated : OneNamed → (r : Records) (ns : List Counted) (ws : List Lexeme) (s t : Sender) → IsEvaluated r ns ws s → IsEvaluated r ns ws t → s ≡ t
one_evaluated law r ns ws s t (none, (w, side, o, is, names, e)) (none_too, (x, other, p, it, names_too, f)) =
    let same : w ≡ x = one_reference (in_turn ns false 0 ws) w x is.0 it.0 in
    let k : (side ≡ other) × (o ≡ p) = law (all_of r) x side other o p (subst (λ (z : WrittenReference). NamesOperand (all_of r) z side o) same names) names_too in
    e ∙ ap (λ (z : Side). Entry z Pictured o) k.0 ∙ ap (λ (z : Operand). Entry other Pictured z) k.1 ∙ sym f

pub one_subject_of : OneNamed → OneSubject
one_subject_of law r ns (AnIf line) a b e f = e ∙ sym f
one_subject_of law r ns (AnEvaluate line ws) a b (inl (is, e)) (inl (it, f)) = e ∙ sym f
one_subject_of law r ns (AnEvaluate line ws) a b (inl (is, e)) (inr (never, other)) = absurd (never is)
one_subject_of law r ns (AnEvaluate line ws) a b (inr (never, other)) (inl (is, e)) = absurd (never is)
one_subject_of law r ns (AnEvaluate line ws) a b (inr (never, (s, is, e))) (inr (none, (t, it, f))) =
    e ∙ ap (λ (z : Sender). AnEntry z) (one_evaluated law r ns ws s t is it) ∙ sym f

one_listed : OneNamed → (r : Records) (s : Sender) (ws : List Lexeme) (c d : Condition) → IsListedTest r s ws c → IsListedTest r s ws d → c ≡ d
one_listed law r s ws c d (w, v, spelled, is, may, e) (x, u, spelled_too, it, might, f) =
    let same : w ≡ x = one_span w x ws spelled spelled_too in
    let meant : v ≡ u = one_span_of law (all_of r) x v u (subst (λ (z : WrittenSpan). IsSpanOf (all_of r) z v) same is) it in
    e ∙ ap (λ (z : Span). within s z) meant ∙ sym f

pub one_test_of : OneConditionOf → OneNamed → OneBranchTest
one_test_of one law r values ns Truth ws c d h k = one r values (in_turn ns false 0 ws) c d h.1 k.1
one_test_of one law r values ns (AnEntry s) ws c d h k = one_listed law r s (in_turn ns false 0 ws) c d h.1 k.1
