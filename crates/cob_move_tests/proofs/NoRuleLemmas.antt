-- Words that mean a condition break no rule.
use Rattle.std.proofs.Common.{◌≡◌, Bool, true, false, List, [], ◌∷◌, ap, subst, ◌∙◌, inl, inr, Some}
use Rattle.cob_copybook_clauses.specs.Written.{WrittenValue}
use Rattle.cob_copybook_entry.specs.Described.{PlainValue}
use Rattle.cob_copybook_entries.proofs.NoRule.{no_constant, no_value}
use Rattle.cob_copybook_entries.specs.Meaning.{IsConstantOf}
use Rattle.cob_copybook_names.specs.Naming.{Bearer}
use Rattle.cob_move_condition.specs.Comparable.{may_compare}
use Rattle.cob_move_condition.specs.Conditions.{Condition}
use Rattle.cob_move_conditions.specs.declared.phrases.Quality.{Quality}
use Rattle.cob_move_conditions.specs.declared.relations.Relation.{Relation}
use Rattle.cob_move_conditions.specs.Laws.{OneWrittenCondition}
use Rattle.cob_move_conditions.specs.Written.{BehindNot, Has, InBrackets, Relates, RelatesTo, Simple, StandsAlone, WithAnd, WithOr, WrittenCondition, WrittenTest}
use Rattle.cob_move_data.specs.declared.operands.Operand.{Operand}
use Rattle.cob_move_data.specs.declared.operands.Side.{Side}
use Rattle.cob_move_data.specs.Moves.{Records, Sender, record_of}
use Rattle.cob_move_names.specs.Candidates.{Candidate, all_entries}
use Rattle.cob_move_names.specs.Laws.{NamedBreakNoRule, OneNamed, OneValued, ValuedBreakNoRule}
use Rattle.cob_move_names.specs.Senders.{BreaksSender, BreaksSentConstant, IsSenderOf, kind_of_sender}
use Rattle.cob_move_names.specs.Valued.{ValuedEntry}
use Rattle.cob_move_names.specs.Values.{ValuedOperand}
use Rattle.cob_move_statements.specs.declared.fault.MoveRule.{MoveRule}
use Rattle.cob_move_statements.specs.declared.fault.MoveRule.TheVariants as rule
use Rattle.cob_move_statements.specs.Written.{SentConstant, SentReference, WrittenReference, WrittenSender}
use Rattle.cob_move_tests.specs.Broken.{BreaksAloneBy, BreaksWrittenCondition, BreaksLastRelation, BreaksNameOf, BreaksNamed, BreaksOperand, BreaksQuality, BreaksRelation, BreaksTest}
use Rattle.cob_move_tests.specs.Laws.{ConditionsBreakNoRule}
use Rattle.cob_move_tests.specs.Meant.{HasQuality, IsAlone, IsLastRelation, IsMeantBy, IsNameOf, IsOperandOf, IsRelationOf, IsTestOf, NamesCondition, NoneStated, Stated, StatedAs, conditions_named}
use Rattle.cob_move_tests.specs.Qualities.{may_have}
use Rattle.cob_move_tests.specs.Spans.{MayHold}
use Rattle.cob_move_tests.proofs.OneLemmas.{one_meant, one_named_condition, one_operand}

both : (t : Bool) → t ≡ true → t ≡ false → ⊥
both t x y = cc

no_sent_constant : (r : MoveRule) (w : WrittenValue) (c : PlainValue) → IsConstantOf w c → BreaksSentConstant r w → ⊥
no_sent_constant rule.Grammar w c is b = no_constant (Some w) (Some c) is b
no_sent_constant rule.Literal w c is b = no_value (Some w) (Some c) is b
no_sent_constant r w c is b = b

no_sender : NamedBreakNoRule → (r : MoveRule) (all : List Candidate) (w : WrittenSender) (s : Sender) → IsSenderOf all w s → BreaksSender r all w → ⊥
no_sender law r all (SentReference w) s (side, o, names, e) b = law all w side o r names b
no_sender law r all (SentConstant w) s (c, is, e) b = no_sent_constant r w c is b

pub no_operand : NamedBreakNoRule → (r : MoveRule) (all : List Candidate) (w : WrittenSender) (s : Sender) → IsOperandOf all w s → BreaksOperand r all w → ⊥
no_operand law r all w s is (inl b) = no_sender law r all w s is.0 b
no_operand law r all w s is (inr b) = b.1 is.1

no_relation : OneNamed → NamedBreakNoRule → (r : MoveRule) (all : List Candidate) (a : Sender) (q : Relation) (w : WrittenSender) (c : Condition) → IsRelationOf all a q w c → BreaksRelation r all a w → ⊥
no_relation one law r all a q w c (b, is, may, e) (inl broken) = no_operand law r all w b is broken
no_relation one law r all a q w c (b, is, may, e) (inr (same, (x, it, lacks))) =
    both (may_compare (kind_of_sender a) (kind_of_sender x)) (ap (λ (s : Sender). may_compare (kind_of_sender a) (kind_of_sender s)) (one_operand one all w x b it is) ∙ may) lacks

no_quality : OneNamed → NamedBreakNoRule → (rule : MoveRule) (all : List Candidate) (r : Records) (w : WrittenReference) (opposite : Bool) (q : Quality) (c : Condition)
    → HasQuality all r w opposite q c → BreaksQuality rule all r w q → ⊥
no_quality one law rule all r w opposite q c (side, o, names, (may, e)) (inl broken) = law all w side o rule names broken
no_quality one law rule all r w opposite q c (side, o, names, (may, e)) (inr (same, (other, p, names_too, lacks))) =
    let k : (other ≡ side) × (p ≡ o) = one all w other side p o names_too names in
    both (may_have (record_of r other) q p)
    (ap (λ (x : Side). may_have (record_of r x) q p) k.0 ∙ ap (λ (x : Operand). may_have (record_of r side) q x) k.1 ∙ may) lacks

no_last : OneNamed → NamedBreakNoRule → (rule : MoveRule) (all : List Candidate) (v : WrittenSender) (s : Stated) (c : Condition) (next : Stated) → IsLastRelation all v s c next → BreaksLastRelation rule all v s → ⊥
no_last one law rule all v NoneStated c next is broken = is
no_last one law rule all v (StatedAs a last) c next (relates, e) broken = no_relation one law rule all a last v c relates broken

no_named : ValuedBreakNoRule → (rule : MoveRule) (all : List Candidate) (values : List (Bearer ValuedEntry)) (w : WrittenSender) (v : ValuedOperand) → NamesCondition all values w v → BreaksNamed rule all values w → ⊥
no_named keeps rule all values (SentReference w) v names broken = keeps all values w v rule names broken
no_named keeps rule all values (SentConstant w) v names broken = names

no_name : OneValued → ValuedBreakNoRule → (rule : MoveRule) (all : List Candidate) (values : List (Bearer ValuedEntry)) (w : WrittenSender) (c : Condition) → IsNameOf all values w c → BreaksNameOf rule all values w → ⊥
no_name valued keeps rule all values w c (v, names, may, e) (inl broken) = no_named keeps rule all values w v names broken
no_name valued keeps rule all values w c (v, names, may, e) (inr (same, (u, names_too, lacks))) = lacks (subst MayHold (one_named_condition valued all values w v u names names_too) may)

no_alone : OneNamed → NamedBreakNoRule → OneValued → ValuedBreakNoRule → (bs : List (Bearer ValuedEntry)) (rule : MoveRule) (all : List Candidate) (values : List (Bearer ValuedEntry)) (v : WrittenSender) (s : Stated) (c : Condition) (next : Stated)
    → IsAlone bs all values v s c next → BreaksAloneBy bs rule all values v s → ⊥
no_alone one law valued keeps [] rule all values v s c next is broken = no_last one law rule all v s c next is broken
no_alone one law valued keeps (b ∷ bs) rule all values v s c next (is, e) broken = no_name valued keeps rule all values v c is broken

no_test : OneNamed → NamedBreakNoRule → OneValued → ValuedBreakNoRule → (rule : MoveRule) (all : List Candidate) (values : List (Bearer ValuedEntry)) (r : Records) (t : WrittenTest) (s : Stated) (c : Condition) (next : Stated)
    → IsTestOf all values r t s c next → BreaksTest rule all values r t s → ⊥
no_test one law valued keeps rule all values r (Relates w q v) s c next (a, is, (relates, e)) (inl broken) = no_operand law rule all w a is broken
no_test one law valued keeps rule all values r (Relates w q v) s c next (a, is, (relates, e)) (inr (b, it, broken)) =
    no_relation one law rule all a q v c relates (subst (λ (x : Sender). BreaksRelation rule all x v) (one_operand one all w b a it is) broken)
no_test one law valued keeps rule all values r (RelatesTo q v) NoneStated c next is broken = is
no_test one law valued keeps rule all values r (RelatesTo q v) (StatedAs a last) c next (relates, e) broken = no_relation one law rule all a q v c relates broken
no_test one law valued keeps rule all values r (StandsAlone v) s c next is broken = no_alone one law valued keeps (conditions_named values v) rule all values v s c next is broken
no_test one law valued keeps rule all values r (Has w opposite q) s c next (has, e) broken = no_quality one law rule all r w opposite q c has broken

no_condition : OneNamed → NamedBreakNoRule → OneValued → ValuedBreakNoRule → (rule : MoveRule) (all : List Candidate) (values : List (Bearer ValuedEntry)) (r : Records) (w : WrittenCondition) (s : Stated) (c : Condition) (next : Stated)
    → IsMeantBy all values r w s c next → BreaksWrittenCondition rule all values r w s → ⊥
no_condition one law valued keeps rule all values r (Simple t) s c next is broken = no_test one law valued keeps rule all values r t s c next is broken
no_condition one law valued keeps rule all values r (InBrackets w) s c next (last, is, e) broken = no_condition one law valued keeps rule all values r w NoneStated c last is broken
no_condition one law valued keeps rule all values r (BehindNot w) s c next (x, is, e) broken = no_condition one law valued keeps rule all values r w s x next is broken
no_condition one law valued keeps rule all values r (WithAnd v w) s c next (x, y, mid, h, k, e) (inl broken) = no_condition one law valued keeps rule all values r v s x mid h broken
no_condition one law valued keeps rule all values r (WithAnd v w) s c next (x, y, mid, h, k, e) (inr (z, other, i, broken)) =
    no_condition one law valued keeps rule all values r w mid y next k (subst (λ (t : Stated). BreaksWrittenCondition rule all values r w t) ((one_meant one valued all values r v s z x other mid i h).1) broken)
no_condition one law valued keeps rule all values r (WithOr v w) s c next (x, y, mid, h, k, e) (inl broken) = no_condition one law valued keeps rule all values r v s x mid h broken
no_condition one law valued keeps rule all values r (WithOr v w) s c next (x, y, mid, h, k, e) (inr (z, other, i, broken)) =
    no_condition one law valued keeps rule all values r w mid y next k (subst (λ (t : Stated). BreaksWrittenCondition rule all values r w t) ((one_meant one valued all values r v s z x other mid i h).1) broken)

pub no_rule : OneWrittenCondition → OneNamed → NamedBreakNoRule → OneValued → ValuedBreakNoRule → ConditionsBreakNoRule
no_rule spelled one law valued keeps rule r values ws c h (inl (same, none)) = none h.written h.spelled
no_rule spelled one law valued keeps rule r values ws c h (inr (w, is, broken)) =
    let all : List Candidate = all_entries r.input r.output in
    no_condition one law valued keeps rule all values r h.written NoneStated c h.last h.meant
    (subst (λ (x : WrittenCondition). BreaksWrittenCondition rule all values r x NoneStated) (spelled ws w h.written is h.spelled) broken)
