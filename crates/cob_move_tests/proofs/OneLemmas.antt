-- Words mean one condition.
use Rattle.std.proofs.Common.{◌≡◌, Bool, List, [], ◌∷◌, sym, ap, subst, ◌∙◌}
use Rattle.cob_codec.specs.declared.reading.Reading.TheVariants.{Pictured}
use Rattle.cob_copybook_entry.specs.Described.{PlainValue}
use Rattle.cob_copybook_entries.proofs.OneList.{one_constant}
use Rattle.cob_copybook_names.specs.Naming.{Bearer}
use Rattle.cob_move_condition.specs.Conditions.{Both, Condition, Either, Not}
use Rattle.cob_move_conditions.specs.declared.phrases.Quality.{Quality}
use Rattle.cob_move_conditions.specs.declared.relations.Relation.{Relation}
use Rattle.cob_move_conditions.specs.Laws.{OneWrittenCondition}
use Rattle.cob_move_conditions.specs.Written.{BehindNot, Has, InBrackets, Relates, RelatesTo, Simple, StandsAlone, WithAnd, WithOr, WrittenCondition, WrittenTest}
use Rattle.cob_move_data.specs.declared.operands.Operand.{Operand}
use Rattle.cob_move_data.specs.declared.operands.Side.{Side}
use Rattle.cob_move_data.specs.Moves.{Entry, Literal, Records, Sender}
use Rattle.cob_move_names.specs.Candidates.{Candidate, all_entries}
use Rattle.cob_move_names.specs.Laws.{OneNamed, OneValued}
use Rattle.cob_move_names.specs.Senders.{IsSenderOf}
use Rattle.cob_move_names.specs.Valued.{ValuedEntry}
use Rattle.cob_move_names.specs.Values.{ValuedOperand}
use Rattle.cob_move_statements.specs.Written.{SentConstant, SentReference, WrittenReference, WrittenSender}
use Rattle.cob_move_tests.specs.Laws.{OneConditionOf}
use Rattle.cob_move_tests.specs.Meant.{HasQuality, IsAlone, IsLastRelation, IsMeantBy, IsNameOf, IsOperandOf, IsRelationOf, IsTestOf, NamesCondition, NoneStated, Stated, StatedAs, conditions_named, opposite_if, quality_asked, related}
use Rattle.cob_move_tests.specs.Spans.{holds}

pub one_sender : OneNamed → (all : List Candidate) (s : WrittenSender) (m n : Sender) → IsSenderOf all s m → IsSenderOf all s n → m ≡ n
one_sender law all (SentReference r) m n (s, o, h, e) (t, p, k, f) =
    let same : (s ≡ t) × (o ≡ p) = law all r s t o p h k in
    e ∙ ap (λ (x : Side). Entry x Pictured o) same.0 ∙ ap (λ (x : Operand). Entry t Pictured x) same.1 ∙ sym f
one_sender law all (SentConstant w) m n (c, h, e) (d, k, f) = e ∙ ap (λ (x : PlainValue). Literal x) (one_constant w c d h k) ∙ sym f

pub one_operand : OneNamed → (all : List Candidate) (w : WrittenSender) (a b : Sender) → IsOperandOf all w a → IsOperandOf all w b → a ≡ b
one_operand law all w a b h k = one_sender law all w a b h.0 k.0

one_relation : OneNamed → (all : List Candidate) (a : Sender) (q : Relation) (w : WrittenSender) (c d : Condition) → IsRelationOf all a q w c → IsRelationOf all a q w d → c ≡ d
one_relation law all a q w c d (b, is, may, e) (x, it, might, f) = e ∙ ap (λ (s : Sender). related a q s) (one_operand law all w b x is it) ∙ sym f

one_quality : OneNamed → (all : List Candidate) (r : Records) (w : WrittenReference) (opposite : Bool) (q : Quality) (c d : Condition) → HasQuality all r w opposite q c → HasQuality all r w opposite q d → c ≡ d
one_quality law all r w opposite q c d (side, o, names, (may, e)) (other, p, names_too, (might, f)) =
    let same : (side ≡ other) × (o ≡ p) = law all w side other o p names names_too in
    e ∙ ap (λ (x : Side). opposite_if opposite (quality_asked q (Entry x Pictured o))) same.0
    ∙ ap (λ (x : Operand). opposite_if opposite (quality_asked q (Entry other Pictured x))) same.1 ∙ sym f

one_last : OneNamed → (all : List Candidate) (v : WrittenSender) (s : Stated) (c d : Condition) (m n : Stated) → IsLastRelation all v s c m → IsLastRelation all v s d n → (c ≡ d) × (m ≡ n)
one_last law all v NoneStated c d m n h k = absurd h
one_last law all v (StatedAs a last) c d m n (relates, e) (relates_too, f) = (one_relation law all a last v c d relates relates_too, e ∙ sym f)

pub one_named_condition : OneValued → (all : List Candidate) (values : List (Bearer ValuedEntry)) (w : WrittenSender) (u v : ValuedOperand) → NamesCondition all values w u → NamesCondition all values w v → u ≡ v
one_named_condition valued all values (SentReference w) u v h k = valued all values w u v h k
one_named_condition valued all values (SentConstant w) u v h k = absurd h

one_name : OneValued → (all : List Candidate) (values : List (Bearer ValuedEntry)) (w : WrittenSender) (c d : Condition) → IsNameOf all values w c → IsNameOf all values w d → c ≡ d
one_name valued all values w c d (u, names, may, e) (v, names_too, might, f) = e ∙ ap holds (one_named_condition valued all values w u v names names_too) ∙ sym f

one_alone : OneNamed → OneValued → (bs : List (Bearer ValuedEntry)) (all : List Candidate) (values : List (Bearer ValuedEntry)) (v : WrittenSender) (s : Stated) (c d : Condition) (m n : Stated)
    → IsAlone bs all values v s c m → IsAlone bs all values v s d n → (c ≡ d) × (m ≡ n)
one_alone law valued [] all values v s c d m n h k = one_last law all v s c d m n h k
one_alone law valued (b ∷ bs) all values v s c d m n (is, e) (it, f) = (one_name valued all values v c d is it, e ∙ sym f)

one_test : OneNamed → OneValued → (all : List Candidate) (values : List (Bearer ValuedEntry)) (r : Records) (t : WrittenTest) (s : Stated) (c d : Condition) (m n : Stated) → IsTestOf all values r t s c m → IsTestOf all values r t s d n → (c ≡ d) × (m ≡ n)
one_test law valued all values r (Relates w q v) s c d m n (a, is, (relates, e)) (b, it, (relates_too, f)) =
    let same : a ≡ b = one_operand law all w a b is it in
    (one_relation law all b q v c d (subst (λ (x : Sender). IsRelationOf all x q v c) same relates) relates_too, e ∙ ap (λ (x : Sender). StatedAs x q) same ∙ sym f)
one_test law valued all values r (RelatesTo q v) NoneStated c d m n h k = absurd h
one_test law valued all values r (RelatesTo q v) (StatedAs a last) c d m n (relates, e) (relates_too, f) = (one_relation law all a q v c d relates relates_too, e ∙ sym f)
one_test law valued all values r (StandsAlone v) s c d m n h k = one_alone law valued (conditions_named values v) all values v s c d m n h k
one_test law valued all values r (Has w opposite q) s c d m n (has, e) (has_too, f) = (one_quality law all r w opposite q c d has has_too, e ∙ sym f)

-- a written condition means one thing behind what was stated, and states one
pub one_meant : OneNamed → OneValued → (all : List Candidate) (values : List (Bearer ValuedEntry)) (r : Records) (w : WrittenCondition) (s : Stated) (c d : Condition) (m n : Stated) → IsMeantBy all values r w s c m → IsMeantBy all values r w s d n → (c ≡ d) × (m ≡ n)
one_meant law valued all values r (Simple t) s c d m n h k = one_test law valued all values r t s c d m n h k
one_meant law valued all values r (InBrackets w) s c d m n (last, is, e) (other, it, f) = ((one_meant law valued all values r w NoneStated c d last other is it).0, e ∙ sym f)
one_meant law valued all values r (BehindNot w) s c d m n (x, is, e) (y, it, f) =
    let same = one_meant law valued all values r w s x y m n is it in
    (e ∙ ap (λ (z : Condition). Not z) same.0 ∙ sym f, same.1)
one_meant law valued all values r (WithAnd v w) s c d m n (x, y, mid, h, k, e) (z, u, other, i, j, f) =
    let first = one_meant law valued all values r v s x z mid other h i in
    let second = one_meant law valued all values r w other y u m n (subst (λ (t : Stated). IsMeantBy all values r w t y m) first.1 k) j in
    (e ∙ ap (λ (t : Condition). Both t y) first.0 ∙ ap (λ (t : Condition). Both z t) second.0 ∙ sym f, second.1)
one_meant law valued all values r (WithOr v w) s c d m n (x, y, mid, h, k, e) (z, u, other, i, j, f) =
    let first = one_meant law valued all values r v s x z mid other h i in
    let second = one_meant law valued all values r w other y u m n (subst (λ (t : Stated). IsMeantBy all values r w t y m) first.1 k) j in
    (e ∙ ap (λ (t : Condition). Either t y) first.0 ∙ ap (λ (t : Condition). Either z t) second.0 ∙ sym f, second.1)

pub one_condition : OneWrittenCondition → OneNamed → OneValued → OneConditionOf
one_condition one law valued r values ws c d h k =
    let same : h.written ≡ k.written = one ws h.written k.written h.spelled k.spelled in
    let all : List Candidate = all_entries r.input r.output in
    (one_meant law valued all values r k.written NoneStated c d h.last k.last (subst (λ (w : WrittenCondition). IsMeantBy all values r w NoneStated c h.last) same h.meant) k.meant).0
