-- What is read of the words of a choice and of its tests.
use Rattle.std.proofs.Common.{◌≡◌, ◌<◌, ◌⊎◌, ℕ, zero, suc, Bool, true, false, List, [], ◌∷◌, ◌++◌, length, refl, sym, ap, subst, ◌∙◌, arith, inl, inr, Option, Some, None}
use Rattle.std.specs.List.{AllByRecursion, slice_get}
use Rattle.std.specs.declared.cmp.Ordering.TheVariants.{Equal}
use Rattle.std.proofs.lemmas.List.{length-append}
use Rattle.cob_source.specs.Tokens.{Lexeme}
use Rattle.cob_copybook_clauses.specs.Written.{WrittenValue}
use Rattle.cob_copybook_entry.specs.Described.{PlainValue}
use Rattle.cob_copybook_names.specs.Naming.{Bearer}
use Rattle.cob_copybook_tree.specs.declared.node.Kind.{Kind}
use Rattle.cob_move_condition.specs.Comparable.{may_compare}
use Rattle.cob_move_condition.specs.Conditions.{Compares, Condition}
use Rattle.cob_move_data.specs.Moves.{Literal, Records, Sender, operand_in, record_of}
use Rattle.cob_move_loops.specs.Passages.{AnEvaluate}
use Rattle.cob_move_loops.specs.Turns.{Counted, in_turn}
use Rattle.cob_move_names.specs.Senders.{kind_of_sender}
use Rattle.cob_move_names.specs.Valued.{ValuedEntry}
use Rattle.cob_move_receive.specs.Table.{SenderKind}
use Rattle.cob_move_receive.specs.Table as table
use Rattle.cob_move_statements.specs.declared.fault.MoveRule.{MoveRule}
use Rattle.cob_move_statements.specs.declared.fault.MoveRule.TheVariants as rule
use Rattle.cob_move_statements.specs.Written.{SentConstant}
use Rattle.cob_move_tests.specs.declared.entries.NamedEntry.{NamedEntry}
use Rattle.cob_move_tests.specs.Asked.{AsksMore, IsAsked, IsSubscriptedEntry, MayBeListed, kind_asked, sender_asked, sender_named}
use Rattle.cob_move_tests.specs.Broken.{BreaksConditionWords}
use Rattle.cob_move_tests.specs.Counters.{HasNoCounter, has_no_counter}
use Rattle.cob_move_tests.specs.Meant.{IsConditionOf, IsOperandOf}
use Rattle.cob_move_tests.specs.Spans.{FromTo, One, within}
use Rattle.cob_move_tests.proofs.AskedLemmas.{last_get, one_more}
use Rattle.cob_move_choices.specs.declared.subjects.Subject.TheVariants as subject
use Rattle.cob_move_choices.specs.Asked.{against}
use Rattle.cob_move_choices.specs.Choices.{Against, AnEntry, BreaksBranchTest, BreaksEvaluated, BreaksTestInTurn, BreaksListed, BreaksListedValue, BreaksSpan, BreaksSubject, IsBranchTestOf, IsEvaluated, IsListedTest, IsSubjectOf, IsTruth, Truth, all_of}
use Rattle.cob_move_choices.specs.Values.{FromToWritten, IsSpanWritten, OneWritten, WrittenSpan}

both : (t : Bool) → t ≡ true → t ≡ false → ⊥
both t x y = cc

-- ---- what the tests are held against

asked_last : (before now : List NamedEntry) (n : NamedEntry) → now ≡ before ++ n ∷ [] → slice_get now (length before) ≡ Some n
asked_last before now n e = ap (λ (xs : List NamedEntry). slice_get xs (length before)) e ∙ last_get before n

-- the entry that an EVALUATE names stands behind those that were asked for
pub subject_found : (r : Records) (ns : List Counted) (line : ℕ) (ws : List Lexeme) (before now : List NamedEntry) (n : NamedEntry) (number : ℕ) → (IsTruth ws → ⊥)
    → IsEvaluated r ns ws (sender_asked r (Some n)) → number ≡ length before → now ≡ before ++ n ∷ []
    → IsSubjectOf r ns (AnEvaluate line ws) (against (sender_named r now) (subject.Entry number))
subject_found r ns line ws before now n number other is at e =
    let same : sender_named r now number ≡ sender_asked r (Some n) = ap (λ (i : ℕ). sender_named r now i) at ∙ ap (sender_asked r) (asked_last before now n e) in
    inr (other, (sender_asked r (Some n), is, ap (λ (z : Sender). AnEntry z) same))

pub subject_there : (before now : List NamedEntry) (n : NamedEntry) (number : ℕ) → number ≡ length before → now ≡ before ++ n ∷ [] → IsAsked now number
subject_there before now n number at e = omega (arith, at, ap length e, length-append before (n ∷ []))

pub subject_asks : (r : Records) (before now : List NamedEntry) (n : NamedEntry) → IsSubscriptedEntry r n → now ≡ before ++ n ∷ [] → AsksMore r before now
subject_asks r before now n is e = one_more r before now n is e

-- a counter is among the words of an EVALUATE
pub counter_in_head : (records : Records) (ns : List Counted) (ws : List Lexeme) → has_no_counter ns false false ws ≡ false → BreaksEvaluated rule.Grammar records ns ws
counter_in_head records ns ws some = inl (refl, λ none. both (has_no_counter ns false false ws) none some)

-- an entry that isn't named, where the words aren't TRUE
pub head_refused : (r : MoveRule) (records : Records) (ns : List Counted) (line : ℕ) (ws : List Lexeme) → (IsTruth ws → ⊥) → (r ≡ rule.Memory) ⊎ BreaksEvaluated r records ns ws → (r ≡ rule.Memory) ⊎ BreaksSubject r records ns (AnEvaluate line ws)
head_refused r records ns line ws other (inl memory) = inl memory
head_refused r records ns line ws other (inr broken) = inr (other, broken)

-- ---- values

pub one_found : (r : Records) (s : Sender) (ws : List Lexeme) (v : WrittenValue) (x : PlainValue) (c : Condition) → IsSpanWritten (OneWritten v) ws
    → IsOperandOf (all_of r) (SentConstant v) (Literal x) → may_compare (kind_of_sender s) (kind_of_sender (Literal x)) ≡ true → c ≡ Compares s Equal (Literal x) → IsListedTest r s ws c
one_found r s ws v x c is means may e = (OneWritten v, One (Literal x), is, (Literal x, means, refl), may, e)

pub two_found : (r : Records) (s : Sender) (ws : List Lexeme) (v w : WrittenValue) (x y : PlainValue) (c : Condition) → IsSpanWritten (FromToWritten v w) ws
    → IsOperandOf (all_of r) (SentConstant v) (Literal x) → may_compare (kind_of_sender s) (kind_of_sender (Literal x)) ≡ true
    → IsOperandOf (all_of r) (SentConstant w) (Literal y) → may_compare (kind_of_sender s) (kind_of_sender (Literal y)) ≡ true
    → c ≡ within s (FromTo (Literal x) (Literal y)) → IsListedTest r s ws c
two_found r s ws v w x y c is first may last might e =
    (FromToWritten v w, FromTo (Literal x) (Literal y), is, (Literal x, Literal y, first, last, refl), (may, might), e)

-- an entry that is asked for may be compared with what its sender may be
kind_of_some : (r : Records) (n : NamedEntry) (o : Option NamedEntry) → o ≡ Some n → kind_of_sender (sender_asked r (Some n)) ≡ table.Entry (kind_asked r o)
kind_of_some r n o e = ap (λ (x : Option NamedEntry). table.Entry (kind_asked r x)) (sym e)

pub may_be_listed : (r : Records) (asked : List NamedEntry) (number : ℕ) (n : NamedEntry) (x : PlainValue) → IsAsked asked number → slice_get asked number ≡ Some n
    → may_compare (kind_of_sender (sender_asked r (Some n))) (kind_of_sender (Literal x)) ≡ true → MayBeListed r asked number x
may_be_listed r asked number n x there at may =
    (there, ap (λ (k : SenderKind). may_compare k (table.Literal x)) (sym (kind_of_some r n (slice_get asked number) at)) ∙ may)

-- whether an entry may be compared with a constant, by what its layout says of it
pub entry_compares : (r : Records) (n : NamedEntry) (kind : Kind) (x : PlainValue) (may : Bool) → kind ≡ (operand_in (record_of r n.side) n.entry).kind → may ≡ may_compare (table.Entry kind) (table.Literal x)
    → may_compare (kind_of_sender (sender_asked r (Some n))) (kind_of_sender (Literal x)) ≡ may
entry_compares r n kind x may same is = sym (is ∙ ap (λ (k : Kind). may_compare (table.Entry k) (table.Literal x)) same)

-- an entry under a number is one of those that are asked for
pub named_at : (r : Records) (asked : List NamedEntry) (number : ℕ) (n : NamedEntry) → slice_get asked number ≡ Some n → AllByRecursion (IsSubscriptedEntry r) asked → IsSubscriptedEntry r n
named_at r [] number n at all = absurd (none_some n at)
  where
    none_some : (n : NamedEntry) → None ≡ Some n → ⊥
    none_some n e = cc
named_at r (m ∷ asked) zero n at all = subst (IsSubscriptedEntry r) (some_same m n at) all.0
  where
    some_same : (m n : NamedEntry) → Some m ≡ Some n → m ≡ n
    some_same m n e = cc
named_at r (m ∷ asked) (suc number) n at all = named_at r asked number n at all.1

-- so it is of the sender under its number
pub may_named : (r : Records) (asked : List NamedEntry) (number : ℕ) (n : NamedEntry) (x : PlainValue) → slice_get asked number ≡ Some n → may_compare (kind_of_sender (sender_asked r (Some n))) (kind_of_sender (Literal x)) ≡ true
    → may_compare (kind_of_sender (sender_named r asked number)) (kind_of_sender (Literal x)) ≡ true
may_named r asked number n x at may = ap (λ (o : Option NamedEntry). may_compare (kind_of_sender (sender_asked r o)) (kind_of_sender (Literal x))) at ∙ may

pub value_refused : (r : MoveRule) (records : Records) (asked : List NamedEntry) (number : ℕ) (n : NamedEntry) (v : WrittenValue) → slice_get asked number ≡ Some n → BreaksListedValue r records (sender_asked records (Some n)) v
    → BreaksListedValue r records (sender_named records asked number) v
value_refused r records asked number n v at broken = subst (λ (o : Option NamedEntry). BreaksListedValue r records (sender_asked records o) v) (sym at) broken

-- the two words for one kind of refusal: no values, or one of them
pub no_values : (records : Records) (s : Sender) (ws : List Lexeme) → ((w : WrittenSpan) → IsSpanWritten w ws → ⊥) → BreaksListed rule.Grammar records s ws
no_values records s ws none = inl (refl, none)

pub values_refused : (r : MoveRule) (records : Records) (s : Sender) (ws : List Lexeme) (w : WrittenSpan) → IsSpanWritten w ws → BreaksSpan r records s w → BreaksListed r records s ws
values_refused r records s ws w is broken = inr (w, is, broken)

pub not_comparable : (records : Records) (s : Sender) (v : WrittenValue) (x : PlainValue) → IsOperandOf (all_of records) (SentConstant v) (Literal x)
    → may_compare (kind_of_sender s) (kind_of_sender (Literal x)) ≡ false → BreaksListedValue rule.NotComparable records s v
not_comparable records s v x is lacks =
    inr (refl, (One (Literal x), (Literal x, is, refl), λ may. both (may_compare (kind_of_sender s) (kind_of_sender (Literal x))) may lacks))

-- ---- tests in a turn

pub truth_found : (r : Records) (values : List (Bearer ValuedEntry)) (ns : List Counted) (ws own : List Lexeme) (c : Condition) → HasNoCounter ns ws → own ≡ in_turn ns false 0 ws → IsConditionOf r values own c
    → IsBranchTestOf r values ns Truth ws c
truth_found r values ns ws own c none same is = (none, subst (λ (t : List Lexeme). IsConditionOf r values t c) same is)

pub listed_found : (r : Records) (values : List (Bearer ValuedEntry)) (ns : List Counted) (s : Sender) (ws own : List Lexeme) (c : Condition) → HasNoCounter ns ws → own ≡ in_turn ns false 0 ws → IsListedTest r s own c
    → IsBranchTestOf r values ns (AnEntry s) ws c
listed_found r values ns s ws own c none same is = (none, subst (λ (t : List Lexeme). IsListedTest r s t c) same is)

pub test_refused : (r : MoveRule) (records : Records) (values : List (Bearer ValuedEntry)) (ns : List Counted) (a : Against) (ws own : List Lexeme) → HasNoCounter ns ws → own ≡ in_turn ns false 0 ws
    → BreaksTestInTurn r records values a own → BreaksBranchTest r records values ns a ws
test_refused r records values ns a ws own none same broken = inr (none, subst (λ (t : List Lexeme). BreaksTestInTurn r records values a t) same broken)

pub counter_among : (records : Records) (values : List (Bearer ValuedEntry)) (ns : List Counted) (a : Against) (ws : List Lexeme) → has_no_counter ns false false ws ≡ false → BreaksBranchTest rule.Grammar records values ns a ws
counter_among records values ns a ws some = inl (refl, λ none. both (has_no_counter ns false false ws) none some)

-- why a test isn't read, in a choice that is held against nothing
pub truth_refused : (r : MoveRule) (records : Records) (values : List (Bearer ValuedEntry)) (ns : List Counted) (a : Against) (ws own : List Lexeme) → a ≡ Truth → HasNoCounter ns ws → own ≡ in_turn ns false 0 ws → (r ≡ rule.Memory) ⊎ BreaksConditionWords r records values own
    → (r ≡ rule.Memory) ⊎ BreaksBranchTest r records values ns a ws
truth_refused r records values ns a ws own held none same (inl memory) = inl memory
truth_refused r records values ns a ws own held none same (inr broken) =
    inr (subst (λ (x : Against). BreaksBranchTest r records values ns x ws) (sym held) (test_refused r records values ns Truth ws own none same broken))

-- and in one that is held against an entry
pub listed_refused : (r : MoveRule) (records : Records) (values : List (Bearer ValuedEntry)) (ns : List Counted) (a : Against) (s : Sender) (ws own : List Lexeme) → a ≡ AnEntry s → HasNoCounter ns ws → own ≡ in_turn ns false 0 ws → (r ≡ rule.Memory) ⊎ BreaksListed r records s own
    → (r ≡ rule.Memory) ⊎ BreaksBranchTest r records values ns a ws
listed_refused r records values ns a s ws own held none same (inl memory) = inl memory
listed_refused r records values ns a s ws own held none same (inr broken) =
    inr (subst (λ (x : Against). BreaksBranchTest r records values ns x ws) (sym held) (test_refused r records values ns (AnEntry s) ws own none same broken))
