-- What conditions are read as.
use Rattle.std.proofs.Common.{◌≡◌, ◌<◌, ℕ, zero, suc, Bool, true, List, [], ◌∷◌, ◌++◌, length, refl, sym, ap, subst, ◌∙◌, arith, Option, Some, None}
use Rattle.std.specs.List.{slice_get}
use Rattle.std.proofs.lemmas.List.{length-append}
use Rattle.cob_codec.specs.declared.reading.Reading.TheVariants.{Pictured}
use Rattle.cob_copybook_entry.specs.Described.{PlainValue}
use Rattle.cob_copybook_tree.specs.declared.node.Kind.{Kind}
use Rattle.cob_move_condition.specs.declared.condition.Comparand.{Comparand}
use Rattle.cob_move_condition.specs.declared.condition.Comparand.TheVariants as comparand
use Rattle.cob_move_condition.specs.declared.condition.Condition as code
use Rattle.cob_move_condition.specs.declared.condition.Condition.TheVariants as code_condition
use Rattle.cob_move_condition.specs.Comparable.{may_compare}
use Rattle.cob_move_condition.specs.Conditions.{Compares, Condition, condition_of, sender_compared}
use Rattle.cob_move_condition.specs.Tested.{IsComparandThere, kind_compared}
use Rattle.cob_move_conditions.specs.declared.relations.Relation.{Relation}
use Rattle.cob_move_data.specs.Moves.{Entry, Literal, Records, Sender, operand_in, record_of}
use Rattle.cob_move_names.specs.Candidates.{Candidate}
use Rattle.cob_move_names.specs.References.{NamesOperand}
use Rattle.cob_move_names.specs.Senders.{kind_of_sender}
use Rattle.cob_move_receive.specs.Table.{SenderKind}
use Rattle.cob_move_receive.specs.Table as table
use Rattle.cob_move_statements.specs.Written.{SentReference, WrittenReference, WrittenSender}
use Rattle.cob_move_tests.specs.declared.entries.NamedEntry.{NamedEntry}
use Rattle.cob_move_tests.specs.declared.compared.Compared.{Compared}
use Rattle.cob_move_tests.specs.declared.compared.Compared.TheVariants as compared
use Rattle.cob_move_tests.specs.declared.compared.ReadCondition.{ReadCondition}
use Rattle.cob_move_tests.specs.Asked.{AsksMore, IsAsked, IsTestable, kind_asked, kind_named, sender_asked, sender_named}
use Rattle.cob_move_tests.specs.Compared.{IsComparandOf, IsReadCondition, IsStatedThere, IsComparedThere, kind_of_compared, sender_in, stated_in}
use Rattle.cob_move_tests.specs.Meant.{IsOperandOf, Stated, StatedAs, StatesRelation, opposite_if}
use Rattle.cob_move_tests.proofs.AskedLemmas.{compared_same, condition_same, last_get, stated_same}

-- ---- an entry that is asked for

abbrev the_entry : Records → NamedEntry → Sender
the_entry r n = Entry n.side Pictured (operand_in (record_of r n.side) n.entry)

asked_last : (r : Records) (before now : List NamedEntry) (n : NamedEntry) → now ≡ before ++ n ∷ [] → slice_get now (length before) ≡ Some n
asked_last r before now n e = ap (λ (xs : List NamedEntry). slice_get xs (length before)) e ∙ last_get before n

pub entry_found : (all : List Candidate) (r : Records) (before now : List NamedEntry) (w : WrittenReference) (n : NamedEntry) (number : ℕ) (k : Kind) → number ≡ length before → now ≡ before ++ n ∷ []
    → NamesOperand all w n.side (operand_in (record_of r n.side) n.entry) → IsOperandOf all (SentReference w) (sender_in r now (compared.Entry number k))
entry_found all r before now w n number k at e names =
    let same : sender_named r now number ≡ the_entry r n = ap (λ (i : ℕ). sender_named r now i) at ∙ ap (sender_asked r) (asked_last r before now n e) in
    ((n.side, operand_in (record_of r n.side) n.entry, names, same), tt)

pub entry_there : (r : Records) (before now : List NamedEntry) (n : NamedEntry) (number : ℕ) (k : Kind) → number ≡ length before → now ≡ before ++ n ∷ []
    → k ≡ (operand_in (record_of r n.side) n.entry).kind → IsComparedThere r now (compared.Entry number k)
entry_there r before now n number k at e is = (
  omega (arith, at, ap length e, length-append before (n ∷ [])),
  is ∙ sym (ap (kind_asked r) (asked_last r before now n e)) ∙ ap (λ (i : ℕ). kind_named r now i) (sym at),
)

-- ---- what conditions have in the place of what is compared

compared_is : (r : Records) (asked : List NamedEntry) (s : Compared) (a : Comparand) → IsComparandOf s a → sender_compared (sender_named r asked) a ≡ sender_in r asked s
compared_is r asked (compared.Entry n k) (comparand.Entry m) e = ap (λ (i : ℕ). sender_named r asked i) e
compared_is r asked (compared.Constant v) (comparand.Constant w) e = ap (λ (x : PlainValue). Literal x) e
compared_is r asked (compared.Entry n k) (comparand.Constant w) e = absurd e
compared_is r asked (compared.Constant v) (comparand.Entry m) e = absurd e

compared_there : (r : Records) (asked : List NamedEntry) (s : Compared) (a : Comparand) → IsComparandOf s a → IsComparedThere r asked s → IsComparandThere (IsAsked asked) a
compared_there r asked (compared.Entry n k) (comparand.Entry m) e (lt, is) = omega (arith, lt, e)
compared_there r asked (compared.Constant v) (comparand.Constant w) e there = tt
compared_there r asked (compared.Entry n k) (comparand.Constant w) e there = absurd e
compared_there r asked (compared.Constant v) (comparand.Entry m) e there = absurd e

compared_kind : (r : Records) (asked : List NamedEntry) (s : Compared) (a : Comparand) → IsComparandOf s a → IsComparedThere r asked s → kind_compared (kind_named r asked) a ≡ kind_of_compared s
compared_kind r asked (compared.Entry n k) (comparand.Entry m) e (lt, is) = ap (λ (x : Kind). table.Entry x) (ap (λ (i : ℕ). kind_named r asked i) e ∙ sym is)
compared_kind r asked (compared.Constant v) (comparand.Constant w) e there = ap (λ (x : PlainValue). table.Literal x) e
compared_kind r asked (compared.Entry n k) (comparand.Constant w) e there = absurd e
compared_kind r asked (compared.Constant v) (comparand.Entry m) e there = absurd e

-- an entry that is there is a sender of the kind that it describes
kind_of_some : (r : Records) (n : NamedEntry) (o : Option NamedEntry) → o ≡ Some n → kind_of_sender (sender_asked r o) ≡ table.Entry (kind_asked r o)
kind_of_some r n None e = cc
kind_of_some r n (Some m) e = refl

some_there : {A : Type 0} (xs : List A) (n : ℕ) → n < length xs → (x : A) × (slice_get xs n ≡ Some x)
some_there [] n lt = let never : ⊥ = omega (arith, lt) in absurd never
some_there (x ∷ xs) zero lt = (x, refl)
some_there (x ∷ xs) (suc n) lt = some_there xs n (omega (arith, lt))

pub kind_there : (r : Records) (asked : List NamedEntry) (s : Compared) → IsComparedThere r asked s → kind_of_sender (sender_in r asked s) ≡ kind_of_compared s
kind_there r asked (compared.Entry n k) (lt, is) =
    let (m, e) = some_there asked n lt in
    kind_of_some r m (slice_get asked n) e ∙ ap (λ (x : Kind). table.Entry x) (sym is)
kind_there r asked (compared.Constant v) there = refl

-- ---- relations

pub may_of : (r : Records) (before now : List NamedEntry) (subject object : Compared) (may : Bool) → AsksMore r before now → IsComparedThere r before subject → IsComparedThere r now object
    → may ≡ may_compare (kind_of_compared subject) (kind_of_compared object) → may_compare (kind_of_sender (sender_in r before subject)) (kind_of_sender (sender_in r now object)) ≡ may
may_of r before now subject object may grown there there_too is =
    ap (λ (k : SenderKind). may_compare k (kind_of_sender (sender_in r now object))) (kind_there r before subject there)
    ∙ ap (λ (k : SenderKind). may_compare (kind_of_compared subject) k) (kind_there r now object there_too) ∙ sym is

pub relation_read : (all : List Candidate) (r : Records) (before now : List NamedEntry) (subject object : Compared) (a b : Comparand) (q : Relation) (w : WrittenSender) (c : code.Condition)
    → IsComparandOf subject a → IsComparandOf object b → IsComparedThere r before subject → AsksMore r before now → IsOperandOf all w (sender_in r now object) → IsComparedThere r now object
    → true ≡ may_compare (kind_of_compared subject) (kind_of_compared object)
    → ((entry : ℕ → Sender) → condition_of entry c ≡ opposite_if q.opposite (Compares (sender_compared entry a) q.order (sender_compared entry b)))
    → ((s : Records) (asked : List NamedEntry) → IsTestable s asked (code_condition.Compares a q.order b) → IsTestable s asked c)
    → IsReadCondition r now (StatesRelation all (sender_in r before subject) q w) (record { condition = c; last = Some (record { subject = subject; relation = q }) })
relation_read all r before now subject object a b q w c of_subject of_object there grown means there_too may says testable =
    let same = compared_same r before now subject grown there in
    let f : ℕ → Sender = sender_named r now in
    let first : sender_compared f a ≡ sender_in r before subject = compared_is r now subject a of_subject ∙ same.sender in
    let second : sender_compared f b ≡ sender_in r now object = compared_is r now object b of_object in record {
      is = (
        (
          sender_in r now object,
          means,
          may_of r before now subject object true grown there there_too may,
          says f ∙ ap (λ (x : Sender). opposite_if q.opposite (Compares x q.order (sender_compared f b))) first
              ∙ ap (λ (x : Sender). opposite_if q.opposite (Compares (sender_in r before subject) q.order x)) second,
        ),
        ap (λ (x : Sender). StatedAs x q) same.sender,
      );
      testable = testable r now (
        compared_there r now subject a of_subject same.there,
        compared_there r now object b of_object there_too,
        ap (λ (k : SenderKind). may_compare k (kind_compared (kind_named r now) b)) (compared_kind r now subject a of_subject same.there)
            ∙ ap (λ (k : SenderKind). may_compare (kind_of_compared subject) k) (compared_kind r now object b of_object there_too) ∙ sym may,
      );
      there = same.there;
    }

-- ---- conditions that others are part of

-- what was read stays so where more is asked for
pub read_later : (r : Records) (before now : List NamedEntry) (Is : Condition → Stated → Type 0) (m : ReadCondition) → AsksMore r before now → IsReadCondition r before Is m → IsReadCondition r now Is m
read_later r before now Is m grown h =
    let x = condition_same r before now m.condition grown h.testable in
    let y = stated_same r before now m.last grown h.there in record {
      is = subst (λ (c : Condition). Is c (stated_in r now m.last)) (sym x.condition) (subst (λ (s : Stated). Is (condition_of (sender_named r before) m.condition) s) (sym y.stated) h.is);
      testable = x.testable;
      there = y.there;
    }

-- the two parts of a condition, one behind the other
pub record AreRead (r : Records) (now : List NamedEntry) (IsOne : Condition → Stated → Type 0) (IsOther : Stated → Condition → Stated → Type 0) (one other : ReadCondition) : Type 0 where
  pub mid : Stated
  pub first : IsOne (condition_of (sender_named r now) one.condition) mid
  pub second : IsOther mid (condition_of (sender_named r now) other.condition) (stated_in r now other.last)
  pub testable : IsTestable r now one.condition
  pub testable_too : IsTestable r now other.condition
  pub there : IsStatedThere r now other.last

pub parts_read : (r : Records) (mid now : List NamedEntry) (IsOne : Condition → Stated → Type 0) (IsOther : Stated → Condition → Stated → Type 0) (one other : ReadCondition) → AsksMore r mid now
    → IsReadCondition r mid IsOne one → IsReadCondition r now (IsOther (stated_in r mid one.last)) other → AreRead r now IsOne IsOther one other
parts_read r mid now IsOne IsOther one other grown h k =
    let x = condition_same r mid now one.condition grown h.testable in record {
      mid = stated_in r mid one.last;
      first = subst (λ (c : Condition). IsOne c (stated_in r mid one.last)) (sym x.condition) h.is;
      second = k.is;
      testable = x.testable;
      testable_too = k.testable;
      there = k.there;
    }
