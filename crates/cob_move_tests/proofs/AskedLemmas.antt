-- Entries that conditions ask for, with others behind them.
use Rattle.std.proofs.Common.{◌≡◌, ◌<◌, ℕ, List, [], ◌∷◌, ◌++◌, length, refl, sym, ap, subst, ◌∙◌, append_assoc, append-nil, arith, Option, Some, None}
use Rattle.std.specs.List.{AllByRecursion, slice_get}
use Rattle.std.proofs.lemmas.List.{get_or_append_left, length-append}
use Rattle.std.proofs.lemmas.Option.{slice_get-get_or}
use Rattle.std.proofs.Math.Seq.{get_or-append_seam}
use Rattle.cob_copybook_tree.specs.declared.node.Kind.{Kind}
use Rattle.cob_move_condition.specs.declared.condition.Comparand.{Comparand}
use Rattle.cob_move_condition.specs.declared.condition.Comparand.TheVariants as comparand
use Rattle.cob_move_condition.specs.declared.condition.Condition as code
use Rattle.cob_move_condition.specs.declared.condition.Condition.TheVariants as code_condition
use Rattle.cob_move_condition.specs.Comparable.{may_compare}
use Rattle.cob_move_condition.specs.Conditions.{Both, Compares, Condition, Either, HasClass, Not, condition_of, sender_compared}
use Rattle.cob_move_condition.specs.Tested.{IsComparandThere, kind_compared}
use Rattle.cob_move_data.specs.Moves.{Records, Sender}
use Rattle.cob_move_receive.specs.Table.{SenderKind}
use Rattle.cob_move_receive.specs.Table as table
use Rattle.cob_move_tests.specs.declared.entries.NamedEntry.{NamedEntry}
use Rattle.cob_move_tests.specs.declared.compared.Compared.{Compared}
use Rattle.cob_move_tests.specs.declared.compared.Compared.TheVariants as compared
use Rattle.cob_move_tests.specs.declared.compared.LastRelation.{LastRelation}
use Rattle.cob_move_tests.specs.Asked.{AsksMore, IsAsked, IsSubscriptedEntry, IsTestable, kind_asked, kind_named, sender_asked, sender_named}
use Rattle.cob_move_tests.specs.Compared.{IsStatedThere, IsComparedThere, sender_in, stated_in}
use Rattle.cob_move_tests.specs.Meant.{StatedAs}

-- ---- lists

pub front_get : {A : Type 0} (xs ys : List A) (n : ℕ) → n < length xs → slice_get (xs ++ ys) n ≡ slice_get xs n
front_get [] ys n lt = let never : ⊥ = omega (arith, lt) in absurd never
front_get {A} (x ∷ xs) ys n lt =
    slice_get-get_or ((x ∷ xs) ++ ys) n x (omega (arith, lt, length-append (x ∷ xs) ys)) ∙ ap Some (get_or_append_left (x ∷ xs) ys x n lt) ∙ sym (slice_get-get_or (x ∷ xs) n x lt)

pub last_get : {A : Type 0} (xs : List A) (x : A) → slice_get (xs ++ x ∷ []) (length xs) ≡ Some x
last_get {A} xs x = slice_get-get_or (xs ++ x ∷ []) (length xs) x (omega (arith, length-append xs (x ∷ []))) ∙ ap Some (get_or-append_seam xs x [] x)

all_append : {A : Type 0} (P : A → Type 0) (xs ys : List A) → AllByRecursion P xs → AllByRecursion P ys → AllByRecursion P (xs ++ ys)
all_append P [] ys h k = k
all_append P (x ∷ xs) ys h k = (h.0, all_append P xs ys h.1 k)

-- ---- more entries

pub none_more : (r : Records) (xs : List NamedEntry) → AsksMore r xs xs
none_more r xs = ([], tt, sym (append-nil xs))

pub same_more : (r : Records) (before now : List NamedEntry) → now ≡ before → AsksMore r before now
same_more r before now e = ([], tt, e ∙ sym (append-nil before))

pub one_more : (r : Records) (before now : List NamedEntry) (n : NamedEntry) → IsSubscriptedEntry r n → now ≡ before ++ n ∷ [] → AsksMore r before now
one_more r before now n is e = (n ∷ [], (is, tt), e)

pub both_more : (r : Records) (xs ys zs : List NamedEntry) → AsksMore r xs ys → AsksMore r ys zs → AsksMore r xs zs
both_more r xs ys zs (more, all, e) (others, all_others, f) =
    (more ++ others, all_append (IsSubscriptedEntry r) more others all all_others, f ∙ ap (λ (t : List NamedEntry). t ++ others) e ∙ append_assoc xs more others)

later_there : (before more : List NamedEntry) (n : ℕ) → n < length before → n < length (before ++ more)
later_there before more n lt = omega (arith, lt, length-append before more)

sender_more : (r : Records) (before more : List NamedEntry) (n : ℕ) → n < length before → sender_named r (before ++ more) n ≡ sender_named r before n
sender_more r before more n lt = ap (sender_asked r) (front_get before more n lt)

kind_more : (r : Records) (before more : List NamedEntry) (n : ℕ) → n < length before → kind_named r (before ++ more) n ≡ kind_named r before n
kind_more r before more n lt = ap (kind_asked r) (front_get before more n lt)

-- what is compared stays what it was
pub record IsSame (r : Records) (before now : List NamedEntry) (a : Compared) : Type 0 where
  pub sender : sender_in r now a ≡ sender_in r before a
  pub there : IsComparedThere r now a

compared_more : (r : Records) (before more : List NamedEntry) (a : Compared) → IsComparedThere r before a → IsSame r before (before ++ more) a
compared_more r before more (compared.Entry n k) (lt, e) =
    record { sender = sender_more r before more n lt; there = (later_there before more n lt, e ∙ sym (kind_more r before more n lt)) }
compared_more r before more (compared.Constant v) h = record { sender = refl; there = tt }

pub compared_same : (r : Records) (before now : List NamedEntry) (a : Compared) → AsksMore r before now → IsComparedThere r before a → IsSame r before now a
compared_same r before now a (more, all, e) h = subst (λ (xs : List NamedEntry). IsSame r before xs a) (sym e) (compared_more r before more a h)

-- and so does what was stated last
pub record IsStatedSame (r : Records) (before now : List NamedEntry) (s : Option LastRelation) : Type 0 where
  pub stated : stated_in r now s ≡ stated_in r before s
  pub there : IsStatedThere r now s

pub stated_same : (r : Records) (before now : List NamedEntry) (s : Option LastRelation) → AsksMore r before now → IsStatedThere r before s → IsStatedSame r before now s
stated_same r before now None grown h = record { stated = refl; there = tt }
stated_same r before now (Some s) grown h =
    let k = compared_same r before now s.subject grown h in
    record { stated = ap (λ (a : Sender). StatedAs a s.relation) k.sender; there = k.there }

-- ---- conditions

record IsComparandSame (r : Records) (before now : List NamedEntry) (a : Comparand) : Type 0 where
  sender : sender_compared (sender_named r now) a ≡ sender_compared (sender_named r before) a
  there : IsComparandThere (IsAsked now) a
  kind : kind_compared (kind_named r now) a ≡ kind_compared (kind_named r before) a

comparand_more : (r : Records) (before more : List NamedEntry) (a : Comparand) → IsComparandThere (IsAsked before) a → IsComparandSame r before (before ++ more) a
comparand_more r before more (comparand.Entry n) lt =
    record { sender = sender_more r before more n lt; there = later_there before more n lt; kind = ap (λ (k : Kind). table.Entry k) (kind_more r before more n lt) }
comparand_more r before more (comparand.Constant v) h = record { sender = refl; there = tt; kind = refl }

-- a condition stays what it was
pub record IsConditionSame (r : Records) (before now : List NamedEntry) (c : code.Condition) : Type 0 where
  pub condition : condition_of (sender_named r now) c ≡ condition_of (sender_named r before) c
  pub testable : IsTestable r now c

condition_more : (r : Records) (before more : List NamedEntry) (c : code.Condition) → IsTestable r before c → IsConditionSame r before (before ++ more) c
condition_more r before more code_condition.Always h = record { condition = refl; testable = tt }
condition_more r before more (code_condition.Compares a relation b) (there, there_too, may) =
    let x = comparand_more r before more a there in
    let y = comparand_more r before more b there_too in
    let now : List NamedEntry = before ++ more in record {
      condition =
          ap (λ (s : Sender). Compares s relation (sender_compared (sender_named r now) b)) x.sender
          ∙ ap (λ (s : Sender). Compares (sender_compared (sender_named r before) a) relation s) y.sender;
      testable = (
        x.there,
        y.there,
        ap (λ (k : SenderKind). may_compare k (kind_compared (kind_named r now) b)) x.kind ∙ ap (λ (k : SenderKind). may_compare (kind_compared (kind_named r before) a) k) y.kind ∙ may,
      );
    }
condition_more r before more (code_condition.HasClass n class) lt =
    record { condition = ap (λ (s : Sender). HasClass s class) (sender_more r before more n lt); testable = later_there before more n lt }
condition_more r before more (code_condition.Not' q c) h =
    let x = condition_more r before more c h in
    record { condition = ap (λ (d : Condition). Not d) x.condition; testable = x.testable }
condition_more r before more (code_condition.Both' p c q d) (h, k) =
    let x = condition_more r before more c h in
    let y = condition_more r before more d k in record {
      condition =
          ap (λ (e : Condition). Both e (condition_of (sender_named r (before ++ more)) d)) x.condition
          ∙ ap (λ (e : Condition). Both (condition_of (sender_named r before) c) e) y.condition;
      testable = (x.testable, y.testable);
    }
condition_more r before more (code_condition.Either' p c q d) (h, k) =
    let x = condition_more r before more c h in
    let y = condition_more r before more d k in record {
      condition =
          ap (λ (e : Condition). Either e (condition_of (sender_named r (before ++ more)) d)) x.condition
          ∙ ap (λ (e : Condition). Either (condition_of (sender_named r before) c) e) y.condition;
      testable = (x.testable, y.testable);
    }

pub condition_same : (r : Records) (before now : List NamedEntry) (c : code.Condition) → AsksMore r before now → IsTestable r before c → IsConditionSame r before now c
condition_same r before now c (more, all, e) h = subst (λ (xs : List NamedEntry). IsConditionSame r before xs c) (sym e) (condition_more r before more c h)
