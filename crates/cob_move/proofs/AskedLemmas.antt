-- Conditions, and the entries that they ask for.
use Rattle.std.proofs.Common.{◌≡◌, ℕ, zero, suc, ◌<◌, ◌≤◌, List, [], ◌∷◌, ◌++◌, length, map, refl, sym, ap, subst, ◌∙◌, arith, Option, Some, None}
use Rattle.std.specs.Prelude.{option_map}
use Rattle.std.specs.List.{AllByRecursion, slice_get}
use Rattle.std.proofs.lemmas.List.{length-append, length-map}
use Rattle.cob_codec.specs.declared.reading.Reading.{Reading}
use Rattle.cob_codec.specs.declared.reading.Reading.TheVariants.{Pictured}
use Rattle.cob_copybook_tree.specs.declared.node.Kind.{Kind}
use Rattle.cob_move_apply.specs.declared.placed.PlacedEntry.{PlacedEntry}
use Rattle.cob_move_apply.specs.Entries.{IsPlacedEntry}
use Rattle.cob_move_tests.specs.Asked.{IsAsked, kind_named, kind_asked, sender_named, sender_asked}
use Rattle.cob_move_choices.specs.Asked.{IsSubjectAsked, against}
use Rattle.cob_move_choices.specs.Choices.{AnEntry, joined_test}
use Rattle.cob_move_choices.specs.declared.subjects.Subject.{Subject}
use Rattle.cob_move_choices.specs.declared.subjects.Subject.TheVariants as subject
use Rattle.cob_move_condition.specs.Comparable.{may_compare}
use Rattle.cob_move_condition.specs.Conditions.{Always, Both, Compares, Condition, Either, HasClass, Not, condition_of, sender_compared}
use Rattle.cob_move_condition.specs.Tested.{IsComparandThere, MayBeTested, kind_compared}
use Rattle.cob_move_condition.specs.declared.condition.Comparand.{Comparand}
use Rattle.cob_move_condition.specs.declared.condition.Comparand.TheVariants as comparand
use Rattle.cob_move_condition.specs.declared.condition.Condition as code
use Rattle.cob_move_condition.specs.declared.condition.Condition.TheVariants as code_condition
use Rattle.cob_move_data.specs.Moves.{Records, Sender}
use Rattle.cob_move_deeds.specs.Flows.{FlowSupport, sender_at, sender_placed}
use Rattle.cob_move_deeds.specs.Prepared.{IsThere, MayBeAsked, kind_at, kind_placed}
use Rattle.cob_move_receive.specs.Table.{Entry, SenderKind}
use Rattle.cob_move_tests.specs.declared.entries.NamedEntry.{NamedEntry}
use Rattle.cob_move.specs.DeedsRead.{IsFrontOf, IsWaiting, MadeLists, MayBeTestedOr, named_of}

-- ---- what a condition means over other entries

compared_same : (f g : ℕ → Sender) (there : ℕ → Type 0) (a : Comparand) → IsComparandThere there a → ((n : ℕ) → there n → f n ≡ g n) → sender_compared f a ≡ sender_compared g a
compared_same f g there (comparand.Entry number) is same = same number is
compared_same f g there (comparand.Constant value) is same = refl

-- over entries that are the same where it asks for them, a condition means the same
pub condition_same : (f g : ℕ → Sender) (there : ℕ → Type 0) (kind : ℕ → Kind) (c : code.Condition) → MayBeTested there kind c → ((n : ℕ) → there n → f n ≡ g n) → condition_of f c ≡ condition_of g c
condition_same f g there kind code_condition.Always is same = refl
condition_same f g there kind (code_condition.Compares a relation b) (first, second, may) same =
    ap (λ (s : Sender). Compares s relation (sender_compared f b)) (compared_same f g there a first same)
    ∙ ap (λ (s : Sender). Compares (sender_compared g a) relation s) (compared_same f g there b second same)
condition_same f g there kind (code_condition.HasClass number class) is same = ap (λ (s : Sender). HasClass s class) (same number is)
condition_same f g there kind (code_condition.Not' q c) is same = ap (λ (d : Condition). Not d) (condition_same f g there kind c is same)
condition_same f g there kind (code_condition.Both' p c q d) is same =
    ap (λ (x : Condition). Both x (condition_of f d)) (condition_same f g there kind c is.0 same)
    ∙ ap (λ (x : Condition). Both (condition_of g c) x) (condition_same f g there kind d is.1 same)
condition_same f g there kind (code_condition.Either' p c q d) is same =
    ap (λ (x : Condition). Either x (condition_of f d)) (condition_same f g there kind c is.0 same)
    ∙ ap (λ (x : Condition). Either (condition_of g c) x) (condition_same f g there kind d is.1 same)

there_more : (there others : ℕ → Type 0) (a : Comparand) → ((n : ℕ) → there n → others n) → IsComparandThere there a → IsComparandThere others a
there_more there others (comparand.Entry number) more is = more number is
there_more there others (comparand.Constant value) more is = tt

kind_same : (there : ℕ → Type 0) (kind other : ℕ → Kind) (a : Comparand) → ((n : ℕ) → there n → kind n ≡ other n) → IsComparandThere there a → kind_compared kind a ≡ kind_compared other a
kind_same there kind other (comparand.Entry number) same is = ap (λ (k : Kind). Entry k) (same number is)
kind_same there kind other (comparand.Constant value) same is = refl

-- over more entries a condition may be tested still
pub tested_more : (there others : ℕ → Type 0) (kind other : ℕ → Kind) (c : code.Condition) → ((n : ℕ) → there n → others n) → ((n : ℕ) → there n → kind n ≡ other n) → MayBeTested there kind c → MayBeTested others other c
tested_more there others kind other code_condition.Always more same is = tt
tested_more there others kind other (code_condition.Compares a relation b) more same (first, second, may) =
    let x : kind_compared kind a ≡ kind_compared other a = kind_same there kind other a same first in
    let y : kind_compared kind b ≡ kind_compared other b = kind_same there kind other b same second in (
      there_more there others a more first,
      there_more there others b more second,
      sym (ap (λ (k : SenderKind). may_compare k (kind_compared kind b)) x ∙ ap (λ (k : SenderKind). may_compare (kind_compared other a) k) y) ∙ may,
    )
tested_more there others kind other (code_condition.HasClass number class) more same is = more number is
tested_more there others kind other (code_condition.Not' q c) more same is = tested_more there others kind other c more same is
tested_more there others kind other (code_condition.Both' p c q d) more same is = (tested_more there others kind other c more same is.0, tested_more there others kind other d more same is.1)
tested_more there others kind other (code_condition.Either' p c q d) more same is = (tested_more there others kind other c more same is.0, tested_more there others kind other d more same is.1)

-- ---- entries in front of others

pub get_front : {A : Type 0} (xs more : List A) (n : ℕ) → n < length xs → slice_get (xs ++ more) n ≡ slice_get xs n
get_front [] more n less = absurd (omega (arith, less))
get_front (x ∷ xs) more zero less = refl
get_front (x ∷ xs) more (suc n) less = get_front xs more n (omega (arith, less))

-- entries keep their numbers where more are asked for
pub named_front : (r : Records) (asked more : List NamedEntry) (n : ℕ) → n < length asked → sender_named r asked n ≡ sender_named r (asked ++ more) n
named_front r asked more n less = ap (λ (o : Option NamedEntry). sender_asked r o) (sym (get_front asked more n less))

pub kind_front : (r : Records) (asked more : List NamedEntry) (n : ℕ) → n < length asked → kind_named r asked n ≡ kind_named r (asked ++ more) n
kind_front r asked more n less = ap (λ (o : Option NamedEntry). kind_asked r o) (sym (get_front asked more n less))

asked_more : (asked more : List NamedEntry) (n : ℕ) → IsAsked asked n → IsAsked (asked ++ more) n
asked_more asked more n less = omega (arith, less, length-append asked more)

-- so a condition over the entries so far means the same, and may be tested
pub condition_front : (r : Records) (old new : List NamedEntry) (c : code.Condition) → ((more : List NamedEntry) × (new ≡ old ++ more)) → MayBeTested (IsAsked old) (kind_named r old) c → condition_of (sender_named r old) c ≡ condition_of (sender_named r new) c
condition_front r old new c (more, is) tested =
    condition_same (sender_named r old) (sender_named r new) (IsAsked old) (kind_named r old) c tested
    (λ n less. named_front r old more n less ∙ ap (λ (t : List NamedEntry). sender_named r t n) (sym is))

pub tested_front : (r : Records) (old new : List NamedEntry) (c : code.Condition) → ((more : List NamedEntry) × (new ≡ old ++ more)) → MayBeTested (IsAsked old) (kind_named r old) c → MayBeTested (IsAsked new) (kind_named r new) c
tested_front r old new c (more, is) tested =
    subst (λ (t : List NamedEntry). MayBeTested (IsAsked t) (kind_named r t) c) (sym is)
    (tested_more (IsAsked old) (IsAsked (old ++ more)) (kind_named r old) (kind_named r (old ++ more)) c (λ n less. asked_more old more n less) (λ n less. kind_front r old more n less) tested)

pub all_tested_front : (r : Records) (old new : List NamedEntry) (cs : List code.Condition) → ((more : List NamedEntry) × (new ≡ old ++ more)) → AllByRecursion (MayBeTested (IsAsked old) (kind_named r old)) cs
    → AllByRecursion (MayBeTested (IsAsked new) (kind_named r new)) cs
all_tested_front r old new [] more all = tt
all_tested_front r old new (c ∷ cs) more all = (tested_front r old new c more all.0, all_tested_front r old new cs more all.1)

-- so does what the tests of a choice are held against
pub against_front : (r : Records) (old new : List NamedEntry) (s : Subject) → ((more : List NamedEntry) × (new ≡ old ++ more)) → IsSubjectAsked old s → against (sender_named r old) s ≡ against (sender_named r new) s
against_front r old new subject.Truth (more, is) there = refl
against_front r old new (subject.Entry number) (more, is) there =
    ap (λ (s : Sender). AnEntry s) (named_front r old more number there ∙ ap (λ (t : List NamedEntry). sender_named r t number) (sym is))

pub subject_front : (r : Records) (old new : List NamedEntry) (s : Subject) → ((more : List NamedEntry) × (new ≡ old ++ more)) → IsSubjectAsked old s → IsSubjectAsked new s
subject_front r old new subject.Truth more there = tt
subject_front r old new (subject.Entry number) (more, is) there = omega (arith, there, ap length is, length-append old more)

-- ---- what waits

pub waiting_front : (r : Records) (old new : List NamedEntry) (waiting : Option code.Condition) (waits : Option Condition) → ((more : List NamedEntry) × (new ≡ old ++ more)) → IsWaiting r old waiting waits → IsWaiting r new waiting waits
waiting_front r old new None None more is = tt
waiting_front r old new None (Some t) more is = absurd is
waiting_front r old new (Some c) None more is = absurd is
waiting_front r old new (Some c) (Some t) more is = (tested_front r old new c more is.0, sym (condition_front r old new c more is.0) ∙ is.1)

pub or_tested_front : (r : Records) (old new : List NamedEntry) (waiting : Option code.Condition) → ((more : List NamedEntry) × (new ≡ old ++ more)) → MayBeTestedOr (IsAsked old) (kind_named r old) waiting
    → MayBeTestedOr (IsAsked new) (kind_named r new) waiting
or_tested_front r old new None more is = tt
or_tested_front r old new (Some c) more is = tested_front r old new c more is

-- a test joined to what waits means what it does joined to that
pub waiting_means : (r : Records) (asked : List NamedEntry) (waiting : Option code.Condition) (waits : Option Condition) (own c : code.Condition) (t : Condition) → IsWaiting r asked waiting waits → condition_of (sender_named r asked) own ≡ t
    → condition_of (sender_named r asked) c ≡ joined_test (option_map (condition_of (sender_named r asked)) waiting) (condition_of (sender_named r asked) own) → condition_of (sender_named r asked) c ≡ joined_test waits t
waiting_means r asked None None own c t is same e = e ∙ same
waiting_means r asked None (Some w) own c t is same e = absurd is
waiting_means r asked (Some d) None own c t is same e = absurd is
waiting_means r asked (Some d) (Some w) own c t is same e = e ∙ ap (λ (x : Condition). Either x (condition_of (sender_named r asked) own)) is.1 ∙ ap (λ (x : Condition). Either w x) same

-- ---- entries that are placed

-- an entry of the same side is named so
pub named_as : (e : PlacedEntry) (n : NamedEntry) → e.side ≡ n.side → e.entry ≡ n.entry → named_of e ≡ n
named_as e n side entry = λ i. record { side = side i; entry = entry i }

pub none_left : (ns : List NamedEntry) → length ns ≡ 0 → ns ≡ []
none_left [] none = refl
none_left (n ∷ ns) none = absurd (omega (arith, none))

get_named : (es : List PlacedEntry) (n : ℕ) → slice_get (map named_of es) n ≡ option_map named_of (slice_get es n)
get_named [] n = refl
get_named (e ∷ es) zero = refl
get_named (e ∷ es) (suc n) = get_named es n

placed_sender : (r : Records) (o : Option PlacedEntry) → sender_placed r Pictured o ≡ sender_asked r (option_map named_of o)
placed_sender r None = refl
placed_sender r (Some e) = refl

placed_kind : (r : Records) (o : Option PlacedEntry) → kind_placed r o ≡ kind_asked r (option_map named_of o)
placed_kind r None = refl
placed_kind r (Some e) = refl

-- an entry that is asked for stands under its number in what flows rest on
pub sender_stands : (r : Records) (m : MadeLists) (on : FlowSupport) (n : ℕ) → IsFrontOf m on → IsAsked m.asked n → sender_at r on n ≡ sender_named r m.asked n
sender_stands r m on n f less =
    ap (λ (x : Reading). sender_placed r x (slice_get on.entries n)) f.reading
    ∙ placed_sender r (slice_get on.entries n)
    ∙ ap (λ (o : Option NamedEntry). sender_asked r o) (sym (get_named on.entries n))
    ∙ ap (λ (t : List NamedEntry). sender_named r t n) f.asked.1
    ∙ sym (named_front r m.asked f.asked.0 n less)

-- a condition over them means there what it means here
pub condition_stands : (r : Records) (m : MadeLists) (on : FlowSupport) (c : code.Condition) → IsFrontOf m on → MayBeTested (IsAsked m.asked) (kind_named r m.asked) c → condition_of (sender_at r on) c ≡ condition_of (sender_named r m.asked) c
condition_stands r m on c f tested = condition_same (sender_at r on) (sender_named r m.asked) (IsAsked m.asked) (kind_named r m.asked) c tested (λ n less. sender_stands r m on n f less)

-- conditions may be asked where the entries are placed
pub may_be_asked : (r : Records) (on : FlowSupport) (asked : List NamedEntry) (cs : List code.Condition) → map named_of on.entries ≡ asked → on.conditions ≡ cs → AllByRecursion (IsPlacedEntry r) on.entries
    → AllByRecursion (MayBeTested (IsAsked asked) (kind_named r asked)) cs → MayBeAsked r on
may_be_asked r on asked cs named same placed tested = record {
  entries = placed;
  conditions = subst (λ (ds : List code.Condition). AllByRecursion (MayBeTested (IsThere on) (kind_at r on)) ds) (sym same) (all_there cs tested);
}
  where
    size : length on.entries ≡ length asked
    size = sym (length-map on.entries named_of) ∙ ap length named

    kinds : (n : ℕ) → IsAsked asked n → kind_named r asked n ≡ kind_at r on n
    kinds n less = ap (λ (t : List NamedEntry). kind_named r t n) (sym named) ∙ ap (λ (o : Option NamedEntry). kind_asked r o) (get_named on.entries n) ∙ sym (placed_kind r (slice_get on.entries n))

    all_there : (ds : List code.Condition) → AllByRecursion (MayBeTested (IsAsked asked) (kind_named r asked)) ds → AllByRecursion (MayBeTested (IsThere on) (kind_at r on)) ds
    all_there [] all = tt
    all_there (d ∷ ds) all =
        (tested_more (IsAsked asked) (IsThere on) (kind_named r asked) (kind_at r on) d (λ n less. omega (arith, less, size)) (λ n less. kinds n less) all.0, all_there ds all.1)
