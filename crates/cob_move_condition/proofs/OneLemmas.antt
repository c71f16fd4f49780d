-- What a condition says is one thing.
use Rattle.std.proofs.Common.{◌≡◌, ℕ, Bool, true, false, ◌||◌, not, List, length, refl, sym, ap, subst, ◌∙◌, inl, inr, Ok, Err, Result}
use Rattle.std.specs.Prelude.{MatchBool, ℤ}
use Rattle.std.specs.declared.cmp.Ordering.{Ordering}
use Rattle.cob_codec.specs.Readings.{keeping_zones}
use Rattle.cob_codec.specs.declared.reading.Reading.{Reading}
use Rattle.cob_picture.specs.Counts as counts
use Rattle.cob_picture.specs.declared.category.Category.{Category}
use Rattle.cob_picture.specs.declared.category.Category.TheVariants.{Alphabetic, Numeric, Alphanumeric, AlphanumericEdited, NumericEdited}
use Rattle.cob_copybook_entry.specs.declared.kinds.Figurative.{Figurative}
use Rattle.cob_copybook_entry.specs.declared.kinds.Figurative.TheVariants.{Space, Zero, HighValue, LowValue, Quote}
use Rattle.cob_cp037.specs.Table.{TableIsOneToOne}
use Rattle.cob_edit.specs.Pictured.{IsEdited, OneEditedNumber}
use Rattle.cob_copybook_entry.specs.Described.{PlainValue, Quoted, Figure, Repeated}
use Rattle.cob_copybook_entry.specs.Described as constant
use Rattle.cob_copybook_tree.specs.declared.node.Kind.{Kind}
use Rattle.cob_copybook_tree.specs.declared.node.Kind.TheVariants.{Group, Item as ItemKind}
use Rattle.cob_copybook_tree.specs.declared.node.Item.{Item}
use Rattle.cob_copybook_tree.specs.Nodes.{is_group_kind}
use Rattle.cob_copybook_tree.specs.Resolving.{is_number}
use Rattle.cob_copybook_tree.specs.Items.{OneSentNumber}
use Rattle.cob_move_data.specs.Moves.{Sender}
use Rattle.cob_move_receive.proofs.CharacterLemmas as characters
use Rattle.cob_move_receive.specs.Sent.{Sent, Entry, Literal, Amount}
use Rattle.cob_move_receive.specs.Characters.{GivesConstant, GivesDigits, padded, repeated, numerals_to_point}
use Rattle.cob_move_receive.specs.Numbers.{ConstantGives, FigureGives, GivesUnder, GivesNumber, IsUnedited, IsNumberIn}
use Rattle.cob_move_condition.specs.declared.class.Class.{Class}
use Rattle.cob_move_condition.specs.declared.comparing.WithoutValue.{WithoutValue}
use Rattle.cob_move_condition.specs.declared.comparing.WithoutValue.TheVariants.{First, Second}
use Rattle.cob_move_condition.specs.Classes.{IsInClass}
use Rattle.cob_move_condition.specs.Comparable.{compares_numbers, kind_of_sent}
use Rattle.cob_move_condition.specs.Compared.{GiveCharacters, GivesBeside, GivesNumerals, IsCompared, IsWithoutValue, NumbersCompared, TextsCompared, amount_order, text_order}
use Rattle.cob_move_condition.specs.Conditions.{Condition, Always, Compares, HasClass, Not, Both, Either}
use Rattle.cob_move_condition.specs.Laws.{GivesOne, LacksOne, OneComparison, OneSaying}
use Rattle.cob_move_condition.specs.Says.{Says, SaysClass, SaysRelation, is_relation, negated, one_of_two}

-- the laws below
pub record Laws : Type 0 where
  pub code : TableIsOneToOne
  pub number : OneSentNumber
  pub value : OneEditedNumber

-- ---- what is given

-- of two cases both times the same one
one_of : {A : Type 0} (c : Bool) (P Q : A → Type 0) (a b : A) → (P a → P b → a ≡ b) → (Q a → Q b → a ≡ b) → MatchBool c (P a) (Q a) → MatchBool c (P b) (Q b) → a ≡ b
one_of true P Q a b p q x y = p x y
one_of false P Q a b p q x y = q x y

same_amount : (a b : Amount) → a.negative ≡ b.negative → a.digits ≡ b.digits → a.scale ≡ b.scale → a ≡ b
same_amount a b p q r = λ i. record { negative = p i; digits = q i; scale = r i }

one_constant_text : TableIsOneToOne → (c : PlainValue) (n : ℕ) (a b : List ℕ) → GivesConstant c n a → GivesConstant c n b → a ≡ b
one_constant_text law (constant.Numeric sign negative digits scale) n a b p q = p ∙ sym q
one_constant_text law (Quoted t) n a b p q = characters.one_text law t a b p q
one_constant_text law (Figure f) n a b p q = p ∙ sym q
one_constant_text law (Repeated t) n a b p q = p.2 ∙ ap (λ coded. padded n (repeated n coded)) (characters.one_text law t p.0 q.0 p.1 q.1) ∙ sym q.2

one_digits : OneSentNumber → (reading : Reading) (i : Item) (bytes a b : List ℕ) → GivesDigits reading i bytes a → GivesDigits reading i bytes b → a ≡ b
one_digits law reading i bytes a b (m, ds, p, x) (n, es, q, y) =
    let same = law reading i bytes m n ds es p q in
    x ∙ ap (λ (d : List ℕ). numerals_to_point d (counts.scale i.picture.positions)) same.1 ∙ sym y

one_numerals : OneSentNumber → (reading : Reading) (i : Item) (bytes a b : List ℕ) → GivesNumerals reading i bytes a → GivesNumerals reading i bytes b → a ≡ b
one_numerals law reading i bytes a b (inl p) (inl q) = one_digits law reading i bytes a b p q
one_numerals law reading i bytes a b (inl p) (inr q) = absurd (q.0 a p)
one_numerals law reading i bytes a b (inr p) (inl q) = absurd (p.0 b q)
one_numerals law reading i bytes a b (inr p) (inr q) = p.1 ∙ sym q.1

one_beside : Laws → (group : Bool) (kind : Kind) (bytes : List ℕ) (reading : Reading) (a b : List ℕ) → GivesBeside group kind bytes reading a → GivesBeside group kind bytes reading b → a ≡ b
one_beside law group Group bytes reading a b p q = p ∙ sym q
one_beside law group (ItemKind i) bytes reading a b p q =
    one_of (group || not (is_number i)) (λ (t : List ℕ). t ≡ bytes) (GivesNumerals (keeping_zones reading) i bytes) a b (λ x y. x ∙ sym y) (one_numerals law.number (keeping_zones reading) i bytes a b) p q

-- a constant beside a text gives one
one_filled : Laws → (c : PlainValue) (n m : ℕ) (a b : List ℕ) → n ≡ m → GivesConstant c n a → GivesConstant c m b → a ≡ b
one_filled law c n m a b e p q = one_constant_text law.code c m a b (subst (λ (k : ℕ). GivesConstant c k a) e p) q

one_characters : Laws → (s t : Sent) (a b c d : List ℕ) → GiveCharacters s t a b → GiveCharacters s t c d → (a ≡ c) × (b ≡ d)
one_characters law (Entry kind bytes reading) (Entry other others by) a b c d (p, q) (u, v) =
    (one_beside law (is_group_kind other) kind bytes reading a c p u, one_beside law (is_group_kind kind) other others by b d q v)
one_characters law (Entry kind bytes reading) (Literal k) a b c d (p, q) (u, v) =
    let same : a ≡ c = one_beside law false kind bytes reading a c p u in
    (same, one_filled law k (length a) (length c) b d (ap length same) q v)
one_characters law (Literal k) (Entry kind bytes reading) a b c d (p, q) (u, v) =
    let same : b ≡ d = one_beside law false kind bytes reading b d q v in
    (one_filled law k (length b) (length d) a c (ap length same) p u, same)
one_characters law (Literal k) (Literal l) a b c d p q = absurd p

one_unedited : OneEditedNumber → (i : Item) (bytes : List ℕ) (v w : Amount) → IsUnedited i bytes v → IsUnedited i bytes w → v ≡ w
one_unedited law i bytes v w x y =
    let P : Amount → ℤ → Type 0 = λ a s. IsEdited i.picture i.blank a.negative a.digits s bytes in
    let same = law i.picture i.blank v.negative w.negative v.digits w.digits bytes x.range y.range (subst (P v) x.point x.text) (subst (P w) y.point y.text) in
    same_amount v w same.0 same.1 (x.point ∙ sym y.point)

one_as : OneEditedNumber → (category : Category) (i : Item) (bytes : List ℕ) (v w : Amount) → GivesUnder category i bytes v → GivesUnder category i bytes w → v ≡ w
one_as law Numeric i bytes v w x y = one_unedited law i bytes v w x y
one_as law NumericEdited i bytes v w x y = one_unedited law i bytes v w x y
one_as law Alphanumeric i bytes v w x y = x.value ∙ sym y.value
one_as law Alphabetic i bytes v w x y = absurd x
one_as law AlphanumericEdited i bytes v w x y = absurd x

one_in : OneSentNumber → (reading : Reading) (i : Item) (bytes : List ℕ) (v w : Amount) → IsNumberIn reading i bytes v → IsNumberIn reading i bytes w → v ≡ w
one_in law reading i bytes v w x y =
    let same = law reading i bytes v.negative w.negative v.digits w.digits x.represents y.represents in
    same_amount v w same.0 same.1 (x.point ∙ sym y.point)

one_figure : (f : Figurative) (v w : Amount) → FigureGives f v → FigureGives f w → v ≡ w
one_figure Zero v w x y = x ∙ sym y
one_figure Space v w x y = absurd x
one_figure HighValue v w x y = absurd x
one_figure LowValue v w x y = absurd x
one_figure Quote v w x y = absurd x

one_constant : (c : PlainValue) (v w : Amount) → ConstantGives c v → ConstantGives c w → v ≡ w
one_constant (constant.Numeric sign negative digits scale) v w x y = x ∙ sym y
one_constant (Quoted t) v w x y = x.value ∙ sym y.value
one_constant (Figure f) v w x y = one_figure f v w x y
one_constant (Repeated t) v w x y = absurd x

one_amount : Laws → (s : Sent) (v w : Amount) → GivesNumber s v → GivesNumber s w → v ≡ w
one_amount law (Entry Group bytes reading) v w x y = absurd x
one_amount law (Entry (ItemKind i) bytes reading) v w x y =
    one_of (is_number i) (IsNumberIn reading i bytes) (GivesUnder i.picture.category i bytes) v w (one_in law.number reading i bytes v w) (one_as law.value i.picture.category i bytes v w) x y
one_amount law (Literal c) v w x y = one_constant c v w x y

-- ---- what is compared

one_number_order : Laws → (a b : Sent) (o p : Ordering) → NumbersCompared a b o → NumbersCompared a b p → o ≡ p
one_number_order law a b o p (v, w, x, y, is) (f, g, z, u, also) =
    is ∙ ap (λ (k : Amount). amount_order k w) (one_amount law a v f x z) ∙ ap (amount_order f) (one_amount law b w g y u) ∙ sym also

one_text_order : Laws → (a b : Sent) (o p : Ordering) → TextsCompared a b o → TextsCompared a b p → o ≡ p
one_text_order law a b o p (v, w, x, is) (f, g, z, also) =
    let same = one_characters law a b v w f g x z in
    is ∙ ap (λ (k : List ℕ). text_order k w) same.0 ∙ ap (text_order f) same.1 ∙ sym also

one_compared : Laws → (a b : Sent) (o p : Ordering) → IsCompared a b o → IsCompared a b p → o ≡ p
one_compared law a b o p x y =
    one_of (compares_numbers (kind_of_sent a) (kind_of_sent b)) (NumbersCompared a b) (TextsCompared a b) o p (one_number_order law a b o p) (one_text_order law a b o p) x y

as_numbers : (a b : Sent) (o : Ordering) → compares_numbers (kind_of_sent a) (kind_of_sent b) ≡ true → IsCompared a b o → NumbersCompared a b o
as_numbers a b o e x = subst (λ (c : Bool). MatchBool c (NumbersCompared a b o) (TextsCompared a b o)) e x

compared_or_without : (a b : Sent) (o : Ordering) (which : WithoutValue) → IsCompared a b o → IsWithoutValue a b which → ⊥
compared_or_without a b o First x (e, none) = let (v, w, p, q, is) = as_numbers a b o e x in none v p
compared_or_without a b o Second x (e, some, none) = let (v, w, p, q, is) = as_numbers a b o e x in none w q

one_without : (a b : Sent) (x y : WithoutValue) → IsWithoutValue a b x → IsWithoutValue a b y → x ≡ y
one_without a b First First p q = refl
one_without a b First Second (e, none) (f, (v, has), other) = absurd (none v has)
one_without a b Second First (f, (v, has), other) (e, none) = absurd (none v has)
one_without a b Second Second p q = refl

pub one_comparison : Laws → OneComparison
one_comparison law a b (Ok o) (Ok p) x y = ap (λ (k : Ordering). Ok k) (one_compared law a b o p x y)
one_comparison law a b (Ok o) (Err which) x y = absurd (compared_or_without a b o which x y)
one_comparison law a b (Err which) (Ok o) x y = absurd (compared_or_without a b o which y x)
one_comparison law a b (Err which) (Err other) x y = ap (λ (k : WithoutValue). Err k) (one_without a b which other x y)

-- ---- what a condition says, where what operands give is one thing, and so what two of them compare to

same_ok : {A S : Type 0} (a b : A) → ◌≡◌ {A = Result A S} (Ok a) (Ok b) → a ≡ b
same_ok a b e = cc

same_err : {A S : Type 0} (a b : S) → ◌≡◌ {A = Result A S} (Err a) (Err b) → a ≡ b
same_err a b e = cc

ok_or_err : {A S : Type 0} (a : A) (b : S) → ◌≡◌ {A = Result A S} (Ok a) (Err b) → ⊥
ok_or_err a b e = cc

-- one order of two operands
order_of_same : OneComparison → (x y z u : Sent) (o p : Ordering) → x ≡ z → y ≡ u → IsCompared x y o → IsCompared z u p → o ≡ p
order_of_same law x y z u o p e f c d =
    same_ok o p (law z u (Ok o) (Ok p) (subst (λ (k : Sent). IsCompared k u o) e (subst (λ (k : Sent). IsCompared x k o) f c)) d)

same_or_without : (x y z u : Sent) (o : Ordering) (which : WithoutValue) → x ≡ z → y ≡ u → IsCompared x y o → IsWithoutValue z u which → ⊥
same_or_without x y z u o which e f c l =
    compared_or_without z u o which (subst (λ (k : Sent). IsCompared k u o) e (subst (λ (k : Sent). IsCompared x k o) f c)) l

without_of_same : (x y z u : Sent) (a b : WithoutValue) → x ≡ z → y ≡ u → IsWithoutValue x y a → IsWithoutValue z u b → a ≡ b
without_of_same x y z u a b e f c l =
    one_without z u a b (subst (λ (k : Sent). IsWithoutValue k u a) e (subst (λ (k : Sent). IsWithoutValue x k a) f c)) l

one_relation : OneComparison → {S : Type 0} (gives : Sender → Result Sent S → Type 0) (lacks : Sender → S → Type 0) → GivesOne gives → LacksOne lacks → (a : Sender) (relation : Ordering) (b : Sender) (r s : Result Bool S)
    → SaysRelation gives lacks a relation b r → SaysRelation gives lacks a relation b s → r ≡ s
one_relation law gives lacks one stops a relation b (Ok v) (Ok w) (x, y, o, p, q, c, is) (z, u, k, m, n, d, also) =
    let e : x ≡ z = same_ok x z (one a (Ok x) (Ok z) p m) in
    let f : y ≡ u = same_ok y u (one b (Ok y) (Ok u) q n) in
    ap (λ (t : Bool). Ok t) (is ∙ ap (is_relation relation) (order_of_same law x y z u o k e f c d) ∙ sym also)
one_relation law gives lacks one stops a relation b (Ok v) (Err t) (x, y, o, p, q, c, is) (inl m) = absurd (ok_or_err x t (one a (Ok x) (Err t) p m))
one_relation law gives lacks one stops a relation b (Ok v) (Err t) (x, y, o, p, q, c, is) (inr (inl (z, m, n))) = absurd (ok_or_err y t (one b (Ok y) (Err t) q n))
one_relation law gives lacks one stops a relation b (Ok v) (Err t) (x, y, o, p, q, c, is) (inr (inr (z, u, which, m, n, l, stop))) =
    absurd (same_or_without x y z u o which (same_ok x z (one a (Ok x) (Ok z) p m)) (same_ok y u (one b (Ok y) (Ok u) q n)) c l)
one_relation law gives lacks one stops a relation b (Err t) (Ok v) (inl m) (x, y, o, p, q, c, is) = absurd (ok_or_err x t (one a (Ok x) (Err t) p m))
one_relation law gives lacks one stops a relation b (Err t) (Ok v) (inr (inl (z, m, n))) (x, y, o, p, q, c, is) = absurd (ok_or_err y t (one b (Ok y) (Err t) q n))
one_relation law gives lacks one stops a relation b (Err t) (Ok v) (inr (inr (z, u, which, m, n, l, stop))) (x, y, o, p, q, c, is) =
    absurd (same_or_without x y z u o which (same_ok x z (one a (Ok x) (Ok z) p m)) (same_ok y u (one b (Ok y) (Ok u) q n)) c l)
one_relation law gives lacks one stops a relation b (Err t) (Err v) (inl p) (inl q) = ap Err (same_err t v (one a (Err t) (Err v) p q))
one_relation law gives lacks one stops a relation b (Err t) (Err v) (inl p) (inr (inl (x, q, k))) = absurd (ok_or_err x t (one a (Ok x) (Err t) q p))
one_relation law gives lacks one stops a relation b (Err t) (Err v) (inl p) (inr (inr (x, y, which, q, k, l, stop))) = absurd (ok_or_err x t (one a (Ok x) (Err t) q p))
one_relation law gives lacks one stops a relation b (Err t) (Err v) (inr (inl (x, p, k))) (inl q) = absurd (ok_or_err x v (one a (Ok x) (Err v) p q))
one_relation law gives lacks one stops a relation b (Err t) (Err v) (inr (inl (x, p, k))) (inr (inl (z, q, m))) = ap Err (same_err t v (one b (Err t) (Err v) k m))
one_relation law gives lacks one stops a relation b (Err t) (Err v) (inr (inl (x, p, k))) (inr (inr (z, u, which, q, m, l, stop))) = absurd (ok_or_err u t (one b (Ok u) (Err t) m k))
one_relation law gives lacks one stops a relation b (Err t) (Err v) (inr (inr (x, y, which, p, k, l, stop))) (inl q) = absurd (ok_or_err x v (one a (Ok x) (Err v) p q))
one_relation law gives lacks one stops a relation b (Err t) (Err v) (inr (inr (x, y, which, p, k, l, stop))) (inr (inl (z, q, m))) = absurd (ok_or_err y v (one b (Ok y) (Err v) k m))
one_relation law gives lacks one stops a relation b (Err t) (Err v) (inr (inr (x, y, which, p, k, l, stop))) (inr (inr (z, u, other, q, m, j, also))) =
    let e : x ≡ z = same_ok x z (one a (Ok x) (Ok z) p q) in
    let f : y ≡ u = same_ok y u (one b (Ok y) (Ok u) k m) in
    let same : which ≡ other = without_of_same x y z u which other e f l j in
    ap Err (stops (one_of_two a b other) t v (subst (λ (w : WithoutValue). lacks (one_of_two a b w) t) same stop) also)

same_truth : (v w : Bool) → (v ≡ true → w ≡ true) → (w ≡ true → v ≡ true) → v ≡ w
same_truth true w f g = sym (f refl)
same_truth false true f g = g refl
same_truth false false f g = refl

one_class : {S : Type 0} (gives : Sender → Result Sent S → Type 0) → GivesOne gives → (a : Sender) (class : Class) (r s : Result Bool S) → SaysClass gives a class r → SaysClass gives a class s → r ≡ s
one_class gives one a class (Ok v) (Ok w) (x, p, (to, from)) (z, q, (there, back)) =
    let e : x ≡ z = same_ok x z (one a (Ok x) (Ok z) p q) in
    ap (λ (t : Bool). Ok t) (same_truth v w
    (λ h. back (subst (λ (k : Sent). IsInClass class k) e (to h)))
    (λ h. from (subst (λ (k : Sent). IsInClass class k) (sym e) (there h))))
one_class gives one a class (Ok v) (Err t) (x, p, is) q = absurd (ok_or_err x t (one a (Ok x) (Err t) p q))
one_class gives one a class (Err t) (Ok v) p (x, q, is) = absurd (ok_or_err x t (one a (Ok x) (Err t) q p))
one_class gives one a class (Err t) (Err v) p q = ap Err (same_err t v (one a (Err t) (Err v) p q))

true_or_false : {S : Type 0} → ◌≡◌ {A = Result Bool S} (Ok true) (Ok false) → ⊥
true_or_false e = cc

pub one_says : OneComparison → {S : Type 0} (gives : Sender → Result Sent S → Type 0) (lacks : Sender → S → Type 0) → GivesOne gives → LacksOne lacks → (c : Condition) (r s : Result Bool S)
    → Says gives lacks c r → Says gives lacks c s → r ≡ s
one_says law gives lacks one stops Always r s p q = p ∙ sym q
one_says law gives lacks one stops (Compares a relation b) r s p q = one_relation law gives lacks one stops a relation b r s p q
one_says law gives lacks one stops (HasClass a class) r s p q = one_class gives one a class r s p q
one_says law gives lacks one stops (Not c) r s (x, p, is) (y, q, also) = is ∙ ap negated (one_says law gives lacks one stops c x y p q) ∙ sym also
one_says law gives lacks one stops (Both c d) r s (inl (p, u)) (inl (q, v)) = one_says law gives lacks one stops d r s u v
one_says law gives lacks one stops (Both c d) r s (inl (p, u)) (inr (inl (q, v))) = absurd (true_or_false (one_says law gives lacks one stops c (Ok true) (Ok false) p q))
one_says law gives lacks one stops (Both c d) r s (inl (p, u)) (inr (inr (stop, q, v))) = absurd (ok_or_err true stop (one_says law gives lacks one stops c (Ok true) (Err stop) p q))
one_says law gives lacks one stops (Both c d) r s (inr (inl (p, u))) (inl (q, v)) = absurd (true_or_false (one_says law gives lacks one stops c (Ok true) (Ok false) q p))
one_says law gives lacks one stops (Both c d) r s (inr (inl (p, u))) (inr (inl (q, v))) = u ∙ sym v
one_says law gives lacks one stops (Both c d) r s (inr (inl (p, u))) (inr (inr (stop, q, v))) = absurd (ok_or_err false stop (one_says law gives lacks one stops c (Ok false) (Err stop) p q))
one_says law gives lacks one stops (Both c d) r s (inr (inr (stop, p, u))) (inl (q, v)) = absurd (ok_or_err true stop (one_says law gives lacks one stops c (Ok true) (Err stop) q p))
one_says law gives lacks one stops (Both c d) r s (inr (inr (stop, p, u))) (inr (inl (q, v))) = absurd (ok_or_err false stop (one_says law gives lacks one stops c (Ok false) (Err stop) q p))
one_says law gives lacks one stops (Both c d) r s (inr (inr (stop, p, u))) (inr (inr (halt, q, v))) =
    u ∙ ap Err (same_err stop halt (one_says law gives lacks one stops c (Err stop) (Err halt) p q)) ∙ sym v
one_says law gives lacks one stops (Either c d) r s (inl (p, u)) (inl (q, v)) = one_says law gives lacks one stops d r s u v
one_says law gives lacks one stops (Either c d) r s (inl (p, u)) (inr (inl (q, v))) = absurd (true_or_false (one_says law gives lacks one stops c (Ok true) (Ok false) q p))
one_says law gives lacks one stops (Either c d) r s (inl (p, u)) (inr (inr (stop, q, v))) = absurd (ok_or_err false stop (one_says law gives lacks one stops c (Ok false) (Err stop) p q))
one_says law gives lacks one stops (Either c d) r s (inr (inl (p, u))) (inl (q, v)) = absurd (true_or_false (one_says law gives lacks one stops c (Ok true) (Ok false) p q))
one_says law gives lacks one stops (Either c d) r s (inr (inl (p, u))) (inr (inl (q, v))) = u ∙ sym v
one_says law gives lacks one stops (Either c d) r s (inr (inl (p, u))) (inr (inr (stop, q, v))) = absurd (ok_or_err true stop (one_says law gives lacks one stops c (Ok true) (Err stop) p q))
one_says law gives lacks one stops (Either c d) r s (inr (inr (stop, p, u))) (inl (q, v)) = absurd (ok_or_err false stop (one_says law gives lacks one stops c (Ok false) (Err stop) q p))
one_says law gives lacks one stops (Either c d) r s (inr (inr (stop, p, u))) (inr (inl (q, v))) = absurd (ok_or_err true stop (one_says law gives lacks one stops c (Ok true) (Err stop) q p))
one_says law gives lacks one stops (Either c d) r s (inr (inr (stop, p, u))) (inr (inr (halt, q, v))) =
    u ∙ ap Err (same_err stop halt (one_says law gives lacks one stops c (Err stop) (Err halt) p q)) ∙ sym v

pub one_saying : OneComparison → {S : Type 0} (gives : Sender → Result Sent S → Type 0) (lacks : Sender → S → Type 0) → OneSaying gives lacks
one_saying law gives lacks one stops c r s p q = one_says law gives lacks one stops c r s p q
