-- How keys are ordered, and what of a record they are.
use Rattle.std.proofs.Common.{◌≡◌, ◌<◌, ◌≤◌, ℕ, zero, suc, ◌+◌, ◌*◌, ◌^◌, Bool, true, false, true≢false, List, [], ◌∷◌, ◌++◌, length, take, drop, map, refl, sym, subst, ap, ◌∙◌, arith, inl, inr, None, Some, Option, is_some, Ordering, Less, Equal, Greater, nat_cmp, append-nil}
use Rattle.std.specs.Cmp.{nat_cmp_is, nat_cmp_total, ranks}
use Rattle.std.specs.Cmp.Lexicographic.{slice_cmp}
use Rattle.std.specs.List.{AllByRecursion}
use Rattle.std.specs.Prelude.{IfSome}
use Rattle.std.specs.Ordering.{is_gt, ordering_reverse, ordering_then}
use Rattle.std.proofs.lemmas.Cmp.{by_ranked, nat_list_cmp_total}
use Rattle.std.proofs.lemmas.List.{drop_at, length-drop, length-take-le, take_at}
use Rattle.std.proofs.Math.Nat.{mul-le-mul_right}
use Rattle.cob_copybook.specs.Books.{IsRecordDescription}
use Rattle.cob_copybook_tree.specs.declared.node.Item.{Item}
use Rattle.cob_copybook_tree.specs.Forests.{Forest}
use Rattle.cob_copybook_tree.specs.Items.{HoldsNumbers, IsNumberItem, Represents}
use Rattle.cob_copybook_tree.specs.Lengths.{item_size}
use Rattle.cob_copybook_tree.specs.Nodes.{Resolved}
use Rattle.cob_decimal.specs.declared.number.Number.{Number}
use Rattle.cob_decimal.specs.Answers.{AnswersNumber}
use Rattle.cob_decimal.specs.Decimal.{IsDigits, number_of}
use Rattle.cob_decimal.proofs.DecimalLemmas.{number_of-lt}
use Rattle.cob_layout.specs.declared.fields.Place.{Place}
use Rattle.cob_layout.specs.Fields.{field_of}
use Rattle.cob_layout.specs.Laws.{EndInLength}
use Rattle.cob_layout.specs.Sound.{RecordsAreSound}
use Rattle.cob_report_show.specs.Elements.{AllStand, AreSubscriptsUpTo, NamedItem, Printed, StandsWithin, named_in, named_item, table_times}
use Rattle.cob_report_show.specs.declared.named.ListedItem.{ListedItem}
use Rattle.cob_report_show.specs.Records.{HoldsRecord}
use Rattle.cob_report_show.proofs.ElementLemmas.{items_stand}
use Rattle.cob_report_compare.specs.Files.{StandsBelowHeld, StandsInOrder}
use Rattle.cob_report_compare.specs.Keys.{AreKeyBytes, AreKeyParts, IsAmong, IsKeyItem, IsKeyPart, IsNoKeyAt, IsNoNumber, KeyPart, KeyStandsAt, Letters, Numeral, digits_order, key_order, key_size, number_order, part_order}

-- ---- numbers

-- a quotient that is greater makes the whole greater
greater_quotient : (d e p q x y : ℕ) → d < e → x < p → p ≡ q → d * p + x < e * q + y
greater_quotient d e p q x y low below units =
    let more : (d + 1) * p ≤ e * p = mul-le-mul_right p (omega (arith, low)) in
    let same : e * p ≡ e * q = ap (λ n. e * n) units in
    let next : (d + 1) * p ≡ d * p + p = omega arith in
    omega (arith, more, same, next, below)

-- digits of one length are ordered as the numbers that they stand for
pub digits_are_ordered : (ds es : List ℕ) → IsDigits ds → IsDigits es → length ds ≡ length es → slice_cmp nat_cmp ds es ≡ nat_cmp (number_of ds) (number_of es)
digits_are_ordered [] [] left right same = refl
digits_are_ordered [] (e ∷ es) left right same = absurd (omega (arith, same))
digits_are_ordered (d ∷ ds) [] left right same = absurd (omega (arith, same))
digits_are_ordered (d ∷ ds) (e ∷ es) left right same =
    by_ranked (d < e) (d ≡ e) (e < d) (nat_cmp d e) (ranks d e)
    (λ is low. ap (λ (o : Ordering). ordering_then o (slice_cmp nat_cmp ds es)) is
    ∙ nat_cmp_is (number_of (d ∷ ds)) (number_of (e ∷ es)) Less
    (greater_quotient d e (10 ^ length ds) (10 ^ length es) (number_of ds) (number_of es) low (number_of-lt ds left.1) units))
    (λ is one. ap (λ (o : Ordering). ordering_then o (slice_cmp nat_cmp ds es)) is ∙ digits_are_ordered ds es left.1 right.1 places ∙ rest one)
    (λ is high. ap (λ (o : Ordering). ordering_then o (slice_cmp nat_cmp ds es)) is
    ∙ nat_cmp_is (number_of (d ∷ ds)) (number_of (e ∷ es)) Greater
    (greater_quotient e d (10 ^ length es) (10 ^ length ds) (number_of es) (number_of ds) high (number_of-lt es right.1) (sym units)))
  where
    places : length ds ≡ length es
    places = omega (arith, same)

    units : 10 ^ length ds ≡ 10 ^ length es
    units = ap (λ n. 10 ^ n) places

    rest : d ≡ e → nat_cmp (number_of ds) (number_of es) ≡ nat_cmp (number_of (d ∷ ds)) (number_of (e ∷ es))
    rest one =
        let front : d * 10 ^ length ds ≡ e * 10 ^ length es = ap (λ n. n * 10 ^ length ds) one ∙ ap (λ n. e * n) units in
        by_ranked (number_of ds < number_of es) (number_of ds ≡ number_of es) (number_of es < number_of ds) (nat_cmp (number_of ds) (number_of es)) (ranks (number_of ds) (number_of es))
        (λ is low. is ∙ nat_cmp_is (number_of (d ∷ ds)) (number_of (e ∷ es)) Less (omega (arith, front, low)))
        (λ is alike. is ∙ nat_cmp_is (number_of (d ∷ ds)) (number_of (e ∷ es)) Equal (omega (arith, front, alike)))
        (λ is high. is ∙ nat_cmp_is (number_of (d ∷ ds)) (number_of (e ∷ es)) Greater (omega (arith, front, high)))

-- ---- both ways

part_back : (a b : KeyPart) → part_order a b ≡ ordering_reverse (part_order b a)
part_back (Numeral false m) (Numeral false n) = nat_cmp_total.antisymm m n
part_back (Numeral false m) (Numeral true n) = refl
part_back (Numeral true m) (Numeral false n) = refl
part_back (Numeral true m) (Numeral true n) = nat_cmp_total.antisymm n m
part_back (Numeral a m) (Letters ys) = refl
part_back (Letters xs) (Numeral b n) = refl
part_back (Letters xs) (Letters ys) = nat_list_cmp_total.antisymm xs ys

then_back : (a b c d : Ordering) → a ≡ ordering_reverse b → c ≡ ordering_reverse d → ordering_then a c ≡ ordering_reverse (ordering_then b d)
then_back a Less c d is rest = ap (λ (o : Ordering). ordering_then o c) is
then_back a Equal c d is rest = ap (λ (o : Ordering). ordering_then o c) is ∙ rest
then_back a Greater c d is rest = ap (λ (o : Ordering). ordering_then o c) is

-- the one key stands to the other as the other to the one, the other way round
pub key_back : (a b : List KeyPart) → key_order a b ≡ ordering_reverse (key_order b a)
key_back [] [] = refl
key_back [] (q ∷ b) = refl
key_back (p ∷ a) [] = refl
key_back (p ∷ a) (q ∷ b) = then_back (part_order p q) (part_order q p) (key_order a b) (key_order b a) (part_back p q) (key_back a b)

pub above_back : (a b : List KeyPart) → key_order a b ≡ Greater → key_order b a ≡ Less
above_back a b above = key_back b a ∙ ap ordering_reverse above

-- ---- the items of a key

all_of : (P : NamedItem → Type 0) (x : NamedItem) (xs : List NamedItem) → IsAmong x xs → AllByRecursion P xs → P x
all_of P x [] among all = absurd among
all_of P x (y ∷ ys) (inl same) all = subst P (sym same) all.0
all_of P x (y ∷ ys) (inr among) all = all_of P x ys among all.1

-- an item of a key stands within each record
pub key_stands : RecordsAreSound → EndInLength → (r : Printed) (x : NamedItem) → IsRecordDescription r.tree → HoldsRecord r.tree r.places (length r.bytes) → IsKeyItem (named_in [] r.tree) x
    → StandsWithin r x []
key_stands sounds law r x described (laid, long) (among, none) =
    all_of (λ (y : NamedItem). AllStand r y y.tables []) x (named_in [] r.tree) among (items_stand sounds law r described laid long) []
    (subst (λ (ts : List ℕ). AreSubscriptsUpTo (table_times r ts) []) (sym none) refl)

-- and is as long as its bytes
pub key_long : (r : Printed) (x : NamedItem) (place : Place) → KeyStandsAt r x place → place.length ≡ item_size x.item → length (field_of place r.bytes) ≡ item_size x.item
key_long r x place stands sized = length-take-le place.length (drop place.offset r.bytes) (omega (arith, stands.within, length-drop place.offset r.bytes)) ∙ sized

-- ---- numbers of a key

number_of_part : (i : Item) (bytes : List ℕ) (v : Number) → IsNumberItem i → ((negative : Bool) (digits : List ℕ) → Represents i bytes negative digits → (v.negative ≡ negative) × (v.digits ≡ digits))
    → (p : KeyPart) → IsKeyPart i bytes p → p ≡ Numeral v.negative (number_of v.digits)
number_of_part i bytes v number only (Numeral negative n) (is, (digits, represents, value)) =
    let same = only negative digits represents in
    ap (λ (b : Bool). Numeral b n) (sym same.0) ∙ ap (λ (m : ℕ). Numeral v.negative m) (value ∙ ap number_of (sym same.1))
number_of_part i bytes v number only (Letters text) (none, is) = absurd (none number)

-- bytes that represent no number are no part of a key
pub no_part : (i : Item) (bytes : List ℕ) → IsNumberItem i → ((negative : Bool) (digits : List ℕ) → Represents i bytes negative digits → ⊥) → (p : KeyPart) → IsKeyPart i bytes p → ⊥
no_part i bytes number none (Numeral negative n) (is, (digits, represents, value)) = none negative digits represents
no_part i bytes number none (Letters text) (other, is) = other number

-- characters are ordered by their bytes
pub letters_stand : (i : Item) (left right : List ℕ) (o : Ordering) → (IsNumberItem i → ⊥) → o ≡ slice_cmp nat_cmp left right → (p q : KeyPart) → IsKeyPart i left p → IsKeyPart i right q
    → o ≡ part_order p q
letters_stand i left right o none is (Numeral a m) q one two = absurd (none one.0)
letters_stand i left right o none is (Letters xs) (Numeral b n) one two = absurd (none two.0)
letters_stand i left right o none is (Letters xs) (Letters ys) one two =
    is ∙ ap (λ (bs : List ℕ). slice_cmp nat_cmp bs right) (sym one.1) ∙ ap (λ (bs : List ℕ). slice_cmp nat_cmp xs bs) (sym two.1)

-- and numbers by their values
pub numbers_stand : HoldsNumbers → (i : Item) (left right : List ℕ) (v w : Number) (o : Ordering) → IsNumberItem i → Represents i left v.negative v.digits → Represents i right w.negative w.digits
    → ((negative : Bool) (digits : List ℕ) → Represents i left negative digits → (v.negative ≡ negative) × (v.digits ≡ digits))
    → ((negative : Bool) (digits : List ℕ) → Represents i right negative digits → (w.negative ≡ negative) × (w.digits ≡ digits))
    → o ≡ digits_order v.negative v.digits w.negative w.digits → (p q : KeyPart) → IsKeyPart i left p → IsKeyPart i right q → o ≡ part_order p q
numbers_stand law i left right v w o number found other only_left only_right is p q one two =
    is ∙ by v.negative w.negative
    ∙ sym (ap (λ (x : KeyPart). part_order x q) (number_of_part i left v number only_left p one)
    ∙ ap (λ (x : KeyPart). part_order (Numeral v.negative (number_of v.digits)) x) (number_of_part i right w number only_right q two))
  where
    same : length v.digits ≡ length w.digits
    same = (law i left v.negative v.digits number found).count_is ∙ sym (law i right w.negative w.digits number other).count_is

    by : (a b : Bool) → digits_order a v.digits b w.digits ≡ number_order a (number_of v.digits) b (number_of w.digits)
    by false false = digits_are_ordered v.digits w.digits (law i left v.negative v.digits number found).valid (law i right w.negative w.digits number other).valid same
    by false true = refl
    by true false = refl
    by true true = digits_are_ordered w.digits v.digits (law i right w.negative w.digits number other).valid (law i left v.negative v.digits number found).valid (sym same)

-- ---- keys item by item

pub none_stand : (one other : List KeyPart) → one ≡ [] → other ≡ [] → Equal ≡ key_order one other
none_stand one other is also = sym (ap (λ (k : List KeyPart). key_order k other) is ∙ ap (λ (k : List KeyPart). key_order [] k) also)

pub keys_stand : (x : NamedItem) (xs : List NamedItem) (left right : List ℕ) (o r : Ordering)
    → ((p q : KeyPart) → IsKeyPart x.item (take (item_size x.item) left) p → IsKeyPart x.item (take (item_size x.item) right) q → o ≡ part_order p q)
    → (o ≡ Equal → (one other : List KeyPart) → AreKeyParts xs (drop (item_size x.item) left) one → AreKeyParts xs (drop (item_size x.item) right) other → r ≡ key_order one other)
    → (one other : List KeyPart) → AreKeyParts (x ∷ xs) left one → AreKeyParts (x ∷ xs) right other → ordering_then o r ≡ key_order one other
keys_stand x xs left right o r item rest [] other one two = absurd one
keys_stand x xs left right o r item rest (p ∷ ps) [] one two = absurd two
keys_stand x xs left right o r item rest (p ∷ ps) (q ∷ qs) one two = by o (item p q one.0 two.0) (λ alike. rest alike ps qs one.1 two.1)
  where
    by : (o : Ordering) → o ≡ part_order p q → (o ≡ Equal → r ≡ key_order ps qs) → ordering_then o r ≡ ordering_then (part_order p q) (key_order ps qs)
    by Less first rest = ap (λ (c : Ordering). ordering_then c (key_order ps qs)) first
    by Equal first rest = rest refl ∙ ap (λ (c : Ordering). ordering_then c (key_order ps qs)) first
    by Greater first rest = ap (λ (c : Ordering). ordering_then c (key_order ps qs)) first

-- the bytes of a first item, and those of the others behind them
pub parts_first : (x : NamedItem) (xs : List NamedItem) (front behind slot : List ℕ) (part : KeyPart) (key : List KeyPart) → length front ≡ item_size x.item → IsKeyPart x.item front part
    → AreKeyParts xs behind key → slot ≡ front ++ behind → AreKeyParts (x ∷ xs) slot (part ∷ key)
parts_first x xs front behind slot part key long is rest e =
    let n = item_size x.item in (
      subst (λ (bs : List ℕ). IsKeyPart x.item bs part) (sym (ap (λ (bs : List ℕ). take n bs) e ∙ take_at front behind n long)) is,
      subst (λ (bs : List ℕ). AreKeyParts xs bs key) (sym (ap (λ (bs : List ℕ). drop n bs) e ∙ drop_at front behind n long)) rest,
    )

-- items of a key among the named ones
pub among_behind : (xs : List ListedItem) (i : ℕ) (x : NamedItem) → IsAmong x (map named_item (drop i xs)) → IsAmong x (map named_item xs)
among_behind xs zero x among = among
among_behind [] (suc i) x among = among
among_behind (y ∷ ys) (suc i) x among = inr (among_behind ys i x among)

-- ---- the key before

-- what an order of two keys says of them, whichever they are
abbrev pub OrdersKeys : List NamedItem → List ℕ → List ℕ → Ordering → Type 0
OrdersKeys keys left right o = (one other : List KeyPart) → AreKeyParts keys left one → AreKeyParts keys right other → o ≡ key_order one other

is_above : (o : Ordering) → is_gt o ≡ true → o ≡ Greater
is_above Less is = absurd (true≢false (sym is))
is_above Equal is = absurd (true≢false (sym is))
is_above Greater is = refl

some_keys : (keys : List NamedItem) (left right : List ℕ) (o : Ordering) → OrdersKeys keys left right o → is_gt o ≡ true → 0 < length keys
some_keys [] left right o orders above = absurd (true≢false (sym above ∙ ap is_gt (orders [] [] refl refl)))
some_keys (x ∷ xs) left right o orders above = omega arith

pub stands_below : (keys : List NamedItem) (held next : List ℕ) (first : Bool) (o : Ordering) (r : Bool) → OrdersKeys keys held next o → r ≡ is_gt o → first ≡ false → r ≡ true
    → StandsBelowHeld keys held next first
stands_below keys held next first o r orders is more above =
    let over = sym is ∙ above in
    (more, some_keys keys held next o orders over, λ old key one other. sym (orders old key one other) ∙ is_above o over)

pub stands_in_order : (keys : List NamedItem) (held next : List ℕ) (first : Bool) (o : Ordering) (r : Bool) → OrdersKeys keys held next o → r ≡ is_gt o → r ≡ false
    → StandsInOrder keys held next first
stands_in_order keys held next first o r orders is not_above = λ more old key one other. ap is_gt (sym (orders old key one other)) ∙ sym is ∙ not_above

-- ---- items of a key in calls

pub none_stand_of : (keys : List ListedItem) (left right : List ℕ) → length keys ≡ 0 → OrdersKeys (map named_item keys) left right Equal
none_stand_of [] left right none = none_stand_all
  where
    none_stand_all : OrdersKeys [] left right Equal
    none_stand_all = λ one other is also. none_stand one other is also
none_stand_of (k ∷ ks) left right none = absurd (omega (arith, none))

-- bytes that a call reads as a number are part of a key, and others of a number item are not
pub is_part : (i : Item) (bytes : List ℕ) (answer : Option Number) → IsNumberItem i → IfSome answer (λ v. Represents i bytes v.negative v.digits) → is_some answer ≡ true
    → (part : KeyPart) × IsKeyPart i bytes part
is_part i bytes None number found some = absurd (true≢false (sym some))
is_part i bytes (Some v) number found some = (Numeral v.negative (number_of v.digits), (number, (v.digits, found, refl)))

pub is_no_part : (i : Item) (bytes : List ℕ) (answer : Option Number) → IsNumberItem i → ((negative : Bool) (digits : List ℕ) → Represents i bytes negative digits → AnswersNumber answer negative digits)
    → is_some answer ≡ false → IsNoNumber i bytes
is_no_part i bytes None number only none = (number, λ negative digits represents. only negative digits represents)
is_no_part i bytes (Some v) number only none = absurd (true≢false none)

-- a first item, and those behind it
pub first_stand : (keys : List ListedItem) (key : ListedItem) (further : List ListedItem) (left right one other left_behind right_behind : List ℕ) (o r : Ordering) → keys ≡ key ∷ further
    → one ≡ take (item_size key.item) left → other ≡ take (item_size key.item) right → left_behind ≡ drop (item_size key.item) left → right_behind ≡ drop (item_size key.item) right
    → ((p q : KeyPart) → IsKeyPart key.item one p → IsKeyPart key.item other q → o ≡ part_order p q) → (o ≡ Equal → OrdersKeys (map named_item further) left_behind right_behind r)
    → OrdersKeys (map named_item keys) left right (ordering_then o r)
first_stand keys key further left right one other left_behind right_behind o r is one_is other_is left_is right_is item rest =
    subst (λ (ks : List ListedItem). OrdersKeys (map named_item ks) left right (ordering_then o r)) (sym is)
    (keys_stand (named_item key) (map named_item further) left right o r
    (λ p q hp hq. item p q (subst (λ (bs : List ℕ). IsKeyPart key.item bs p) (sym one_is) hp) (subst (λ (bs : List ℕ). IsKeyPart key.item bs q) (sym other_is) hq))
    (λ alike a b ha hb. rest alike a b (subst (λ (bs : List ℕ). AreKeyParts (map named_item further) bs a) (sym left_is) ha)
    (subst (λ (bs : List ℕ). AreKeyParts (map named_item further) bs b) (sym right_is) hb)))

pub bytes_taken : (keys : List ListedItem) (key : ListedItem) (further : List ListedItem) (r : Printed) (place : Place) (front behind slot : List ℕ) → keys ≡ key ∷ further
    → KeyStandsAt r (named_item key) place → front ≡ field_of place r.bytes → AreKeyBytes (map named_item further) r behind → slot ≡ front ++ behind → AreKeyBytes (map named_item keys) r slot
bytes_taken keys key further r place front behind slot is stands front_is rest joined =
    subst (λ (ks : List ListedItem). AreKeyBytes (map named_item ks) r slot) (sym is) (place, behind, stands, rest, joined ∙ ap (λ (bs : List ℕ). bs ++ behind) front_is)

pub key_taken : (keys : List ListedItem) (key : ListedItem) (further : List ListedItem) (front behind slot : List ℕ) → keys ≡ key ∷ further → length front ≡ item_size key.item
    → (part : KeyPart) × IsKeyPart key.item front part → (k : List KeyPart) × AreKeyParts (map named_item further) behind k → slot ≡ front ++ behind
    → (k : List KeyPart) × AreKeyParts (map named_item keys) slot k
key_taken keys key further front behind slot is long (part, first) (k, rest) joined = (
  part ∷ k,
  subst (λ (ks : List ListedItem). AreKeyParts (map named_item ks) slot (part ∷ k)) (sym is) (parts_first (named_item key) (map named_item further) front behind slot part k long first rest joined),
)

pub no_key_here : (keys : List ListedItem) (key : ListedItem) (further : List ListedItem) (r : Printed) (place : Place) (front : List ℕ) (offset : ℕ) → keys ≡ key ∷ further
    → KeyStandsAt r (named_item key) place → front ≡ field_of place r.bytes → IsNoNumber key.item front → offset ≡ place.offset → IsNoKeyAt (map named_item keys) r offset
no_key_here keys key further r place front offset is stands front_is none at =
    subst (λ (ks : List ListedItem). IsNoKeyAt (map named_item ks) r offset) (sym is) (place, stands, inl (subst (IsNoNumber key.item) front_is none, at))

pub no_key_behind : (keys : List ListedItem) (key : ListedItem) (further : List ListedItem) (r : Printed) (place : Place) (front : List ℕ) (offset : ℕ) → keys ≡ key ∷ further
    → KeyStandsAt r (named_item key) place → front ≡ field_of place r.bytes → (part : KeyPart) × IsKeyPart key.item front part → IsNoKeyAt (map named_item further) r offset
    → IsNoKeyAt (map named_item keys) r offset
no_key_behind keys key further r place front offset is stands front_is (part, first) behind =
    subst (λ (ks : List ListedItem). IsNoKeyAt (map named_item ks) r offset) (sym is)
    (place, stands, inr ((part, subst (λ (bs : List ℕ). IsKeyPart key.item bs part) front_is first), behind))

-- where no item is left
pub no_bytes_taken : (keys : List ListedItem) (r : Printed) (slot : List ℕ) → length keys ≡ 0 → length slot ≡ key_size (map named_item keys) → AreKeyBytes (map named_item keys) r slot
no_bytes_taken [] r [] none room = refl
no_bytes_taken [] r (b ∷ bytes) none room = absurd (omega (arith, room))
no_bytes_taken (k ∷ ks) r slot none room = absurd (omega (arith, none))

pub no_key_taken : (keys : List ListedItem) (slot : List ℕ) → length keys ≡ 0 → (k : List KeyPart) × AreKeyParts (map named_item keys) slot k
no_key_taken [] slot none = ([], refl)
no_key_taken (k ∷ ks) slot none = absurd (omega (arith, none))
