-- Each item of a record is sound.
use Rattle.std.proofs.Common.{◌≡◌, ◌⊎◌, ℕ, zero, suc, ◌+◌, ◌<◌, ◌==◌, Bool, true, false, not, ◌&&◌, ◌||◌, List, [], ◌∷◌, ◌++◌, length, get_or, replicate, Option, Some, None, refl, sym, ap, subst, ◌∙◌, arith, inl, inr}
use Rattle.std.specs.Prelude.{if◌then◌else◌, unwrap_or}
use Rattle.std.specs.List.{AllByRecursion, flat_map, list_any}
use Rattle.cob_source.specs.Tokens.{Lexeme}
use Rattle.cob_picture.specs.declared.symbol.Symbol.{Symbol}
use Rattle.cob_picture.specs.declared.symbol.Symbol.TheVariants.{S, V, P, Nine}
use Rattle.cob_picture.specs.declared.position.PositionRole.TheVariants as role
use Rattle.cob_picture.specs.declared.position.Position.{Position}
use Rattle.cob_picture.specs.declared.category.Category.{Category}
use Rattle.cob_picture.specs.declared.category.Category.TheVariants.{Alphabetic, Numeric, Alphanumeric, AlphanumericEdited, NumericEdited}
use Rattle.cob_picture.specs.Positions.{PlainPicture, floating, is_that, positions, positions_from, role_at, shows_number}
use Rattle.cob_picture.specs.Counts.{digits, signed}
use Rattle.cob_picture.specs.Numeric.{numeric_symbols}
use Rattle.cob_picture.specs.Pictures.{IsPicture, IsPictureOf}
use Rattle.cob_picture.proofs.Placed.{MayFloat, floating_may}
use Rattle.cob_edit.specs.declared.place.EditedPlace.{EditedPlace}
use Rattle.cob_edit.specs.declared.place.EditedPlace.TheVariants.{Inserted, Point, Digit, Suppressed, Floating, First, Fixed, AssumedPoint}
use Rattle.cob_edit.specs.Editing.{place_at, region_start, shows_sign}
use Rattle.cob_edit.specs.Places.{is_fixed_sign, is_floating_sign}
use Rattle.cob_edit.specs.Pictured.{places, position_places}
use Rattle.cob_edit.specs.Regions.{SignsAreShown}
use Rattle.cob_copybook_entry.specs.declared.kinds.Usage.{Usage}
use Rattle.cob_copybook_entry.specs.declared.kinds.Usage.TheVariants.{Display}
use Rattle.cob_copybook_entry.specs.declared.kinds.Sign.{Sign}
use Rattle.cob_copybook_entry.specs.Described.{PlainEntry}
use Rattle.cob_copybook_tree.specs.declared.node.Item.{Item}
use Rattle.cob_copybook_tree.specs.declared.node.Kind.{Kind}
use Rattle.cob_copybook_tree.specs.declared.node.Kind.TheVariants.{Group, Item as ItemKind}
use Rattle.cob_copybook_tree.specs.Forests.{Forest, NoEntries, AnEntry, entries_in, flat}
use Rattle.cob_copybook_tree.specs.Nodes.{Resolved}
use Rattle.cob_copybook_tree.specs.Resolving.{inherited, is_number, is_numeric, kind_by_picture, resolved}
use Rattle.cob_copybook_clauses.specs.Entries.{is_condition}
use Rattle.cob_copybook_entries.specs.Meaning.{IsOption}
use Rattle.cob_copybook_entries.specs.Books.{AreDescribed, IsSentence}
use Rattle.cob_copybook_rules.specs.Placements.{ArePlaced, CanBeBlank, MayBeBlank}
use Rattle.cob_copybook.specs.declared.role.Role.{Role}
use Rattle.cob_copybook.specs.Books.{IsRecordDescription, implied, with_record}
use Rattle.cob_copybook_tree.specs.Items.{IsStorable}
use Rattle.cob_layout_places.specs.Counts.{kind_in}
use Rattle.cob_layout_places.specs.Places.{choose, or_else}
use Rattle.cob_layout.specs.Sound.{AreStorable, IsStorableKind, RecordsAreSound}
use Rattle.cob_back_moves.specs.Laws.{IsSoundItem, ItemsAreSound}

-- ---- a numeric picture shows no sign

abbrev is_dull : EditedPlace → Bool
is_dull Digit = true
is_dull AssumedPoint = true
is_dull (Inserted byte) = false
is_dull Point = false
is_dull (Suppressed fill) = false
is_dull Floating = false
is_dull (First mark) = false
is_dull (Fixed mark) = false

abbrev AreDull : List EditedPlace → Type 0
AreDull ps = AllByRecursion (λ p. is_dull p ≡ true) ps

all_append : {X : Type 0} (Q : X → Type 0) (xs ys : List X) → AllByRecursion Q xs → AllByRecursion Q ys → AllByRecursion Q (xs ++ ys)
all_append Q [] ys h k = k
all_append Q (x ∷ xs) ys h k = (h.0, all_append Q xs ys h.1 k)

all_replicate : {X : Type 0} (Q : X → Type 0) (n : ℕ) (x : X) → Q x → AllByRecursion Q (replicate n x)
all_replicate Q zero x h = tt
all_replicate Q (suc n) x h = (h, all_replicate Q n x h)

-- wherever this symbol stands in a numeric picture, it shows no sign
abbrev StandsDull : Symbol → Type 0
StandsDull s = (q : Option Symbol) (seen : Bool) → MayFloat q → AreDull (position_places (role_at Numeric (is_that q s) seen s) s)

settled : (q : Option Symbol) (seen : Bool) (s : Symbol) → is_that q s ≡ false → AreDull (position_places (role_at Numeric false seen s) s) → AreDull (position_places (role_at Numeric (is_that q s) seen s) s)
settled q seen s e h = subst (λ (b : Bool). AreDull (position_places (role_at Numeric b seen s) s)) (sym e) h

thin : (b : Bool) (n : ℕ) → n ≡ 0 → (b ≡ true → n ≡ 1) → b ≡ false
thin false n z h = refl
thin true n z h = absurd (omega (arith, h refl))

dull_s : StandsDull S
dull_s q seen may = settled q seen S (thin (is_that q S) 0 refl (may.wide S)) tt

dull_v : StandsDull V
dull_v q seen may = settled q seen V (thin (is_that q V) 0 refl (may.wide V)) (refl, tt)

dull_p : StandsDull P
dull_p q seen may = settled q seen P (thin (is_that q P) 0 refl (may.wide P)) tt

dull_nine : StandsDull Nine
dull_nine q seen may = settled q seen Nine (may.not_plain Nine refl) (refl, tt)

dull_from : (q : Option Symbol) (seen : Bool) (xs : List Symbol) → MayFloat q → AllByRecursion StandsDull xs → AreDull (places (positions_from Numeric q seen xs))
dull_from q seen [] may h = tt
dull_from q seen (s ∷ xs) may h =
    all_append (λ p. is_dull p ≡ true) (position_places (role_at Numeric (is_that q s) seen s) s) (places (positions_from Numeric q (seen || is_that q s) xs))
    (h.0 q seen may) (dull_from q (seen || is_that q s) xs may h.1)

dull_picture : (symbols : List Symbol) → IsPicture Numeric symbols → AreDull (places (positions Numeric symbols))
dull_picture symbols is =
    let n = is.order.0 in
    let all : AllByRecursion StandsDull (numeric_symbols n)
    = all_append StandsDull (replicate n.signs S) _ (all_replicate StandsDull n.signs S dull_s)
    (all_append StandsDull (replicate n.points V) _ (all_replicate StandsDull n.points V dull_v)
    (all_append StandsDull (replicate n.left P) _ (all_replicate StandsDull n.left P dull_p)
    (all_append StandsDull (replicate n.nines Nine) _ (all_replicate StandsDull n.nines Nine dull_nine)
    (all_append StandsDull (replicate n.right P) _ (all_replicate StandsDull n.right P dull_p)
    (all_append StandsDull (replicate n.after V) _ (all_replicate StandsDull n.after V dull_v) (all_replicate StandsDull n.fraction Nine dull_nine)))))) in
    dull_from (floating symbols) false symbols (floating_may symbols) (subst (AllByRecursion StandsDull) (sym is.order.2) all)

not_fixed : (p : EditedPlace) → is_dull p ≡ true → (is_fixed_sign p ≡ false) × (is_floating_sign p ≡ false)
not_fixed Digit e = (refl, refl)
not_fixed AssumedPoint e = (refl, refl)
not_fixed (Inserted byte) e = (refl, refl)
not_fixed Point e = (refl, refl)
not_fixed (Suppressed fill) e = (refl, refl)
not_fixed Floating e = (refl, refl)
not_fixed (First mark) e = absurd (cc)
not_fixed (Fixed mark) e = absurd (cc)

none_fixed : (ps : List EditedPlace) → AreDull ps → list_any is_fixed_sign ps ≡ false
none_fixed [] h = refl
none_fixed (p ∷ ps) h = list_any_cons p ps (not_fixed p h.0).0 (none_fixed ps h.1)
  where
    list_any_cons : (p : EditedPlace) (ps : List EditedPlace) → is_fixed_sign p ≡ false → list_any is_fixed_sign ps ≡ false → list_any is_fixed_sign (p ∷ ps) ≡ false
    list_any_cons p ps a b = rw (a, b) refl

none_floats : (ps : List EditedPlace) (j : ℕ) → AreDull ps → is_floating_sign (place_at ps j) ≡ false
none_floats [] j h = refl
none_floats (p ∷ ps) zero h = (not_fixed p h.0).1
none_floats (p ∷ ps) (suc j) h = none_floats ps j h.1

shows_none : (ps : List EditedPlace) → AreDull ps → shows_sign ps ≡ false
shows_none ps h = rw (none_fixed ps h, none_floats ps (region_start ps) h) refl

-- ---- the pictures of a text's entries

abbrev PictureIs : Option PlainPicture → Type 0
PictureIs None = Unit {0}
PictureIs (Some p) = (text : List ℕ) × IsPictureOf text p

abbrev EntryIs : PlainEntry → Type 0
EntryIs d = PictureIs d.picture

picture_is : (w : Option (List ℕ)) (p : Option PlainPicture) → IsOption IsPictureOf w p → PictureIs p
picture_is w None h = tt
picture_is None (Some p) h = absurd h
picture_is (Some text) (Some p) h = (text, h)

sentence_is : (b : Bool) (s : List Lexeme) (ds more : List PlainEntry) → IsSentence b s ds more → AllByRecursion EntryIs more → AllByRecursion EntryIs ds
sentence_is true s ds more (is, e) h = subst (AllByRecursion EntryIs) (sym e) h
sentence_is false s ds more (d, is, e) h = subst (AllByRecursion EntryIs) (sym e) (picture_is is.written.clauses.picture d.picture is.means.picture, h)

described_is : (ss : List (List Lexeme)) (ds : List PlainEntry) → AreDescribed ss ds → AllByRecursion EntryIs ds
described_is [] ds h = subst (AllByRecursion EntryIs) (sym h) tt
described_is (s ∷ ss) ds (none, (more, is, rest)) = sentence_is (is_condition s) s ds more is (described_is ss more rest)

with_is : (role : Role) (ds : List PlainEntry) → AllByRecursion EntryIs ds → AllByRecursion EntryIs (with_record role ds)
with_is role [] h = (tt, tt)
with_is role (d ∷ ds) h = at (d.level == 1)
  where
    at : (b : Bool) → AllByRecursion EntryIs (if b then d ∷ ds else implied role ∷ d ∷ ds)
    at true = h
    at false = (tt, h)

-- ---- the items of the tree

-- the picture is that of some text, and where BLANK WHEN ZERO makes a number an edited one, it has no sign
pub record IsPictured (i : Item) : Type 0 where
  pub text : List ℕ
  pub is : IsPictureOf text i.picture
  pub unsigned : i.blank ≡ true → i.picture.category ≡ Numeric → signed i.picture.positions ≡ false

abbrev KindIs : Kind → Type 0
KindIs Group = Unit {0}
KindIs (ItemKind i) = IsPictured i

abbrev AreKinds : (Kind → Type 0) → Forest Resolved → Type 0
AreKinds Q NoEntries = Unit {0}
AreKinds Q (AnEntry e children more) = Q e.kind × AreKinds Q children × AreKinds Q more

unsigned_if : (c : Category) (usage : Usage) (ps : List Position) → CanBeBlank c usage ps → c ≡ Numeric → signed ps ≡ false
unsigned_if Numeric usage ps h e = h.1
unsigned_if NumericEdited usage ps h e = cc
unsigned_if Alphabetic usage ps h e = absurd h
unsigned_if Alphanumeric usage ps h e = absurd h
unsigned_if AlphanumericEdited usage ps h e = absurd h

item_is : (p : Option PlainPicture) (usage : Usage) (sign : Option Sign) (right blank : Bool) → PictureIs p → MayBeBlank blank usage p → KindIs (kind_by_picture p usage sign right blank)
item_is None usage sign right blank h may = tt
item_is (Some p) usage sign right false h may = record { text = h.0; is = h.1; unsigned = λ never numeric. cc }
item_is (Some p) usage sign right true h may = record { text = h.0; is = h.1; unsigned = λ b numeric. unsigned_if p.category usage p.positions may numeric }

front : (xs ys : List PlainEntry) → AllByRecursion EntryIs (xs ++ ys) → AllByRecursion EntryIs xs
front [] ys h = tt
front (x ∷ xs) ys h = (h.0, front xs ys h.1)

back : (xs ys : List PlainEntry) → AllByRecursion EntryIs (xs ++ ys) → AllByRecursion EntryIs ys
back [] ys h = h
back (x ∷ xs) ys h = back xs ys h.1

resolved_is : (counts : List (Option ℕ)) (n : ℕ) (usage : Option Usage) (sign : Option Sign) (f : Forest PlainEntry) → AllByRecursion EntryIs (flat f) → ArePlaced usage f → AreKinds KindIs (resolved counts n usage sign f)
resolved_is counts n usage sign NoEntries h placed = tt
resolved_is counts n usage sign (AnEntry e children more) h placed = (
  item_is e.picture (unwrap_or (inherited usage e.usage) Display) (inherited sign e.sign) e.justified e.blank h.0 placed.1,
  resolved_is counts (n + 1) (inherited usage e.usage) (inherited sign e.sign) children (front (flat children) (flat more) h.1) placed.2,
  resolved_is counts (n + 1 + entries_in children) usage sign more (back (flat children) (flat more) h.1) placed.3,
)

-- ---- one of them

kind_or : (Q : Kind → Type 0) (o p : Option Kind) (k : Kind) → ((k : Kind) → o ≡ Some k → Q k) → ((k : Kind) → p ≡ Some k → Q k) → or_else o p ≡ Some k → Q k
kind_or Q None p k h j e = j k e
kind_or Q (Some x) p k h j e = h k e

kind_choose : (Q : Kind → Type 0) (b : Bool) (x : Kind) (o : Option Kind) (k : Kind) → Q x → ((k : Kind) → o ≡ Some k → Q k) → choose b x o ≡ Some k → Q k
kind_choose Q true x o k s h e = let same : x ≡ k = cc in subst Q same s
kind_choose Q false x o k s h e = h k e

kind_is : (Q : Kind → Type 0) (number : ℕ) (f : Forest Resolved) → AreKinds Q f → (k : Kind) → kind_in number f ≡ Some k → Q k
kind_is Q number NoEntries s k e = cc
kind_is Q number (AnEntry e children more) s k is =
    kind_or Q (choose (e.number == number) e.kind (kind_in number children)) (kind_in number more) k
    (λ x. kind_choose Q (e.number == number) e.kind (kind_in number children) x s.0 (kind_is Q number children s.1))
    (kind_is Q number more s.2) is

storable_kinds : (f : Forest Resolved) → AreStorable f → AreKinds IsStorableKind f
storable_kinds NoEntries h = tt
storable_kinds (AnEntry e children more) h = (h.0, storable_kinds children h.1, storable_kinds more h.2)

blank_if : (c : Category) (blank : Bool) → c ≡ Numeric → (is_numeric c && not blank) ≡ false → blank ≡ true
blank_if Numeric true e h = refl
blank_if Numeric false e h = absurd (cc)
blank_if Alphabetic blank e h = cc
blank_if Alphanumeric blank e h = cc
blank_if AlphanumericEdited blank e h = cc
blank_if NumericEdited blank e h = cc

category_of : (c : Category) → shows_number c ≡ true → (c ≡ Numeric) ⊎ (c ≡ NumericEdited)
category_of Numeric e = inl refl
category_of NumericEdited e = inr refl
category_of Alphabetic e = absurd (cc)
category_of Alphanumeric e = absurd (cc)
category_of AlphanumericEdited e = absurd (cc)

sound_item : SignsAreShown → (i : Item) → IsPictured i → IsStorable i → IsSoundItem i
sound_item law i pictured storable =
    let is = pictured.is in
    let picture = is.is in
    record {
      storable = storable;
      picture = (is.symbols, picture, is.positions);
      some = λ shows. subst (λ (ps : List Position). 0 < digits ps) (sym is.positions) (picture.limits.some_digits shows);
      signs = λ shows edited. elim (category_of i.picture.category shows) [
        | inl numeric ↦
            let unsigned = pictured.unsigned (blank_if i.picture.category i.blank numeric edited) numeric in
            let as_numeric : IsPicture Numeric is.symbols = subst (λ (c : Category). IsPicture c is.symbols) numeric picture in
            let at : i.picture.positions ≡ positions Numeric is.symbols = is.positions ∙ ap (λ (c : Category). positions c is.symbols) numeric in
            ap (λ (ps : List Position). shows_sign (places ps)) at ∙ shows_none (places (positions Numeric is.symbols)) (dull_picture is.symbols as_numeric) ∙ sym unsigned
        | inr text ↦ law pictured.text i.picture is text
      ];
    }

pub items_are_sound : SignsAreShown → RecordsAreSound → ItemsAreSound
items_are_sound law sound t r i (role, text, book) kind =
    let is = book.is in
    let all = subst (AllByRecursion EntryIs) (sym book.has.with) (with_is role book.has.entries (described_is _ book.has.entries book.has.are_entries.entries)) in
    let kinds = resolved_is is.stored.counts 0 None None is.written (subst (AllByRecursion EntryIs) (sym is.stands.entries) all) is.agree.placements in
    let pictured : KindIs (ItemKind i) = kind_is KindIs r t (subst (AreKinds KindIs) (sym is.stored.tree) kinds) (ItemKind i) kind in
    let storable : IsStorableKind (ItemKind i) = kind_is IsStorableKind r t (storable_kinds t (sound t (role, text, book)).storable) (ItemKind i) kind in
    sound_item law i pictured storable
