-- The count of each table of a record is an item of it that is a whole number.
use Rattle.std.proofs.Common.{◌≡◌, sym, subst, ap, ◌∙◌, ℕ, ◌+◌, ◌<◌, ◌≤◌, List, [], ◌∷◌, ◌++◌, drop, append_assoc, append-nil, refl, arith, Option, Some, None, Bool, true, false, inl, inr}
use Rattle.std.specs.Prelude.{unwrap_or, pos, is_some, ◌||◌, ◌&&◌, not}
use Rattle.std.specs.List.{AllByRecursion}
use Rattle.std.proofs.lemmas.Bool.{MatchBool-at_true}
use Rattle.cob_picture.specs.Positions.{PlainPicture}
use Rattle.cob_picture.specs.Counts.{scale, size}
use Rattle.cob_copybook_entry.specs.declared.kinds.Usage.{Usage}
use Rattle.cob_copybook_entry.specs.declared.kinds.Usage.TheVariants.{Display}
use Rattle.cob_copybook_entry.specs.declared.kinds.Sign.{Sign}
use Rattle.cob_copybook_entry.specs.Described as described
use Rattle.cob_copybook_entry.specs.Described.{PlainEntry}
use Rattle.cob_copybook_tree.specs.declared.node.Item.{Item}
use Rattle.cob_copybook_tree.specs.declared.node.Kind.{Kind}
use Rattle.cob_copybook_tree.specs.declared.node.Kind.TheVariants.{Item as ItemKind}
use Rattle.cob_copybook_tree.specs.Forests.{Forest, NoEntries, AnEntry, flat, entries_in}
use Rattle.cob_copybook_tree.specs.Nodes.{Resolved}
use Rattle.cob_copybook_tree.specs.Lengths.{item_size}
use Rattle.cob_copybook_tree.specs.Resolving.{count_at, inherited, is_numeric, kind_by_picture, times_of, resolved_by, resolved, is_number}
use Rattle.cob_copybook_names.specs.Naming.{Bearer, is_named, named, with_name}
use Rattle.cob_copybook_names.specs.Entries.{NumberedEntry, bearers, bearer_at}
use Rattle.cob_copybook_names.specs.Counts.{IsCountOfTable, IsCountOf, AreCounts}
use Rattle.cob_copybook_tree.specs.Items.{IsNumberItem, IsStorable}
use Rattle.cob_layout_places.specs.declared.varying.Table.{Table}
use Rattle.cob_layout_places.specs.Places.{is_table, or_else, choose}
use Rattle.cob_layout_places.specs.Needs.{Has}
use Rattle.cob_layout_places.proofs.NeedLaw.{low, high}
use Rattle.cob_layout_places.specs.Counts.{table_of, tables_of, kind_in, IsCountable}
use Rattle.cob_layout.specs.Sound.{IsStorableKind, AreStorable, InTable, IsAhead}
use Rattle.cob_layout.proofs.Lists.{all_append, all_kept, all_map, first_left, others_left, same, differs}
use Rattle.cob_layout.proofs.Numbers.{numbered, same_entries}

-- ---- each entry has its own count

-- the count that stands by each entry's number is its own
abbrev pub HaveCounts : List (Bearer NumberedEntry) → List (Option ℕ) → ℕ → Forest PlainEntry → Type 0
HaveCounts all counts n NoEntries = Unit {0}
HaveCounts all counts n (AnEntry e children more) =
    IsCountOf all n e.occurs (count_at counts n) × HaveCounts all counts (n + 1) children × HaveCounts all counts (n + 1 + entries_in children) more

-- the counts of these entries stand by their numbers, and those of the entries behind them are left
have_counts : (all : List (Bearer NumberedEntry)) (counts : List (Option ℕ)) (n : ℕ) (f : Forest PlainEntry) (rest : List PlainEntry) → AreCounts all n (flat f ++ rest) (drop n counts)
    → HaveCounts all counts n f × AreCounts all (n + entries_in f) rest (drop (n + entries_in f) counts)
have_counts all counts n NoEntries rest h = (tt, subst (λ (k : ℕ). AreCounts all k rest (drop k counts)) (omega arith) h)
have_counts all counts n (AnEntry e children more) rest h =
    let (count, others, cut, here, behind) = h in
    let own : IsCountOf all n e.occurs (count_at counts n) = subst (λ (c : Option ℕ). IsCountOf all n e.occurs c) (sym (first_left counts others n count cut)) here in
    let next : AreCounts all (n + 1) ((flat children ++ flat more) ++ rest) (drop (n + 1) counts) = subst (AreCounts all (n + 1) ((flat children ++ flat more) ++ rest)) (sym (others_left counts others n count cut)) behind in
    let apart : AreCounts all (n + 1) (flat children ++ (flat more ++ rest)) (drop (n + 1) counts) = subst (λ (es : List PlainEntry). AreCounts all (n + 1) es (drop (n + 1) counts)) (append_assoc (flat children) (flat more) rest) next in
    let below = have_counts all counts (n + 1) children (flat more ++ rest) apart in
    let beside = have_counts all counts (n + 1 + entries_in children) more rest below.1 in
    ((own, below.0, beside.0), subst (λ (k : ℕ). AreCounts all k rest (drop k counts)) (omega arith) beside.1)

-- ---- what an entry that bears a name describes stands under its number

-- under this number stands an item with this picture that can be stored, and isn't edited by BLANK WHEN ZERO
pub record IsPlainItem (o : Option Kind) (p : PlainPicture) : Type 0 where
  pub item : Item
  pub is : o ≡ Some (ItemKind item)
  pub picture : item.picture ≡ p
  pub plain : item.blank ≡ false
  pub storable : IsStorable item

-- the entry describes such an item, if it has a picture and isn't edited so
abbrev pub IsDescribed : Forest Resolved → Bearer NumberedEntry → Type 0
IsDescribed g b = (p : PlainPicture) → b.entry.picture ≡ Some p → b.entry.blank ≡ false → IsPlainItem (kind_in b.entry.number g) p

-- what stands under the numbers from this one on in these entries stands there in those too
abbrev Shows : ℕ → Forest Resolved → Forest Resolved → Type 0
Shows n f g = (number : ℕ) (k : Kind) → n ≤ number → kind_in number f ≡ Some k → kind_in number g ≡ Some k

plain_item : (picture : Option PlainPicture) (usage : Usage) (sign : Option Sign) (justified blank : Bool) (p : PlainPicture) → picture ≡ Some p → blank ≡ false
    → IsStorableKind (kind_by_picture picture usage sign justified blank) → IsPlainItem (Some (kind_by_picture picture usage sign justified blank)) p
plain_item None usage sign justified blank p is plain h = absurd (cc)
plain_item (Some q) usage sign justified blank p is plain h =
    record { item = _; is = refl; picture = cc; plain = plain; storable = h }

-- an entry of a smaller number isn't the one that is looked for
passed : (e : Resolved) (children more : Forest Resolved) (number : ℕ) → e.number < number → kind_in number (AnEntry e children more) ≡ or_else (kind_in number children) (kind_in number more)
passed e children more number h = ap (λ (b : Bool). or_else (choose b e.kind (kind_in number children)) (kind_in number more)) (differs e.number number h)

-- none of the entries has a number past theirs
none_past : (counts : List (Option ℕ)) (n : ℕ) (usage : Option Usage) (sign : Option Sign) (f : Forest PlainEntry) (number : ℕ) → n + entries_in f ≤ number
    → kind_in number (resolved counts n usage sign f) ≡ None
none_past counts n usage sign NoEntries number h = refl
none_past counts n usage sign (AnEntry e children more) number h =
    let u = inherited usage e.usage in
    let v = inherited sign e.sign in
    let below = resolved counts (n + 1) u v children in
    let beside = resolved counts (n + 1 + entries_in children) usage sign more in
    passed (resolved_by n (count_at counts n) u v e) below beside number (omega (arith, h))
    ∙ ap (λ (o : Option Kind). or_else o (kind_in number beside)) (none_past counts (n + 1) u v children number (omega (arith, h)))
    ∙ none_past counts (n + 1 + entries_in children) usage sign more number (omega (arith, h))

-- what the first entry describes is shown under its number
first_shown : (counts : List (Option ℕ)) (above : List (List ℕ)) (in_table : Bool) (n : ℕ) (usage : Option Usage) (sign : Option Sign) (e : PlainEntry) (children more g : Forest Resolved)
    → IsStorableKind (resolved_by n (count_at counts n) usage sign e).kind → Shows n (AnEntry (resolved_by n (count_at counts n) usage sign e) children more) g
    → IsDescribed g (bearer_at above in_table n e)
first_shown counts above in_table n usage sign e children more g s h p is plain =
    let kind = kind_by_picture e.picture (unwrap_or usage Display) sign e.justified e.blank in
    let i = plain_item e.picture (unwrap_or usage Display) sign e.justified e.blank p is plain s in
    let there : kind_in n g ≡ Some kind = h n kind (omega arith) (ap (λ (b : Bool). or_else (choose b kind (kind_in n children)) (kind_in n more)) (same n)) in
    record { item = i.item; is = there ∙ i.is; picture = i.picture; plain = i.plain; storable = i.storable }

-- each entry is shown under its number
shown : (counts : List (Option ℕ)) (above : List (List ℕ)) (in_table : Bool) (n : ℕ) (usage : Option Usage) (sign : Option Sign) (f : Forest PlainEntry) (g : Forest Resolved)
    → AreStorable (resolved counts n usage sign f) → Shows n (resolved counts n usage sign f) g → AllByRecursion (IsDescribed g) (bearers above in_table n f)
shown counts above in_table n usage sign NoEntries g s h = tt
shown counts above in_table n usage sign (AnEntry e children more) g s h =
    let u = inherited usage e.usage in
    let v = inherited sign e.sign in
    let table = in_table || is_some e.occurs in
    let entry = resolved_by n (count_at counts n) u v e in
    let below = resolved counts (n + 1) u v children in
    let beside = resolved counts (n + 1 + entries_in children) usage sign more in
    let here = first_shown counts above table n u v e below beside g s.0 h in
    let under = shown counts (with_name e.name above) table (n + 1) u v children g s.1 (λ number k past is.
    h number k (omega (arith, past)) (passed entry below beside number (omega (arith, past)) ∙ ap (λ (o : Option Kind). or_else o (kind_in number beside)) is)) in
    let behind = shown counts above in_table (n + 1 + entries_in children) usage sign more g s.2 (λ number k past is.
    h number k (omega (arith, past)) (passed entry below beside number (omega (arith, past)) ∙ ap (λ (o : Option Kind). or_else o (kind_in number beside)) (none_past counts (n + 1) u v children number past) ∙ is)) in
    (here, all_append (IsDescribed g) _ _ under behind)

-- what is so of all entries is so of the one that is named
the_one : (name : List ℕ) (qualifiers : List (List ℕ)) (P : Bearer NumberedEntry → Type 0) (all : List (Bearer NumberedEntry)) (b : Bearer NumberedEntry) → named name qualifiers all ≡ b ∷ []
    → AllByRecursion P all → P b
the_one name qualifiers P all b only h = (subst (AllByRecursion P) only (all_kept P (λ c. is_named name qualifiers c) all h)).0

-- ---- an entry that is told to be in no table stands beneath none

-- such an entry stands beneath none of these
abbrev pub IsOutside : Forest Resolved → Bearer NumberedEntry → Type 0
IsOutside g b = b.entry.in_table ≡ false → InTable b.entry.number g → ⊥

in_has : (a : ℕ) (f : Forest Resolved) → InTable a f → Has a f
in_has a NoEntries h = h
in_has a (AnEntry e children more) (inl h) = inr (inl h.1)
in_has a (AnEntry e children more) (inr (inl h)) = inr (inl (in_has a children h))
in_has a (AnEntry e children more) (inr (inr h)) = inr (inr (in_has a more h))

no_table : (o : Option described.PlainOccurs) (count : Option ℕ) → is_some o ≡ false → is_table (times_of o count) ≡ true → ⊥
no_table None count e t = cc
no_table (Some x) count e t = cc

-- in a table all are told to be in one
all_in : (above : List (List ℕ)) (n : ℕ) (f : Forest PlainEntry) (g : Forest Resolved) → AllByRecursion (IsOutside g) (bearers above true n f)
all_in above n NoEntries g = tt
all_in above n (AnEntry e children more) g =
    ((λ e t. absurd (cc)), all_append (IsOutside g) _ _ (all_in (with_name e.name above) (n + 1) children g) (all_in above (n + 1 + entries_in children) more g))

-- what stands beneath a table in those entries stands beneath one in these, which are numbered from here on
abbrev Keeps : ℕ → ℕ → Forest Resolved → Forest Resolved → Type 0
Keeps n m f g = (b : ℕ) → n ≤ b → b < m → InTable b g → InTable b f

outside : (counts : List (Option ℕ)) (above : List (List ℕ)) (n : ℕ) (usage : Option Usage) (sign : Option Sign) (f : Forest PlainEntry) (g : Forest Resolved)
    → Keeps n (n + entries_in f) (resolved counts n usage sign f) g → AllByRecursion (IsOutside g) (bearers above false n f)
outside counts above n usage sign NoEntries g h = tt
outside counts above n usage sign (AnEntry e children more) g h =
    let u = inherited usage e.usage in
    let v = inherited sign e.sign in
    let below = resolved counts (n + 1) u v children in
    let beside = resolved counts (n + 1 + entries_in children) usage sign more in
    let many = same_entries counts (n + 1) u v children in
    let ordered = numbered counts (n + 1) u v children in
    let ordered_beside = numbered counts (n + 1 + entries_in children) usage sign more in
    let here : IsOutside g (bearer_at above (is_some e.occurs) n e) = λ no is. elim (h n (omega arith) (omega arith) is) [
      | inl t ↦ absurd (omega (arith, low (n + 1) n below ordered t.1))
      | inr rest ↦ elim rest [
        | inl t ↦ absurd (omega (arith, low (n + 1) n below ordered (in_has n below t)))
        | inr t ↦ absurd (omega (arith, low (n + 1 + entries_in children) n beside ordered_beside (in_has n beside t)))
      ]
    ] in
    let inner : is_some e.occurs ≡ false → Keeps (n + 1) (n + 1 + entries_in children) below g = λ single b l m is. elim (h b (omega (arith, l)) (omega (arith, m)) is) [
      | inl t ↦ absurd (no_table e.occurs (count_at counts n) single t.0)
      | inr rest ↦ elim rest [
        | inl t ↦ t
        | inr t ↦ absurd (omega (arith, m, low (n + 1 + entries_in children) b beside ordered_beside (in_has b beside t)))
      ]
    ] in
    let past : (b : ℕ) → n + 1 + entries_in children ≤ b → Has b below → ⊥ = λ b l is. omega (arith, l, many, high (n + 1) b below ordered is) in
    let outer : Keeps (n + 1 + entries_in children) (n + 1 + entries_in children + entries_in more) beside g = λ b l m is. elim (h b (omega (arith, l)) (omega (arith, m)) is) [
      | inl t ↦ absurd (past b l t.1)
      | inr rest ↦ elim rest [
        | inl t ↦ absurd (past b l (in_has b below t))
        | inr t ↦ t
      ]
    ] in
    let under = by (is_some e.occurs) (with_name e.name above) (λ single. outside counts (with_name e.name above) (n + 1) u v children g (inner single)) in
    let behind = outside counts above (n + 1 + entries_in children) usage sign more g outer in
    (here, all_append (IsOutside g) _ _ under behind)
  where
    by : (table : Bool) (names : List (List ℕ)) → (table ≡ false → AllByRecursion (IsOutside g) (bearers names false (n + 1) children)) → AllByRecursion (IsOutside g) (bearers names table (n + 1) children)
    by true names go = all_in names (n + 1) children g
    by false names go = go refl

-- ---- each table is countable

-- among these entries the table's count is a number without a fraction, stands before the table, and beneath none
pub record IsCountedIn (g : Forest Resolved) (x : Table) : Type 0 where
  pub item : Item
  pub is : kind_in x.count g ≡ Some (ItemKind item)
  pub number : IsNumberItem item
  pub whole : scale item.picture.positions ≡ pos 0
  pub before : x.count < x.number
  pub single : InTable x.count g → ⊥

number_item : (i : Item) → is_numeric i.picture.category ≡ true → i.blank ≡ false → IsStorable i → IsNumberItem i
number_item i numeric plain h =
    let number : is_number i ≡ true = ap (λ (b : Bool). b && not i.blank) numeric ∙ ap not plain in
    MatchBool-at_true (IsNumberItem i) (item_size i ≡ size i.picture.positions) number h

counted : (all : List (Bearer NumberedEntry)) (g : Forest Resolved) (name : List ℕ) (qualifiers : List (List ℕ)) (x : Table) → AllByRecursion (IsDescribed g) all → AllByRecursion (IsOutside g) all
    → IsCountOfTable all x.number name qualifiers x.count → IsCountedIn g x
counted all g name qualifiers x shows out h =
    let b = h.bearer.entry in
    let i : IsPlainItem (kind_in b.number g) h.may.picture = the_one name qualifiers (IsDescribed g) all h.bearer h.only shows h.may.picture h.may.has h.may.plain in
    record {
      item = i.item;
      is = ap (λ (m : ℕ). kind_in m g) (sym h.number) ∙ i.is;
      number = number_item i.item (ap (λ (p : PlainPicture). is_numeric p.category) i.picture ∙ h.may.whole.number) i.plain i.storable;
      whole = ap (λ (p : PlainPicture). scale p.positions) i.picture ∙ h.may.whole.whole;
      before = h.before;
      single = subst (λ (m : ℕ). InTable m g → ⊥) h.number (the_one name qualifiers (IsOutside g) all h.bearer h.only out h.may.single);
    }

table_counted : (all : List (Bearer NumberedEntry)) (g : Forest Resolved) (n : ℕ) (o : Option described.PlainOccurs) (count : Option ℕ) → AllByRecursion (IsDescribed g) all → AllByRecursion (IsOutside g) all
    → IsCountOf all n o count → AllByRecursion (IsCountedIn g) (table_of (times_of o count) n)
table_counted all g n None count shows out h = tt
table_counted all g n (Some (described.Fixed times)) count shows out h = tt
table_counted all g n (Some (described.Varying least most name qualifiers)) None shows out h = absurd h
table_counted all g n (Some (described.Varying least most name qualifiers)) (Some count) shows out h =
    (counted all g name qualifiers (record { number = n; least = least; most = most; count = count }) shows out h, tt)

tables_counted : (all : List (Bearer NumberedEntry)) (g : Forest Resolved) (counts : List (Option ℕ)) (n : ℕ) (usage : Option Usage) (sign : Option Sign) (f : Forest PlainEntry) → AllByRecursion (IsDescribed g) all
    → AllByRecursion (IsOutside g) all → HaveCounts all counts n f → AllByRecursion (IsCountedIn g) (tables_of (resolved counts n usage sign f))
tables_counted all g counts n usage sign NoEntries shows out h = tt
tables_counted all g counts n usage sign (AnEntry e children more) shows out h =
    all_append (IsCountedIn g) _ _
    (table_counted all g n e.occurs (count_at counts n) shows out h.0)
    (all_append (IsCountedIn g) _ _
    (tables_counted all g counts (n + 1) (inherited usage e.usage) (inherited sign e.sign) children shows out h.1)
    (tables_counted all g counts (n + 1 + entries_in children) usage sign more shows out h.2))

-- the tables of a record whose items can be stored are counted
pub all_counted : (counts : List (Option ℕ)) (f : Forest PlainEntry) → AreCounts (bearers [] false 0 f) 0 (flat f) counts → AreStorable (resolved counts 0 None None f)
    → AllByRecursion (IsCountedIn (resolved counts 0 None None f)) (tables_of (resolved counts 0 None None f))
all_counted counts f h s =
    let all = bearers [] false 0 f in
    let g = resolved counts 0 None None f in
    let shows = shown counts [] false 0 None None f g s (λ number k past is. is) in
    let own = have_counts all counts 0 f [] (subst (λ (es : List PlainEntry). AreCounts all 0 es counts) (sym (append-nil (flat f))) h) in
    let out = outside counts [] 0 None None f g (λ b l m is. is) in
    tables_counted all g counts 0 None None f shows out own.0

-- the count of each table of a record is an item without a fraction
pub countable : (t : Forest Resolved) (xs : List Table) → AllByRecursion (IsCountedIn t) xs → AllByRecursion (IsCountable t) xs
countable t xs h = all_map (IsCountedIn t) (IsCountable t) xs (λ x c. record { item = c.item; is = c.is; number = c.number; whole = c.whole }) h

-- and its count stands ahead of it
pub ahead : (t : Forest Resolved) (xs : List Table) → AllByRecursion (IsCountedIn t) xs → AllByRecursion (IsAhead t) xs
ahead t xs h = all_map (IsCountedIn t) (IsAhead t) xs (λ x c. record { before = c.before; single = c.single }) h
