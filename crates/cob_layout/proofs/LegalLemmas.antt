-- A reference is legal where its subscripts are by the tables that hold its entry and the spots under the greatest counts.
use Rattle.std.proofs.Common.{◌≡◌, ℕ, ◌+◌, ◌<◌, ◌≤◌, ◌==◌, ◌&&◌, nat_le, not, Bool, true, false, List, [], ◌∷◌, ◌++◌, length, map, drop, refl, sym, ap, subst, ◌∙◌, arith, inl, inr, append-nil, append_assoc}
use Rattle.std.proofs.lemmas.Bool.Decides.{nat_tests}
use Rattle.std.proofs.lemmas.List.{drop_more, length-map}
use Rattle.cob_copybook_tree.specs.declared.node.ResolvedOccurs.{ResolvedOccurs}
use Rattle.cob_copybook_tree.specs.declared.node.ResolvedOccurs.TheVariants.{Once, Fixed, Varying}
use Rattle.cob_copybook_tree.specs.Forests.{Forest, NoEntries, AnEntry, entries_in}
use Rattle.cob_copybook_tree.specs.Nodes.{Resolved}
use Rattle.cob_copybook_tree.specs.Lengths.{greatest_number, greatest_number_by, own_length, whole_length}
use Rattle.cob_layout_places.specs.declared.spots.Spot.{Spot}
use Rattle.cob_layout_places.specs.Lengths.{times}
use Rattle.cob_layout_places.specs.Places.{begins, is_table, later}
use Rattle.cob_layout_places.specs.Cover.{AreNumbered}
use Rattle.cob_layout_places.specs.Needs.{Has}
use Rattle.cob_layout_places.specs.References.{IsSubscripted, Refers}
use Rattle.cob_layout_places.specs.Spots.{spots_of}
use Rattle.cob_layout_places.proofs.NeedLaw.{has_number}
use Rattle.cob_layout.specs.Counting.{greatest_counts}
use Rattle.cob_layout.specs.declared.ways.Way.{Way}
use Rattle.cob_layout.specs.Legal.{are_legal, is_subscript}
use Rattle.cob_layout.specs.Sound.{IsSound}
use Rattle.cob_layout.specs.Ways.{Held, held, held_in, held_at, own_table, spot_at}
use Rattle.cob_layout.proofs.AreaLemmas.{is_other}
use Rattle.cob_layout.proofs.EndLemmas.{numbered}
use Rattle.cob_layout.proofs.FindLemmas.{and_both}
use Rattle.cob_layout.proofs.GreatestLemmas.{AreSame, are_most}
use Rattle.cob_layout.proofs.ReferenceLemmas.{refers_has}
use Rattle.cob_layout.proofs.SpotLaw.{AreSpots, AreHeld, are_spots, length_held, nowhere}
use Rattle.cob_layout.proofs.WayLaw.{held_alone}

-- ---- one subscript

both_and : (a b : Bool) → a ≡ true → b ≡ true → (a && b) ≡ true
both_and a b h k = cc

some_of : (s : ℕ) → not (s == 0) ≡ true → 0 < s
some_of s h = grind (arith, nat_tests)

not_none : (s : ℕ) → 0 < s → not (s == 0) ≡ true
not_none s h = ap not (is_other s 0 (λ e. omega (arith, e, h)))

le_tested : (s n : ℕ) → s ≤ n → nat_le s n ≡ true
le_tested s n h = grind (arith, nat_tests)

le_of : (s n : ℕ) → nat_le s n ≡ true → s ≤ n
le_of s n h = grind (arith, nat_tests)

subscript_of : (n s : ℕ) → is_subscript n s ≡ true → (0 < s) × (s ≤ n)
subscript_of n s h = let (some, le) = and_both (not (s == 0)) (nat_le s n) h in (some_of s some, le_of s n le)

of_subscript : (n s : ℕ) → 0 < s → s ≤ n → is_subscript n s ≡ true
of_subscript n s some le = both_and (not (s == 0)) (nat_le s n) (not_none s some) (le_tested s n le)

table_must : (spots : List Spot) (n number : ℕ) (ts : List ℕ) (s : ℕ) (subscripts : List ℕ) → (spot_at spots number).times ≡ n → are_legal (number ∷ ts) spots (s ∷ subscripts) ≡ true
    → ((0 < s) × (s ≤ n)) × (are_legal ts spots subscripts ≡ true)
table_must spots n number ts s subscripts often h =
    let (own, rest) = and_both (is_subscript (spot_at spots number).times s) (are_legal ts spots subscripts) h in
    (subscript_of n s (subst (λ (k : ℕ). is_subscript k s ≡ true) often own), rest)

table_only : (spots : List Spot) (n number : ℕ) (ts : List ℕ) (s : ℕ) (subscripts : List ℕ) → (spot_at spots number).times ≡ n → 0 < s → s ≤ n → are_legal ts spots subscripts ≡ true
    → are_legal (number ∷ ts) spots (s ∷ subscripts) ≡ true
table_only spots n number ts s subscripts often some le rest =
    both_and (is_subscript (spot_at spots number).times s) (are_legal ts spots subscripts) (subst (λ (k : ℕ). is_subscript k s ≡ true) (sym often) (of_subscript n s some le)) rest

-- a table asks for its subscript, and no other entry for one
own_must : (spots : List Spot) (o : ResolvedOccurs) (number : ℕ) (ts subscripts : List ℕ) → (spot_at spots number).times ≡ greatest_number_by o → are_legal (own_table o number ++ ts) spots subscripts ≡ true
    → IsSubscripted (is_table o) (greatest_number_by o) subscripts × (are_legal ts spots (later (is_table o) subscripts) ≡ true)
own_must spots Once number ts subscripts often h = (tt, h)
own_must spots (Fixed m) number ts [] often h = absurd (cc)
own_must spots (Fixed m) number ts (s ∷ subscripts) often h = table_must spots m number ts s subscripts often h
own_must spots (Varying least m count) number ts [] often h = absurd (cc)
own_must spots (Varying least m count) number ts (s ∷ subscripts) often h = table_must spots m number ts s subscripts often h

own_only : (spots : List Spot) (o : ResolvedOccurs) (number : ℕ) (ts subscripts : List ℕ) → (spot_at spots number).times ≡ greatest_number_by o → IsSubscripted (is_table o) (greatest_number_by o) subscripts
    → are_legal ts spots (later (is_table o) subscripts) ≡ true → are_legal (own_table o number ++ ts) spots subscripts ≡ true
own_only spots Once number ts subscripts often own rest = rest
own_only spots (Fixed m) number ts [] often own rest = absurd own
own_only spots (Fixed m) number ts (s ∷ subscripts) often own rest = table_only spots m number ts s subscripts often own.0 own.1 rest
own_only spots (Varying least m count) number ts [] often own rest = absurd own
own_only spots (Varying least m count) number ts (s ∷ subscripts) often own rest = table_only spots m number ts s subscripts often own.0 own.1 rest

none_left : (spots : List Spot) (subscripts : List ℕ) → are_legal [] spots subscripts ≡ true → subscripts ≡ []
none_left spots [] h = refl
none_left spots (s ∷ subscripts) h = absurd (cc)

-- no subscript is left for a table
pub none_legal : (spots : List Spot) (tables : List ℕ) (k : ℕ) (rest : List ℕ) → k < length tables → length rest ≡ 0 → are_legal (drop k tables) spots rest ≡ false
none_legal spots tables k [] lt none = ap (λ (ts : List ℕ). are_legal ts spots []) (drop_more tables k 0 lt)
none_legal spots tables k (s ∷ rest) lt none = absurd (omega (arith, none))

-- ---- each entry occurs as often as at most by these spots

abbrev AreOften : List Spot → Forest Resolved → Type 0
AreOften spots NoEntries = Unit {0}
AreOften spots (AnEntry e children more) = ((spot_at spots e.number).times ≡ greatest_number e) × AreOften spots children × AreOften spots more

are_often : (c : Resolved → ℕ) (spots : List Spot) (f : Forest Resolved) (at area : ℕ) → AreSpots spots c f at area → AreSame c greatest_number f → AreOften spots f
are_often c spots NoEntries at area sp same = tt
are_often c spots (AnEntry e children more) at area sp same =
    let start = begins e.redefines at area in (
      ap (λ (x : Spot). x.times) (sp.0 nowhere) ∙ same.0,
      are_often c spots children start start sp.1 same.1,
      are_often c spots more (at + own_length e.redefines (whole_length c e children)) start sp.2 same.2,
    )

-- ---- the tables between, and the subscripts that they let through

record Judged (spots : List Spot) (all : List Held) (over : List ℕ) (r : ℕ) (f : Forest Resolved) : Type 0 where
  tables : List ℕ
  ways : (held_at all r).tables ≡ over ++ tables
  must : (subscripts : List ℕ) → are_legal tables spots subscripts ≡ true → Refers r subscripts f
  only : (subscripts : List ℕ) → Refers r subscripts f → are_legal tables spots subscripts ≡ true

only_here : (spots : List Spot) (r : ℕ) (e : Resolved) (children more : Forest Resolved) (subscripts : List ℕ) → (spot_at spots e.number).times ≡ greatest_number e → (Has r children → ⊥) → (Has r more → ⊥)
    → Refers r subscripts (AnEntry e children more) → are_legal (own_table e.occurs e.number ++ []) spots subscripts ≡ true
only_here spots r e children more subscripts often kid beside (inl (own, inl (same, none))) =
    own_only spots e.occurs e.number [] subscripts often own (subst (λ (ss : List ℕ). are_legal [] spots ss ≡ true) (sym none) refl)
only_here spots r e children more subscripts often kid beside (inl (own, inr inside)) = absurd (kid (refers_has r (later (is_table e.occurs) subscripts) children inside))
only_here spots r e children more subscripts often kid beside (inr behind) = absurd (beside (refers_has r subscripts more behind))

only_kid : (spots : List Spot) (r : ℕ) (e : Resolved) (children more : Forest Resolved) (ts subscripts : List ℕ) → (spot_at spots e.number).times ≡ greatest_number e → (e.number ≡ r → ⊥) → (Has r more → ⊥)
    → ((ss : List ℕ) → Refers r ss children → are_legal ts spots ss ≡ true)
    → Refers r subscripts (AnEntry e children more) → are_legal (own_table e.occurs e.number ++ ts) spots subscripts ≡ true
only_kid spots r e children more ts subscripts often here beside only (inl (own, inl (same, none))) = absurd (here same)
only_kid spots r e children more ts subscripts often here beside only (inl (own, inr inside)) =
    own_only spots e.occurs e.number ts subscripts often own (only (later (is_table e.occurs) subscripts) inside)
only_kid spots r e children more ts subscripts often here beside only (inr behind) = absurd (beside (refers_has r subscripts more behind))

only_beside : (spots : List Spot) (r : ℕ) (e : Resolved) (children more : Forest Resolved) (ts subscripts : List ℕ) → (e.number ≡ r → ⊥) → (Has r children → ⊥)
    → ((ss : List ℕ) → Refers r ss more → are_legal ts spots ss ≡ true)
    → Refers r subscripts (AnEntry e children more) → are_legal ts spots subscripts ≡ true
only_beside spots r e children more ts subscripts here kid only (inl (own, inl (same, none))) = absurd (here same)
only_beside spots r e children more ts subscripts here kid only (inl (own, inr inside)) = absurd (kid (refers_has r (later (is_table e.occurs) subscripts) children inside))
only_beside spots r e children more ts subscripts here kid only (inr behind) = only subscripts behind

judged : (spots : List Spot) (all : List Held) (f : Forest Resolved) (n : ℕ) (over : List ℕ) (r : ℕ) → AreNumbered n f → AreOften spots f → AreHeld all over f → Has r f → Judged spots all over r f
judged spots all NoEntries n over r num often hs has = absurd has
judged spots all (AnEntry e children more) n over r num often hs (inl own) =
    let kid : Has r children → ⊥ = λ has. omega (arith, (numbered r (n + 1) children num.1 has).0, num.0, own) in
    let beside : Has r more → ⊥ = λ has. omega (arith, (numbered r (n + 1 + entries_in children) more num.2 has).0, num.0, own) in
    record {
      tables = own_table e.occurs e.number ++ [];
      ways = ap (λ (k : ℕ). (held_at all k).tables) (sym own) ∙ ap (λ (h : Held). h.tables) (hs.0 (record { tables = []; end = 0 })) ∙ ap (λ (ts : List ℕ). over ++ ts) (sym (append-nil (own_table e.occurs e.number)));
      must = λ subscripts h. (let (sub, rest) = own_must spots e.occurs e.number [] subscripts often.0 h in
          inl (sub, inl (own, none_left spots (later (is_table e.occurs) subscripts) rest)));
      only = λ subscripts refers. only_here spots r e children more subscripts often.0 kid beside refers;
    }
judged spots all (AnEntry e children more) n over r num often hs (inr (inl in_kid)) =
    let low = numbered r (n + 1) children num.1 in_kid in
    let here : e.number ≡ r → ⊥ = λ same. omega (arith, low.0, num.0, same) in
    let beside : Has r more → ⊥ = λ has. omega (arith, (numbered r (n + 1 + entries_in children) more num.2 has).0, low.1) in
    let inner = judged spots all children (n + 1) (over ++ own_table e.occurs e.number) r num.1 often.1 hs.1 in_kid in
    record {
      tables = own_table e.occurs e.number ++ inner.tables;
      ways = inner.ways ∙ append_assoc over (own_table e.occurs e.number) inner.tables;
      must = λ subscripts h. (let (sub, rest) = own_must spots e.occurs e.number inner.tables subscripts often.0 h in
          inl (sub, inr (inner.must (later (is_table e.occurs) subscripts) rest)));
      only = λ subscripts refers. only_kid spots r e children more inner.tables subscripts often.0 here beside inner.only refers;
    }
judged spots all (AnEntry e children more) n over r num often hs (inr (inr behind)) =
    let low = numbered r (n + 1 + entries_in children) more num.2 behind in
    let here : e.number ≡ r → ⊥ = λ same. omega (arith, low.0, num.0, same) in
    let kid : Has r children → ⊥ = λ has. omega (arith, (numbered r (n + 1) children num.1 has).1, low.0) in
    let outer = judged spots all more (n + 1 + entries_in children) over r num.2 often.2 hs.2 behind in
    record {
      tables = outer.tables;
      ways = outer.ways;
      must = λ subscripts h. inr (outer.must subscripts h);
      only = λ subscripts refers. only_beside spots r e children more outer.tables subscripts here kid outer.only refers;
    }

-- ---- in a record

not_both : (b : Bool) → b ≡ true → b ≡ false → ⊥
not_both b t f = cc

in_record : (t : Forest Resolved) (spots : List Spot) (all : List Held) (r : ℕ) → AreNumbered 0 t → spots ≡ spots_of (times (greatest_counts t)) t 0 0 → all ≡ held_in [] t → Has r t → Judged spots all [] r t
in_record t spots all r num are is has =
    let c : Resolved → ℕ = times (greatest_counts t) in
    let sp : AreSpots spots c t 0 0 = are_spots c t 0 0 0 [] [] spots refl num (are ∙ sym (append-nil (spots_of c t 0 0))) in
    judged spots all t 0 [] r num (are_often c spots t 0 0 sp (are_most t (greatest_counts t) num refl)) (held_alone t all num is) has

-- there is an entry for each number below that of the ways, and for no other
entries_are : (t : Forest Resolved) (ways : List Way) → map held ways ≡ held_in [] t → length ways ≡ entries_in t
entries_are t ways is = sym (length-map ways held) ∙ ap length is ∙ length_held [] t

-- what is let through is a legal reference
pub legal_must : (t u : Forest Resolved) (spots : List Spot) (ways : List Way) (r : ℕ) (subscripts : List ℕ) (b : Bool) → IsSound t → t ≡ u → spots ≡ spots_of (times (greatest_counts t)) t 0 0 → map held ways ≡ held_in [] t
    → r < length ways → b ≡ are_legal (held_at (map held ways) r).tables spots subscripts → b ≡ true → Refers r subscripts u
legal_must t u spots ways r subscripts b s same are is below legal yes_ =
    let has : Has r t = has_number 0 r t s.numbered (omega arith) (omega (arith, below, entries_are t ways is)) in
    let j = in_record t spots (map held ways) r s.numbered are is has in
    subst (λ (v : Forest Resolved). Refers r subscripts v) same (j.must subscripts (ap (λ (ts : List ℕ). are_legal ts spots subscripts) (sym j.ways) ∙ sym legal ∙ yes_))

-- a legal reference is one to an entry that there is
pub legal_below : (t u : Forest Resolved) (ways : List Way) (r : ℕ) (subscripts : List ℕ) → IsSound t → t ≡ u → map held ways ≡ held_in [] t → Refers r subscripts u → r < length ways
legal_below t u ways r subscripts s same is refers =
    let has : Has r t = refers_has r subscripts t (subst (λ (v : Forest Resolved). Refers r subscripts v) (sym same) refers) in
    omega (arith, (numbered r 0 t s.numbered has).1, entries_are t ways is)

-- and is let through
pub legal_only : (t u : Forest Resolved) (spots : List Spot) (ways : List Way) (r : ℕ) (subscripts : List ℕ) (b : Bool) → IsSound t → t ≡ u → spots ≡ spots_of (times (greatest_counts t)) t 0 0 → map held ways ≡ held_in [] t
    → b ≡ are_legal (held_at (map held ways) r).tables spots subscripts → b ≡ false → Refers r subscripts u → ⊥
legal_only t u spots ways r subscripts b s same are is legal no_ refers =
    let own : Refers r subscripts t = subst (λ (v : Forest Resolved). Refers r subscripts v) (sym same) refers in
    let j = in_record t spots (map held ways) r s.numbered are is (refers_has r subscripts t own) in
    not_both b (legal ∙ ap (λ (ts : List ℕ). are_legal ts spots subscripts) j.ways ∙ j.only subscripts own) no_
