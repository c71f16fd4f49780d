-- Redefining entries begin where their area begins.
use Rattle.std.proofs.Common.{◌≡◌, ℕ, ◌+◌, ◌*◌, ◌==◌, Bool, true, false, List, [], ◌∷◌, Option, Some, None, refl, sym, ap, subst, ◌∙◌, arith, inl, inr}
use Rattle.std.proofs.lemmas.Bool.Decides.{nat_tests}
use Rattle.cob_copybook_tree.specs.declared.node.ResolvedOccurs.TheVariants.{Once}
use Rattle.cob_copybook_tree.specs.declared.node.ResolvedOccurs.{ResolvedOccurs}
use Rattle.cob_copybook_tree.specs.Forests.{Forest, NoEntries, AnEntry, Tree, entries_in}
use Rattle.cob_copybook_tree.specs.Nodes.{Resolved}
use Rattle.cob_copybook_tree.specs.Lengths.{greatest_number, own_length, element_length, whole_length}
use Rattle.cob_copybook_rules.specs.Areas.{AreAreas, MayFollow, area_with}
use Rattle.cob_layout_places.specs.declared.places.Found.{Found}
use Rattle.cob_layout_places.specs.Lengths.{times}
use Rattle.cob_layout_places.specs.Places.{place_of, or_else, choose, also, begins, is_table, is_there, later, skipped}
use Rattle.cob_layout_places.specs.Cover.{AreNumbered}
use Rattle.cob_layout_places.specs.Needs.{Has}
use Rattle.cob_layout_places.proofs.CoverLaw.{not_or}
use Rattle.cob_layout.specs.Sound.{RecordsAreSound}
use Rattle.cob_layout_places.specs.References.{Refers}
use Rattle.cob_layout.specs.Laws.{IsBehind, IsRedefinitionOf, offset_of, BeginWithArea}
use Rattle.cob_layout.proofs.ReferenceLemmas.{refers_has}
use Rattle.cob_layout.proofs.EndLemmas.{numbered, found_has}

-- ---- what is found, and where it isn't

none_or : (o : Option Found) → ((p : Found) → o ≡ Some p → ⊥) → o ≡ None
none_or None never = refl
none_or (Some f) never = absurd (never f refl)

-- an entry isn't found among others
pub absent : (c : Resolved → ℕ) (r : ℕ) (f : Forest Resolved) (at area : ℕ) (subscripts : List ℕ) → (Has r f → ⊥) → place_of c r f at area subscripts ≡ None
absent c r f at area subscripts never = none_or (place_of c r f at area subscripts) (λ p is. never (found_has c r f at area subscripts p is))

pub is_same : (a b : ℕ) → a ≡ b → (a == b) ≡ true
is_same a b e = grind (arith, nat_tests)

pub is_other : (a b : ℕ) → (a ≡ b → ⊥) → (a == b) ≡ false
is_other a b h = by (a == b) refl
  where
    by : (t : Bool) → (a == b) ≡ t → t ≡ false
    by false e = refl
    by true e = absurd (h (grind (arith, nat_tests)))

-- the entry itself
at_own : (b : Bool) (f : Found) (o p : Option Found) → b ≡ true → offset_of (or_else (choose b f o) p) ≡ Some f.offset
at_own true f o p e = refl
at_own false f o p e = absurd (cc)

-- one beneath it
in_kids : (b there : Bool) (f : Found) (o p : Option Found) → b ≡ false → p ≡ None → offset_of (or_else (choose b f (also there o)) p) ≡ offset_of o
in_kids true there f o p e n = absurd (cc)
in_kids false there f None p e n = ap offset_of n
in_kids false there f (Some g) p e n = refl

none_skipped : (b : Bool) (n : ℕ) (subscripts : List ℕ) → subscripts ≡ [] → skipped b n subscripts ≡ 0
none_skipped false n subscripts e = refl
none_skipped true n [] e = refl
none_skipped true n (s ∷ subscripts) e = absurd (cc)

first_element : (start k size : ℕ) → k ≡ 0 → start + k * size ≡ start
first_element start k size e = ap (λ (m : ℕ). start + m * size) e ∙ grind arith

-- ---- an entry behind others that redefine an area

behind_has : (r : ℕ) (f : Forest Resolved) → IsBehind r f → Has r f
behind_has r NoEntries h = absurd h
behind_has r (AnEntry e children more) h = elim h.1 [ inl own ↦ inl own | inr rest ↦ inr (inr (behind_has r more rest)) ]

-- it begins where the area does
behind : (c : Resolved → ℕ) (r n : ℕ) (f : Forest Resolved) (at area : ℕ) (subscripts : List ℕ) → AreNumbered n f → IsBehind r f → subscripts ≡ [] → offset_of (place_of c r f at area subscripts) ≡ Some area
behind c r n NoEntries at area subscripts num h none = absurd h
behind c r n (AnEntry e children more) at area subscripts num h none =
    let start : ℕ = begins e.redefines at area in
    let starts : start ≡ area = ap (λ (o : Option (List ℕ)). begins o at area) h.0.1 in
    let size : ℕ = element_length c e children in
    let offset : ℕ = start + skipped (is_table e.occurs) (greatest_number e) subscripts * size in
    let there : Bool = is_there (is_table e.occurs) (c e) subscripts in
    let inner : List ℕ = later (is_table e.occurs) subscripts in
    let next_at : ℕ = at + own_length e.redefines (whole_length c e children) in
    elim h.1 [
      | inl own ↦ (let offset_is : offset ≡ area = first_element start _ size (none_skipped (is_table e.occurs) (greatest_number e) subscripts none) ∙ starts in
          at_own (e.number == r) (record { offset = offset; length = size; within = there }) (also there (place_of c r children offset offset inner)) (place_of c r more next_at start subscripts) (is_same e.number r own)
          ∙ ap (λ (m : ℕ). Some m) offset_is)
      | inr rest ↦ (let low = numbered r (n + 1 + entries_in children) more num.2 (behind_has r more rest) in
          let not_own : (e.number == r) ≡ false = is_other e.number r (λ same. omega (arith, low.0, num.0, same)) in
          let not_in : Has r children → ⊥ = λ has. omega (arith, low.0, (numbered r (n + 1) children num.1 has).1) in
          ap offset_of (not_or (e.number == r) (record { offset = offset; length = size; within = there }) (place_of c r children offset offset inner) (place_of c r more next_at start subscripts) there not_own (absent c r children offset offset inner not_in))
          ∙ behind c r (n + 1 + entries_in children) more next_at start subscripts num.2 rest none
          ∙ ap (λ (m : ℕ). Some m) starts)
    ]

-- ---- the entry that began the area

-- it has no OCCURS of its own
first_once : (r : ℕ) (t : Tree Resolved) (more : Forest Resolved) → AreAreas (t ∷ []) more → IsBehind r more → t.top.occurs ≡ Once
first_once r t NoEntries h b = absurd b
first_once r t (AnEntry e children more) h b =
    let may : MayFollow (Some b.0.0) (t ∷ []) (record { top = e; beneath = children }) = subst (λ (o : Option (List ℕ)). MayFollow o (t ∷ []) (record { top = e; beneath = children })) b.0.1 h.0 in
    may.1.once

redefines_first : (r a : ℕ) (f : Forest Resolved) → IsRedefinitionOf r a f → Has a f
redefines_first r a NoEntries h = h
redefines_first r a (AnEntry e children more) (inl h) = inl h.0
redefines_first r a (AnEntry e children more) (inr (inl h)) = inr (inl (redefines_first r a children h))
redefines_first r a (AnEntry e children more) (inr (inr h)) = inr (inr (redefines_first r a more h))

redefines_second : (r a : ℕ) (f : Forest Resolved) → IsRedefinitionOf r a f → Has r f
redefines_second r a NoEntries h = h
redefines_second r a (AnEntry e children more) (inl h) = inr (inr (behind_has r more h.2))
redefines_second r a (AnEntry e children more) (inr (inl h)) = inr (inl (redefines_second r a children h))
redefines_second r a (AnEntry e children more) (inr (inr h)) = inr (inr (redefines_second r a more h))

-- a reference to an entry beneath another is one among those
refers_beneath : (n a : ℕ) (e : Resolved) (children more : Forest Resolved) (subscripts : List ℕ) → AreNumbered n (AnEntry e children more) → Has a children → Refers a subscripts (AnEntry e children more)
    → Refers a (later (is_table e.occurs) subscripts) children
refers_beneath n a e children more subscripts num has (inl (own, inl (same, none))) = absurd (omega (arith, num.0, same, (numbered a (n + 1) children num.1 has).0))
refers_beneath n a e children more subscripts num has (inl (own, inr inside)) = inside
refers_beneath n a e children more subscripts num has (inr beside) =
    absurd (omega (arith, (numbered a (n + 1) children num.1 has).1, (numbered a (n + 1 + entries_in children) more num.2 (refers_has a subscripts more beside)).0))

-- and so it is of one beside it
refers_beside : (n a : ℕ) (e : Resolved) (children more : Forest Resolved) (subscripts : List ℕ) → AreNumbered n (AnEntry e children more) → Has a more → Refers a subscripts (AnEntry e children more)
    → Refers a subscripts more
refers_beside n a e children more subscripts num has (inl (own, inl (same, none))) = absurd (omega (arith, num.0, same, (numbered a (n + 1 + entries_in children) more num.2 has).0))
refers_beside n a e children more subscripts num has (inl (own, inr inside)) =
    absurd (omega (arith, (numbered a (n + 1) children num.1 (refers_has a _ children inside)).1, (numbered a (n + 1 + entries_in children) more num.2 has).0))
refers_beside n a e children more subscripts num has (inr beside) = beside

-- a reference to an entry that is no table has none left there
none_left : (n a : ℕ) (e : Resolved) (children more : Forest Resolved) (subscripts : List ℕ) → AreNumbered n (AnEntry e children more) → e.number ≡ a → e.occurs ≡ Once → Refers a subscripts (AnEntry e children more) → subscripts ≡ []
none_left n a e children more subscripts num is once (inl (own, inl (same, none))) = subst (λ (o : ResolvedOccurs). later (is_table o) subscripts ≡ []) once none
none_left n a e children more subscripts num is once (inl (own, inr inside)) = absurd (omega (arith, num.0, is, (numbered a (n + 1) children num.1 (refers_has a _ children inside)).0))
none_left n a e children more subscripts num is once (inr beside) = absurd (omega (arith, num.0, is, (numbered a (n + 1 + entries_in children) more num.2 (refers_has a subscripts more beside)).0))

begin_there : (c : Resolved → ℕ) (r a n : ℕ) (f : Forest Resolved) (area : List (Tree Resolved)) (at from : ℕ) (subscripts : List ℕ) → AreNumbered n f → AreAreas area f → IsRedefinitionOf r a f → Refers a subscripts f
    → offset_of (place_of c r f at from subscripts) ≡ offset_of (place_of c a f at from subscripts)
begin_there c r a n NoEntries area at from subscripts num areas h refers = absurd h
begin_there c r a n (AnEntry e children more) area at from subscripts num areas h refers =
    let start : ℕ = begins e.redefines at from in
    let size : ℕ = element_length c e children in
    let offset : ℕ = start + skipped (is_table e.occurs) (greatest_number e) subscripts * size in
    let there : Bool = is_there (is_table e.occurs) (c e) subscripts in
    let inner : List ℕ = later (is_table e.occurs) subscripts in
    let next_at : ℕ = at + own_length e.redefines (whole_length c e children) in
    let here : Found = record { offset = offset; length = size; within = there } in
    let past : (x : ℕ) → Has x more → offset_of (place_of c x (AnEntry e children more) at from subscripts) ≡ offset_of (place_of c x more next_at start subscripts) = λ x has.
    (let low = numbered x (n + 1 + entries_in children) more num.2 has in
    ap offset_of (not_or (e.number == x) here (place_of c x children offset offset inner) (place_of c x more next_at start subscripts) there
    (is_other e.number x (λ same. omega (arith, low.0, num.0, same)))
    (absent c x children offset offset inner (λ k. omega (arith, low.0, (numbered x (n + 1) children num.1 k).1))))) in
    let inside : (x : ℕ) → Has x children → offset_of (place_of c x (AnEntry e children more) at from subscripts) ≡ offset_of (place_of c x children offset offset inner) = λ x has.
    (let low = numbered x (n + 1) children num.1 has in
    in_kids (e.number == x) there here (place_of c x children offset offset inner) (place_of c x more next_at start subscripts)
    (is_other e.number x (λ same. omega (arith, low.0, num.0, same)))
    (absent c x more next_at start subscripts (λ k. omega (arith, low.1, (numbered x (n + 1 + entries_in children) more num.2 k).0)))) in
    elim h [
      | inl own ↦ (let first : AreAreas ((record { top = e; beneath = children }) ∷ []) more = subst (λ (o : Option (List ℕ)). AreAreas (area_with o area (record { top = e; beneath = children })) more) own.1 areas.2 in
          let once : e.occurs ≡ Once = first_once r (record { top = e; beneath = children }) more first own.2 in
          let none : subscripts ≡ [] = none_left n a e children more subscripts num own.0 once refers in
          let own_is : offset_of (place_of c a (AnEntry e children more) at from subscripts) ≡ Some offset = at_own (e.number == a) here (also there (place_of c a children offset offset inner)) (place_of c a more next_at start subscripts) (is_same e.number a own.0) in
          let offset_is : offset ≡ start = first_element start _ size (none_skipped (is_table e.occurs) (greatest_number e) subscripts none) in
          past r (behind_has r more own.2) ∙ behind c r (n + 1 + entries_in children) more next_at start subscripts num.2 own.2 none
          ∙ ap (λ (m : ℕ). Some m) (sym offset_is) ∙ sym own_is)
      | inr rest ↦ elim rest [
        | inl k ↦ (let has_a = redefines_first r a children k in
            inside r (redefines_second r a children k)
            ∙ begin_there c r a (n + 1) children [] offset offset inner num.1 areas.1 k (refers_beneath n a e children more subscripts num has_a refers)
            ∙ sym (inside a has_a))
        | inr m ↦ (let has_a = redefines_first r a more m in
            past r (redefines_second r a more m)
            ∙ begin_there c r a (n + 1 + entries_in children) more (area_with e.redefines area (record { top = e; beneath = children })) next_at start subscripts num.2 areas.2 m (refers_beside n a e children more subscripts num has_a refers)
            ∙ sym (past a has_a))
      ]
    ]

pub begin_with_area : RecordsAreSound → BeginWithArea
begin_with_area sound t counts r a subscripts is redefines refers =
    let s = sound t is in
    begin_there (times counts) r a 0 t [] 0 0 subscripts s.numbered s.areas redefines refers
