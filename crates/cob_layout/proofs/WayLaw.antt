-- The reach of an entry, from what is held of each.
use Rattle.std.proofs.Common.{◌≡◌, ℕ, ◌+◌, ◌&&◌, Bool, true, false, List, [], ◌∷◌, ◌++◌, refl, sym, ap, subst, ◌∙◌, arith, inl, inr, ◌⊎◌, append_assoc, append-nil}
use Rattle.std.specs.Prelude.{◌||◌}
use Rattle.cob_copybook_tree.specs.declared.node.ResolvedOccurs.{ResolvedOccurs}
use Rattle.cob_copybook_tree.specs.declared.node.ResolvedOccurs.TheVariants.{Once, Fixed, Varying}
use Rattle.cob_copybook_tree.specs.Forests.{Forest, NoEntries, AnEntry, entries_in}
use Rattle.cob_copybook_tree.specs.Nodes.{Resolved}
use Rattle.cob_layout_places.specs.Places.{is_table}
use Rattle.cob_layout_places.specs.Cover.{AreNumbered}
use Rattle.cob_layout_places.specs.Needs.{Has, number_behind}
use Rattle.cob_layout_places.proofs.NeedLaw.{Stops, reach_behind, reach_whole, reach_inner}
use Rattle.cob_layout.specs.Ways.{Held, held_in, held_at, own_table, outermost, end_of_table}
use Rattle.cob_layout.proofs.EndLemmas.{numbered}
use Rattle.cob_layout.proofs.AreaLemmas.{is_same, is_other}
use Rattle.cob_layout.proofs.SpotLaw.{AreHeld, are_held}

abbrev none : Held
none = record { tables = []; end = 0 }

or_same : (b : Bool) → (b || true) ≡ true
or_same true = refl
or_same false = refl

stops_own : (tables : Bool) (r : ℕ) (e : Resolved) → e.number ≡ r → Stops tables r e ≡ true
stops_own tables r e own = ap (λ (b : Bool). (tables && is_table e.occurs) || b) (is_same e.number r own) ∙ or_same (tables && is_table e.occurs)

stops_not : (r : ℕ) (e : Resolved) → (e.number ≡ r → ⊥) → Stops false r e ≡ false
stops_not r e other = is_other e.number r other

stops_once : (r : ℕ) (e : Resolved) → (e.number ≡ r → ⊥) → is_table e.occurs ≡ false → Stops true r e ≡ false
stops_once r e other once = rw (once, is_other e.number r other) refl

stops_table : (r : ℕ) (e : Resolved) → is_table e.occurs ≡ true → Stops true r e ≡ true
stops_table r e table = rw table refl

-- the reach of an entry ends where those beneath it do
end_is : (all : List Held) (over : List ℕ) (f : Forest Resolved) (n r : ℕ) → AreNumbered n f → AreHeld all over f → Has r f → number_behind false r f ≡ (held_at all r).end
end_is all over NoEntries n r num hs has = absurd has
end_is all over (AnEntry e children more) n r num hs (inl own) =
    reach_whole false r e children more (omega (arith, own)) (stops_own false r e own) ∙ sym (ap (λ (h : Held). h.end) (hs.0 none)) ∙ ap (λ (k : ℕ). (held_at all k).end) own
end_is all over (AnEntry e children more) n r num hs (inr (inl kid)) =
    let low = numbered r (n + 1) children num.1 kid in
    reach_inner false r e children more (omega (arith, low.1, num.0)) (stops_not r e (λ same. omega (arith, low.0, num.0, same)))
    ∙ end_is all (over ++ own_table e.occurs e.number) children (n + 1) r num.1 hs.1 kid
end_is all over (AnEntry e children more) n r num hs (inr (inr beside)) =
    let low = numbered r (n + 1 + entries_in children) more num.2 beside in
    reach_behind false r e children more (omega (arith, low.0, num.0)) ∙ end_is all over more (n + 1 + entries_in children) r num.2 hs.2 beside

-- the tables that hold all of them hold each
in_tables : (all : List Held) (over : List ℕ) (f : Forest Resolved) (r : ℕ) → AreHeld all over f → Has r f → (ts : List ℕ) × ((held_at all r).tables ≡ over ++ ts)
in_tables all over NoEntries r hs has = absurd has
in_tables all over (AnEntry e children more) r hs (inl own) =
    (own_table e.occurs e.number, ap (λ (k : ℕ). (held_at all k).tables) (sym own) ∙ ap (λ (h : Held). h.tables) (hs.0 none))
in_tables all over (AnEntry e children more) r hs (inr (inl kid)) =
    let inner = in_tables all (over ++ own_table e.occurs e.number) children r hs.1 kid in
    (own_table e.occurs e.number ++ inner.0, inner.1 ∙ append_assoc over (own_table e.occurs e.number) inner.0)
in_tables all over (AnEntry e children more) r hs (inr (inr beside)) = in_tables all over more r hs.2 beside

table_or_not : (o : ResolvedOccurs) (number : ℕ) → ((is_table o ≡ true) × (own_table o number ≡ number ∷ [])) ⊎ ((is_table o ≡ false) × (own_table o number ≡ []))
table_or_not Once number = inr (refl, refl)
table_or_not (Fixed n) number = inl (refl, refl)
table_or_not (Varying least most count) number = inl (refl, refl)

-- and with tables, where those beneath its outermost table do
pub table_end_is : (all : List Held) (f : Forest Resolved) (n r : ℕ) → AreNumbered n f → AreHeld all [] f → Has r f → number_behind true r f ≡ end_of_table all r
table_end_is all NoEntries n r num hs has = absurd has
table_end_is all (AnEntry e children more) n r num hs (inl own) =
    let end : (held_at all e.number).end ≡ e.number + 1 + entries_in children = ap (λ (h : Held). h.end) (hs.0 none) in
    let tables : (held_at all r).tables ≡ own_table e.occurs e.number = ap (λ (k : ℕ). (held_at all k).tables) (sym own) ∙ ap (λ (h : Held). h.tables) (hs.0 none) in
    let first : outermost (own_table e.occurs e.number) r ≡ e.number = elim (table_or_not e.occurs e.number) [
      | inl t ↦ ap (λ (ts : List ℕ). outermost ts r) t.1
      | inr t ↦ ap (λ (ts : List ℕ). outermost ts r) t.1 ∙ sym own
    ] in
    reach_whole true r e children more (omega (arith, own)) (stops_own true r e own) ∙ sym end
    ∙ ap (λ (k : ℕ). (held_at all k).end) (sym first) ∙ ap (λ (ts : List ℕ). (held_at all (outermost ts r)).end) (sym tables)
table_end_is all (AnEntry e children more) n r num hs (inr (inl kid)) =
    let low = numbered r (n + 1) children num.1 kid in
    let other : e.number ≡ r → ⊥ = λ same. omega (arith, low.0, num.0, same) in
    elim (table_or_not e.occurs e.number) [
      | inl t ↦ (let inner = in_tables all ([] ++ own_table e.occurs e.number) children r hs.1 kid in
          let tables : (held_at all r).tables ≡ e.number ∷ inner.0 = inner.1 ∙ ap (λ (ts : List ℕ). ts ++ inner.0) t.1 in
          reach_whole true r e children more (omega (arith, low.1, num.0)) (stops_table r e t.0) ∙ sym (ap (λ (h : Held). h.end) (hs.0 none))
          ∙ ap (λ (ts : List ℕ). (held_at all (outermost ts r)).end) (sym tables))
      | inr t ↦ (let inner : AreHeld all [] children = subst (λ (ts : List ℕ). AreHeld all ts children) t.1 hs.1 in
          reach_inner true r e children more (omega (arith, low.1, num.0)) (stops_once r e other t.0) ∙ table_end_is all children (n + 1) r num.1 inner kid)
    ]
table_end_is all (AnEntry e children more) n r num hs (inr (inr beside)) =
    let low = numbered r (n + 1 + entries_in children) more num.2 beside in
    reach_behind true r e children more (omega (arith, low.0, num.0)) ∙ table_end_is all more (n + 1 + entries_in children) r num.2 hs.2 beside

pub held_alone : (t : Forest Resolved) (all : List Held) → AreNumbered 0 t → all ≡ held_in [] t → AreHeld all [] t
held_alone t all num is = are_held t 0 [] [] [] all refl num (is ∙ sym (append-nil (held_in [] t)))

-- so it is in a record
pub reach_end : (t : Forest Resolved) (all : List Held) (r : ℕ) → AreNumbered 0 t → all ≡ held_in [] t → Has r t → number_behind false r t ≡ (held_at all r).end
reach_end t all r num is has = end_is all [] t 0 r num (held_alone t all num is) has

pub reach_table_end : (t : Forest Resolved) (all : List Held) (r : ℕ) → AreNumbered 0 t → all ≡ held_in [] t → Has r t → number_behind true r t ≡ end_of_table all r
reach_table_end t all r num is has = table_end_is all t 0 r num (held_alone t all num is) has
