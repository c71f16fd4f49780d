-- The reach of an entry, child by child, and the tables that are needed, one behind another.
use Rattle.std.proofs.Common.{◌≡◌, ℕ, ◌+◌, ◌<◌, ◌≤◌, ◌==◌, ◌&&◌, List, ◌∷◌, length, get_or, drop, refl, sym, ap, subst, ◌∙◌, arith, Bool, true, false, Ok, Err, Result, inl, inr}
use Rattle.std.specs.Prelude.{◌||◌, slice_set}
use Rattle.std.proofs.lemmas.List.{drop_more, drop_all}
use Rattle.cob_copybook_tree.specs.declared.node.Node.{Node}
use Rattle.cob_copybook_tree.specs.declared.node.Node.TheViews.{out-Node}
use Rattle.cob_copybook_tree.specs.Forests.{Forest, NoEntries, AnEntry, Tree, entries_in}
use Rattle.cob_copybook_tree.specs.Nodes.{Resolved, node, tree_of}
use Rattle.cob_layout_places.specs.declared.counts.CountFault.{CountFault}
use Rattle.cob_layout_places.specs.declared.varying.Table.{Table}
use Rattle.cob_layout_places.specs.Places.{is_table}
use Rattle.cob_layout_places.specs.Cover.{AreNumbered}
use Rattle.cob_layout_places.specs.Counts.{IsCounted, Taken}
use Rattle.cob_layout_places.specs.Needs.{number_behind, keep, greatest, is_needed, needed_tables}
use Rattle.cob_layout_places.proofs.ForestLemmas.{left, left_is, left_end, below, below_is, node_out}
use Rattle.cob_layout_places.proofs.NeedLaw.{Stops, reach_behind, reach_whole, reach_inner, le_no}

-- the entries are numbered, and end before this number
pub record AreUpTo (end : ℕ) (f : Forest Resolved) : Type 0 where
  pub first : ℕ
  pub numbered : AreNumbered first f
  pub ends : first + entries_in f ≡ end

-- the number of the first entry, else the end
abbrev pub first_number : ℕ → Forest Resolved → ℕ
first_number end NoEntries = end
first_number end (AnEntry e children more) = e.number

next_number : (end : ℕ) (e : Resolved) (children more : Forest Resolved) → AreUpTo end (AnEntry e children more) → first_number end more ≡ e.number + 1 + entries_in children
next_number end e children NoEntries u = omega (arith, u.numbered.0, u.ends)
next_number end e children (AnEntry e2 kids2 more2) u = omega (arith, u.numbered.0, u.numbered.2.0)

pub record Child (end behind number : ℕ) (tables : Bool) (n : Node) (now after : Forest Resolved) : Type 0 where
  pub numbered : AreNumbered (node n).top.number (tree_of n)
  pub end_is : behind ≡ (node n).top.number + 1 + entries_in (node n).beneath
  pub after_is : AreUpTo end after
  pub inner : number < behind → number_behind tables number now ≡ number_behind tables number (tree_of n)
  pub outer : behind ≤ number → number_behind tables number now ≡ number_behind tables number after

in_one : (tables : Bool) (a : ℕ) (e : Resolved) (children more : Forest Resolved) → a < e.number + 1 + entries_in children → number_behind tables a (AnEntry e children more) ≡ number_behind tables a (AnEntry e children NoEntries)
in_one tables a e children more h = rw (le_no (e.number + 1 + entries_in children) a h) refl

pub child : (end behind number : ℕ) (tables : Bool) (children : List Node) (k : ℕ) (n : Node) → k < length children → n ≡ get_or children k n → AreUpTo end (left children k)
    → behind ≡ first_number end (left children (k + 1)) → Child end behind number tables n (left children k) (left children (k + 1))
child end behind number tables children k n lt is u b =
    let e = left_is children k n lt is in
    let v : AreUpTo end (AnEntry (node n).top (node n).beneath (left children (k + 1))) = subst (AreUpTo end) e u in
    let m : behind ≡ (node n).top.number + 1 + entries_in (node n).beneath = b ∙ next_number end (node n).top (node n).beneath (left children (k + 1)) v in
    record {
      numbered = (refl, subst (λ (i : ℕ). AreNumbered (i + 1) (node n).beneath) (sym v.numbered.0) v.numbered.1, tt);
      end_is = m;
      after_is = record { first = v.first + 1 + entries_in (node n).beneath; numbered = v.numbered.2; ends = omega (arith, v.ends) };
      inner = λ h. ap (number_behind tables number) e ∙ in_one tables number (node n).top (node n).beneath (left children (k + 1)) (omega (arith, m, h));
      outer = λ h. ap (number_behind tables number) e ∙ reach_behind tables number (node n).top (node n).beneath (left children (k + 1)) (omega (arith, m, h));
    }

-- the next child's number, or the end
pub next_is : (end : ℕ) (children : List Node) (k : ℕ) (n : Node) → k < length children → n ≡ get_or children k n → (out-Node n).number ≡ first_number end (left children k)
next_is end children k n lt is = ap (λ (t : Tree Resolved). t.top.number) (sym (node_out n)) ∙ sym (ap (first_number end) (left_is children k n lt is))

pub end_is : (end : ℕ) (children : List Node) (k : ℕ) → length children ≤ k → end ≡ first_number end (left children k)
end_is end children k h = sym (ap (first_number end) (left_end children k h))

pub all_below : (end : ℕ) (n : Node) → AreNumbered (node n).top.number (tree_of n) → end ≡ (node n).top.number + 1 + entries_in (node n).beneath → AreUpTo end (below n)
all_below end n h e = record {
  first = (node n).top.number + 1;
  numbered = subst (AreNumbered ((node n).top.number + 1)) (below_is n) h.1;
  ends = omega (arith, e, ap entries_in (sym (below_is n)));
}

stops_out : (tables : Bool) (number : ℕ) (n : Node) (b : Bool) → ((tables && is_table (out-Node n).occurs) || ((out-Node n).number == number)) ≡ b → Stops tables number (node n).top ≡ b
stops_out tables number n b e = ap (λ (t : Tree Resolved). Stops tables number t.top) (node_out n) ∙ e

pub stops_here : (tables : Bool) (number end : ℕ) (n : Node) → ((tables && is_table (out-Node n).occurs) || ((out-Node n).number == number)) ≡ true
    → end ≡ (node n).top.number + 1 + entries_in (node n).beneath → number < end → number_behind tables number (tree_of n) ≡ end
stops_here tables number end n s e l = reach_whole tables number (node n).top (node n).beneath NoEntries (omega (arith, e, l)) (stops_out tables number n true s) ∙ sym e

pub goes_on : (tables : Bool) (number end : ℕ) (n : Node) → ((tables && is_table (out-Node n).occurs) || ((out-Node n).number == number)) ≡ false
    → end ≡ (node n).top.number + 1 + entries_in (node n).beneath → number < end → number_behind tables number (tree_of n) ≡ number_behind tables number (below n)
goes_on tables number end n s e l = reach_inner tables number (node n).top (node n).beneath NoEntries (omega (arith, e, l)) (stops_out tables number n false s) ∙ ap (number_behind tables number) (below_is n)

-- ---- tables that are needed

kept_yes : {A : Type 0} (test : A → Bool) (x : A) (xs : List A) → test x ≡ true → keep test (x ∷ xs) ≡ x ∷ keep test xs
kept_yes test x xs e = rw e refl

kept_no : {A : Type 0} (test : A → Bool) (x : A) (xs : List A) → test x ≡ false → keep test (x ∷ xs) ≡ keep test xs
kept_no test x xs e = rw e refl

pub next_kept : (test : Table → Bool) (t : Forest Resolved) (bytes : List ℕ) (xs : List Table) (k : ℕ) (d : Table) (c : List ℕ) (r : Result (List ℕ) CountFault) (v : ℕ) → k < length xs → test (get_or xs k d) ≡ true
    → IsCounted t bytes (get_or xs k d) c (Ok v) → Taken t bytes (keep test (drop (k + 1) xs)) (slice_set c (get_or xs k d).number v) r
    → Taken t bytes (keep test (drop k xs)) c r
next_kept test t bytes xs k d c r v lt e i more =
    subst (λ (ys : List Table). Taken t bytes ys c r) (sym (ap (keep test) (drop_more xs k d lt) ∙ kept_yes test (get_or xs k d) (drop (k + 1) xs) e)) (inl (v, i, more))

pub next_left_out : (test : Table → Bool) (t : Forest Resolved) (bytes : List ℕ) (xs : List Table) (k : ℕ) (d : Table) (c : List ℕ) (r : Result (List ℕ) CountFault) → k < length xs → test (get_or xs k d) ≡ false
    → Taken t bytes (keep test (drop (k + 1) xs)) c r → Taken t bytes (keep test (drop k xs)) c r
next_left_out test t bytes xs k d c r lt e more =
    subst (λ (ys : List Table). Taken t bytes ys c r) (sym (ap (keep test) (drop_more xs k d lt) ∙ kept_no test (get_or xs k d) (drop (k + 1) xs) e)) more

pub stops_at : (test : Table → Bool) (t : Forest Resolved) (bytes : List ℕ) (xs : List Table) (k : ℕ) (d : Table) (c : List ℕ) (e : CountFault) → k < length xs → test (get_or xs k d) ≡ true
    → IsCounted t bytes (get_or xs k d) c (Err e) → Taken t bytes (keep test (drop k xs)) c (Err e)
stops_at test t bytes xs k d c e lt y i =
    subst (λ (ys : List Table). Taken t bytes ys c (Err e)) (sym (ap (keep test) (drop_more xs k d lt) ∙ kept_yes test (get_or xs k d) (drop (k + 1) xs) y)) (inr (e, i, refl))

pub none_left : (test : Table → Bool) (t : Forest Resolved) (bytes : List ℕ) (xs : List Table) (k : ℕ) (c : List ℕ) → length xs ≤ k → Taken t bytes (keep test (drop k xs)) c (Ok c)
none_left test t bytes xs k c h = subst (λ (ys : List Table). Taken t bytes (keep test ys) c (Ok c)) (sym (drop_all k xs h)) refl

pub next_greatest : (xs : List Table) (k : ℕ) (d : Table) (c : List ℕ) → k < length xs → greatest (drop k xs) c ≡ greatest (drop (k + 1) xs) (slice_set c (get_or xs k d).number (get_or xs k d).most)
next_greatest xs k d c lt = ap (λ (ys : List Table). greatest ys c) (drop_more xs k d lt)

-- the test of the tables in the code's words
pub needed_is : (t : Forest Resolved) (r : ℕ) (receiving : Bool) (xs : List Table) (behind end : ℕ) (last : Bool) → behind ≡ number_behind true r t → last ≡ (receiving && (number_behind false r t == end))
    → end ≡ entries_in t → keep (is_needed behind last r) xs ≡ needed_tables t r receiving xs
needed_is t r receiving xs behind end last b l e =
    ap (λ (n : ℕ). keep (is_needed n last r) xs) b
    ∙ ap (λ (q : Bool). keep (is_needed (number_behind true r t) q r) xs) (l ∙ ap (λ (m : ℕ). receiving && (number_behind false r t == m)) e)
