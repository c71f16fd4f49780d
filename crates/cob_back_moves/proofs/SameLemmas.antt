-- Entries that are the same, with those beneath them.
use Rattle.std.proofs.Common.{◌≡◌, ℕ, ◌+◌, ◌<◌, ◌≤◌, Bool, true, false, List, [], ◌∷◌, length, drop, get_or, None, refl, sym, ap, ◌∙◌, arith}
use Rattle.std.specs.Bool.{Decides}
use Rattle.std.proofs.lemmas.List.{drop_more, drop_all}
use Rattle.cob_copybook_tree.specs.declared.node.Node.{Node}
use Rattle.cob_copybook_tree.specs.declared.node.Node.TheViews.{out-Node}
use Rattle.cob_copybook_tree.specs.Forests.{Forest, NoEntries, AnEntry, Tree}
use Rattle.cob_copybook_tree.specs.Nodes.{Resolved, forest, node, resolved_entry, tree_of}
use Rattle.cob_copybook_tree.proofs.NodeLemmas.{node_out}
use Rattle.cob_back_moves.specs.Same.{IsSameRecord, told_name, unnamed}

-- an entry without its name
abbrev pub nameless : Resolved → Resolved
nameless e = record e { name = None }

-- the entry of a node by itself
abbrev pub own : Node → Resolved
own n = resolved_entry (out-Node n)

-- the entries beneath it
abbrev pub below : Node → Forest Resolved
below n = forest (out-Node n).children.items

pub opened : (n : Node) → tree_of n ≡ AnEntry (own n) (below n) NoEntries
opened n = ap (λ (t : Tree Resolved). AnEntry t.top t.beneath NoEntries) (node_out n)

abbrev top_of : Forest Resolved → Resolved → Resolved
top_of NoEntries d = d
top_of (AnEntry e children more) d = e

abbrev beneath_of : Forest Resolved → Forest Resolved
beneath_of NoEntries = NoEntries
beneath_of (AnEntry e children more) = children

abbrev beside_of : Forest Resolved → Forest Resolved
beside_of NoEntries = NoEntries
beside_of (AnEntry e children more) = more

top_is : (e d : Resolved) (c c' m m' : Forest Resolved) → AnEntry e c m ≡ AnEntry d c' m' → e ≡ d
top_is e d c c' m m' h = ap (λ (f : Forest Resolved). top_of f e) h

beneath_is : (e d : Resolved) (c c' m m' : Forest Resolved) → AnEntry e c m ≡ AnEntry d c' m' → c ≡ c'
beneath_is e d c c' m m' h = ap beneath_of h

beside_is : (e d : Resolved) (c c' m m' : Forest Resolved) → AnEntry e c m ≡ AnEntry d c' m' → m ≡ m'
beside_is e d c c' m m' h = ap beside_of h

-- ---- one entry

pub same_names : (a b : Node) → tree_of a ≡ tree_of b → (out-Node a).name ≡ (out-Node b).name
same_names a b h =
    ap (λ (e : Resolved). e.name) (top_is (own a) (own b) (below a) (below b) NoEntries NoEntries (sym (opened a) ∙ h ∙ opened b))

pub same_nameless : (a b : Node) → tree_of a ≡ tree_of b → nameless (own a) ≡ nameless (own b)
same_nameless a b h = ap nameless (top_is (own a) (own b) (below a) (below b) NoEntries NoEntries (sym (opened a) ∙ h ∙ opened b))

both : (e d : Resolved) → e.name ≡ d.name → nameless e ≡ nameless d → e ≡ d
both e d names rest = λ j. record (rest j) { name = names j }

pub same_entry : (a b : Node) (t : Bool) → (out-Node a).name ≡ (out-Node b).name → nameless (own a) ≡ nameless (own b) → Decides t (below a ≡ below b) → Decides t (tree_of a ≡ tree_of b)
same_entry a b t names rest (met, only) = (
  λ is. opened a ∙ (λ j. AnEntry (both (own a) (own b) names rest j) (met is j) NoEntries) ∙ sym (opened b),
  λ h. only (beneath_is (own a) (own b) (below a) (below b) NoEntries NoEntries (sym (opened a) ∙ h ∙ opened b)),
)

-- ---- entries side by side

abbrev pub left : List Node → ℕ → Forest Resolved
left es k = forest (drop k es)

pub left_is : (es : List Node) (k : ℕ) (n : Node) → k < length es → n ≡ get_or es k n → left es k ≡ AnEntry (node n).top (node n).beneath (left es (k + 1))
left_is es k n lt is = ap (λ (ns : List Node). forest ns) (drop_more es k n lt ∙ ap (λ (m : Node). m ∷ drop (k + 1) es) (sym is))

pub left_none : (es : List Node) (k : ℕ) → length es ≤ k → left es k ≡ NoEntries
left_none es k le = ap (λ (ns : List Node). forest ns) (drop_all k es le)

-- what is left of both is the same exactly where all is
abbrev pub Both : Type 0 → Type 0 → Type 0
Both P Q = (P → Q) × (Q → P)

not_none : (e : Resolved) (c m : Forest Resolved) → AnEntry e c m ≡ NoEntries → ⊥
not_none e c m h = cc

-- one list ends before the other
pub ends_first : (es : List Node) (k : ℕ) (n : Node) (rest : List Node) (Q : Type 0) → k < length es → n ≡ get_or es k n → rest ≡ [] → Both (left es k ≡ forest rest) Q → Q → ⊥
ends_first es k n rest Q lt is none (goes, back) q =
    not_none (node n).top (node n).beneath (left es (k + 1)) (sym (left_is es k n lt is) ∙ back q ∙ ap (λ (ns : List Node). forest ns) none)

-- the next entries of both
first_trees : (es : List Node) (k : ℕ) (n o : Node) (rest after : List Node) → k < length es → n ≡ get_or es k n → rest ≡ o ∷ after → left es k ≡ forest rest
    → AnEntry (node n).top (node n).beneath (left es (k + 1)) ≡ AnEntry (node o).top (node o).beneath (forest after)
first_trees es k n o rest after lt is cut h = sym (left_is es k n lt is) ∙ h ∙ ap (λ (ns : List Node). forest ns) cut

pub first_differs : (es : List Node) (k : ℕ) (n o : Node) (rest after : List Node) (Q : Type 0) → k < length es → n ≡ get_or es k n → rest ≡ o ∷ after → Both (left es k ≡ forest rest) Q
    → Decides false (tree_of n ≡ tree_of o) → Q → ⊥
first_differs es k n o rest after Q lt is cut (goes, back) (met, only) q =
    let e = first_trees es k n o rest after lt is cut (back q) in
    let top = top_is (node n).top (node o).top (node n).beneath (node o).beneath (left es (k + 1)) (forest after) e in
    let beneath = beneath_is (node n).top (node o).top (node n).beneath (node o).beneath (left es (k + 1)) (forest after) e in
    let never : false ≡ true = only (λ j. AnEntry (top j) (beneath j) NoEntries) in
    cc

pub first_same : (es : List Node) (k : ℕ) (n o : Node) (rest after : List Node) (Q : Type 0) → k < length es → n ≡ get_or es k n → rest ≡ o ∷ after → Both (left es k ≡ forest rest) Q
    → tree_of n ≡ tree_of o → Both (left es (k + 1) ≡ forest after) Q
first_same es k n o rest after Q lt is cut (goes, back) same = (
  λ h.
      let top = top_is (node n).top (node o).top (node n).beneath (node o).beneath NoEntries NoEntries same in
      let beneath = beneath_is (node n).top (node o).top (node n).beneath (node o).beneath NoEntries NoEntries same in
      goes (left_is es k n lt is ∙ (λ j. AnEntry (top j) (beneath j) (h j)) ∙ sym (ap (λ (ns : List Node). forest ns) cut)),
  λ q. beside_is (node n).top (node o).top (node n).beneath (node o).beneath (left es (k + 1)) (forest after) (first_trees es k n o rest after lt is cut (back q)),
)

-- at the end of the first list
none_forest : (ns : List Node) → NoEntries ≡ forest ns → ns ≡ []
none_forest [] h = refl
none_forest (n ∷ ns) h = cc

none_in : (ns : List Node) → length ns ≡ 0 → ns ≡ []
none_in [] e = refl
none_in (n ∷ ns) e = absurd (omega (arith, e))

pub at_end : (es : List Node) (k : ℕ) (rest : List Node) (t : Bool) (Q : Type 0) → length es ≤ k → (t ≡ true → length rest ≡ 0) → (length rest ≡ 0 → t ≡ true) → Both (left es k ≡ forest rest) Q → Decides t Q
at_end es k rest t Q le met only (goes, back) = (
  λ is. goes (left_none es k le ∙ sym (ap (λ (ns : List Node). forest ns) (none_in rest (met is)))),
  λ q. only (ap (length {A = Node}) (none_forest rest (sym (left_none es k le) ∙ back q))),
)

-- ---- the record

-- an entry with its name told
abbrev pub with_told : Resolved → Resolved
with_told e = record e { name = told_name e.kind e.name }

pub record_opened : (n : Node) → unnamed (tree_of n) ≡ AnEntry (with_told (own n)) (below n) NoEntries
record_opened n = ap unnamed (opened n)

told_names : (a b : Node) → IsSameRecord (tree_of a) (tree_of b) → with_told (own a) ≡ with_told (own b)
told_names a b h = top_is (with_told (own a)) (with_told (own b)) (below a) (below b) NoEntries NoEntries (sym (record_opened a) ∙ h ∙ record_opened b)

pub record_nameless : (a b : Node) → IsSameRecord (tree_of a) (tree_of b) → nameless (own a) ≡ nameless (own b)
record_nameless a b h = ap nameless (told_names a b h)

pub record_told : (a b : Node) → IsSameRecord (tree_of a) (tree_of b) → told_name (out-Node a).kind (out-Node a).name ≡ told_name (out-Node b).kind (out-Node b).name
record_told a b h = ap (λ (e : Resolved). e.name) (told_names a b h)

pub same_record : (a b : Node) (t : Bool) → told_name (out-Node a).kind (out-Node a).name ≡ told_name (out-Node b).kind (out-Node b).name → nameless (own a) ≡ nameless (own b)
    → Decides t (below a ≡ below b) → Decides t (IsSameRecord (tree_of a) (tree_of b))
same_record a b t names rest (met, only) = (
  λ is. record_opened a ∙ (λ j. AnEntry (both (with_told (own a)) (with_told (own b)) names rest j) (met is j) NoEntries) ∙ sym (record_opened b),
  λ h. only (beneath_is (with_told (own a)) (with_told (own b)) (below a) (below b) NoEntries NoEntries (sym (record_opened a) ∙ h ∙ record_opened b)),
)
