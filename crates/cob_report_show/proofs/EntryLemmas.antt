-- The entries of a record: their lines, and the names behind their numbers.
use Rattle.std.proofs.Common.{◌≡◌, ℕ, zero, suc, ◌+◌, ◌-◌, ◌*◌, ◌<◌, ◌≤◌, ◌==◌, ◌⊎◌, Bool, true, false, cond, leb, List, [], ◌∷◌, ◌++◌, length, get_or, Option, None, Some, refl, sym, ap, subst, ◌∙◌, append_assoc, append-nil, arith, inl, inr, Err}
use Rattle.std.specs.Prelude.{find, if◌then◌else◌}
use Rattle.std.specs.Option.{option_or}
use Rattle.std.specs.List.Sorted.{IsPartitionedBy}
use Rattle.std.proofs.lemmas.List.Sorted.{IsPartitionedBy-leb}
use Rattle.std.proofs.lemmas.Bool.Decides.{nat_tests}
use Rattle.std.proofs.lemmas.List.Folds.{find-append}
use Rattle.std.proofs.lemmas.List.Concat.{flat_map-append}
use Rattle.cob_copybook_tree.specs.declared.node.Node.{Node}
use Rattle.cob_copybook_tree.specs.Forests.{Forest, NoEntries, AnEntry, Tree, entries_in, flat}
use Rattle.cob_copybook_tree.specs.Nodes.{Resolved, forest, node, tree_of}
use Rattle.cob_layout_places.specs.Cover.{AreNumbered}
use Rattle.cob_copybook_tree.specs.declared.node.Node.TheViews.{out-Node}
use Rattle.cob_layout_places.proofs.ForestLemmas.{below, below_is, left, left_is, node_out}
use Rattle.cob_records.specs.declared.records.RecordFault.{RecordFault}
use Rattle.cob_records.specs.Device.{Took}
use Rattle.cob_records.specs.Frame.{taken_of}
use Rattle.cob_copybook_conditions.specs.Names.{PlainConditionName}
use Rattle.cob_report_show.specs.Entries.{ListsEntries, found_name, lines_among, lines_of, name_by_number}
use Rattle.cob_report_show.specs.Sent.{IsBeginning, SendsText}

-- ---- lines of entries, one behind another

lines_of_entry : (tree : Forest Resolved) (names : List PlainConditionName) (e : Resolved) (children more : Forest Resolved)
    → lines_among tree names (AnEntry e children more) ≡ lines_of tree names e ++ (lines_among tree names children ++ lines_among tree names more)
lines_of_entry tree names e children more = ap (λ (xs : List ℕ). lines_of tree names e ++ xs) (flat_map-append (lines_of tree names) (flat children) (flat more))

-- the lines of an entry, and those beneath it
pub lines_beneath : (tree : Forest Resolved) (names : List PlainConditionName) (n : Node)
    → lines_among tree names (tree_of n) ≡ lines_of tree names (node n).top ++ lines_among tree names (below n)
lines_beneath tree names n =
    lines_of_entry tree names (node n).top (node n).beneath NoEntries
    ∙ ap (λ (xs : List ℕ). lines_of tree names (node n).top ++ xs) (append-nil (lines_among tree names (node n).beneath))
    ∙ ap (λ (f : Forest Resolved). lines_of tree names (node n).top ++ lines_among tree names f) (below_is n)

-- the lines of the next entry with those beneath it, and those of the entries behind it
pub lines_left : (tree : Forest Resolved) (names : List PlainConditionName) (children : List Node) (k : ℕ) (n : Node) → k < length children → n ≡ get_or children k n
    → lines_among tree names (left children k) ≡ lines_among tree names (tree_of n) ++ lines_among tree names (left children (k + 1))
lines_left tree names children k n low is =
    let line = lines_of tree names (node n).top in
    let inner = lines_among tree names (node n).beneath in
    let rest = lines_among tree names (left children (k + 1)) in
    ap (lines_among tree names) (left_is children k n low is)
    ∙ lines_of_entry tree names (node n).top (node n).beneath (left children (k + 1))
    ∙ sym (append_assoc line inner rest)
    ∙ ap (λ (xs : List ℕ). (line ++ xs) ++ rest) (sym (append-nil inner))
    ∙ ap (λ (xs : List ℕ). xs ++ rest) (sym (lines_of_entry tree names (node n).top (node n).beneath NoEntries))

-- ---- the entry with a number

abbrev has_number : ℕ → Resolved → Bool
has_number number e = e.number == number

abbrev found : ℕ → Forest Resolved → Option Resolved
found number f = find (has_number number) (flat f)

differs : (a b : ℕ) → (a ≡ b → ⊥) → (a == b) ≡ false
differs a b h = grind (arith, nat_tests)

none_either : (a b : Option Resolved) → a ≡ None → b ≡ None → option_or a b ≡ None
none_either a b e g = rw (e, g) refl

-- a number that none of the entries has
absent : (f : Forest Resolved) (n number : ℕ) → AreNumbered n f → (number < n) ⊎ (n + entries_in f ≤ number) → found number f ≡ None
absent NoEntries n number num out = refl
absent (AnEntry e children more) n number num out =
    let other : (e.number ≡ number) → ⊥ = λ same. elim out [
      | inl low ↦ omega (arith, low, num.0, same)
      | inr high ↦ omega (arith, high, num.0, same)
    ] in
    let inner : (number < n + 1) ⊎ (n + 1 + entries_in children ≤ number) = elim out [
      | inl low ↦ inl (omega (arith, low))
      | inr high ↦ inr (omega (arith, high))
    ] in
    let outer : (number < n + 1 + entries_in children) ⊎ (n + 1 + entries_in children + entries_in more ≤ number) = elim out [
      | inl low ↦ inl (omega (arith, low))
      | inr high ↦ inr (omega (arith, high))
    ] in
    ap (λ (b : Bool). cond b (Some e) (find (has_number number) (flat children ++ flat more))) (differs e.number number other)
    ∙ find-append (has_number number) (flat children) (flat more)
    ∙ none_either _ _ (absent children (n + 1) number num.1 inner) (absent more (n + 1 + entries_in children) number num.2 outer)

-- of an entry with others behind it
pub found_split : (number : ℕ) (n : Node) (ns : List Node)
    → found number (forest (n ∷ ns)) ≡ option_or (found number (tree_of n)) (found number (forest ns))
found_split number n ns = split (node n).top (flat (node n).beneath) (flat (forest ns))
  where
    either : (b : Bool) (e : Resolved) (o p : Option Resolved) → cond b (Some e) (option_or o p) ≡ option_or (cond b (Some e) o) p
    either true e o p = refl
    either false e o p = refl

    split : (e : Resolved) (xs ys : List Resolved) → find (has_number number) (e ∷ (xs ++ ys)) ≡ option_or (find (has_number number) (e ∷ (xs ++ []))) (find (has_number number) ys)
    split e xs ys =
        ap (λ (o : Option Resolved). cond (has_number number e) (Some e) o) (find-append (has_number number) xs ys)
        ∙ either (has_number number e) e (find (has_number number) xs) (find (has_number number) ys)
        ∙ ap (λ (zs : List Resolved). option_or (cond (has_number number e) (Some e) (find (has_number number) zs)) (find (has_number number) ys)) (sym (append-nil xs))

or_none : (o : Option Resolved) → option_or o None ≡ o
or_none None = refl
or_none (Some e) = refl

abbrev number_at : List Node → ℕ → Node → ℕ
number_at ns k d = (node (get_or ns k d)).top.number

-- the numbers of entries side by side are no less than the first one's
pub number_low : (ns : List Node) (n k : ℕ) (d : Node) → AreNumbered n (forest ns) → k < length ns → n ≤ number_at ns k d
number_low [] n k d num low = absurd (omega (arith, low))
number_low (c ∷ ns) n zero d num low = omega (arith, num.0)
number_low (c ∷ ns) n (suc k) d num low =
    let further = number_low ns (n + 1 + entries_in (node c).beneath) k d num.2 (omega (arith, low)) in
    omega (arith, further)

pub numbers_rise : (ns : List Node) (n i j : ℕ) (d : Node) → AreNumbered n (forest ns) → i ≤ j → j < length ns → number_at ns i d ≤ number_at ns j d
numbers_rise [] n i j d num before low = absurd (omega (arith, low))
numbers_rise (c ∷ ns) n zero j d num before low =
    let further = number_low (c ∷ ns) n j d num low in
    omega (arith, further, num.0)
numbers_rise (c ∷ ns) n (suc i) zero d num before low = absurd (omega (arith, before))
numbers_rise (c ∷ ns) n (suc i) (suc j) d num before low =
    numbers_rise ns (n + 1 + entries_in (node c).beneath) i j d num.2 (omega (arith, before)) (omega (arith, low))

-- the entry with a number stands in the last of the entries side by side whose own number is no greater
pub found_in : (ns : List Node) (n number k : ℕ) (d : Node) → AreNumbered n (forest ns) → k < length ns → number_at ns k d ≤ number
    → ((m : ℕ) → m ≡ k + 1 → m < length ns → number < number_at ns m d) → found number (forest ns) ≡ found number (tree_of (get_or ns k d))
found_in [] n number k d num low last next = absurd (omega (arith, low))
found_in (c ∷ ns) n number zero d num low last next =
    found_split number c ns ∙ ap (λ (o : Option Resolved). option_or (found number (tree_of c)) o) (none_behind ns num.2 (next 1 (omega arith))) ∙ or_none (found number (tree_of c))
  where
    none_behind : (ns : List Node) → AreNumbered (n + 1 + entries_in (node c).beneath) (forest ns) → (1 < length (c ∷ ns) → number < number_at (c ∷ ns) 1 d)
        → found number (forest ns) ≡ None
    none_behind [] num next = refl
    none_behind (b ∷ ns) num next =
        let below_next = next (omega arith) in
        absent (forest (b ∷ ns)) (n + 1 + entries_in (node c).beneath) number num (inl (omega (arith, below_next, num.0)))
found_in (c ∷ ns) n number (suc k) d num low last next =
    let first = number_low ns (n + 1 + entries_in (node c).beneath) k d num.2 (omega (arith, low)) in
    let none : found number (tree_of c) ≡ None = absent (tree_of c) n number (num.0, num.1, tt) (inr (omega (arith, first, last))) in
    found_split number c ns
    ∙ ap (λ (o : Option Resolved). option_or o (found number (forest ns))) none
    ∙ found_in ns (n + 1 + entries_in (node c).beneath) number k d num.2 (omega (arith, low)) last (λ m is more. next (suc m) (omega (arith, is)) (omega (arith, more)))

-- none of them has it where it is below the first one's
pub found_none : (ns : List Node) (n number : ℕ) (d : Node) → AreNumbered n (forest ns) → (0 < length ns → number < number_at ns 0 d) → found number (forest ns) ≡ None
found_none [] n number d num next = refl
found_none (c ∷ ns) n number d num next =
    let low = next (omega arith) in
    absent (forest (c ∷ ns)) n number num (inl (omega (arith, low, num.0)))

-- each of the entries side by side is numbered by itself
pub numbered_at : (ns : List Node) (n k : ℕ) (d : Node) → AreNumbered n (forest ns) → k < length ns → AreNumbered (number_at ns k d) (tree_of (get_or ns k d))
numbered_at [] n k d num low = absurd (omega (arith, low))
numbered_at (c ∷ ns) n zero d num low = (refl, subst (λ (m : ℕ). AreNumbered (m + 1) (node c).beneath) (sym num.0) num.1, tt)
numbered_at (c ∷ ns) n (suc k) d num low = numbered_at ns (n + 1 + entries_in (node c).beneath) k d num.2 (omega (arith, low))

-- and so are those beneath an entry
pub numbered_beneath : (n : Node) (children : List Node) → children ≡ (out-Node n).children.items → AreNumbered (node n).top.number (tree_of n)
    → AreNumbered ((node n).top.number + 1) (forest children)
numbered_beneath n children are num =
    subst (λ (f : Forest Resolved). AreNumbered ((node n).top.number + 1) f) (below_is n ∙ ap (λ (ns : List Node). forest ns) (sym are)) num.1

-- the number of another entry stands beneath this one, if at all
pub name_below : (n : Node) (children : List Node) (number : ℕ) → children ≡ (out-Node n).children.items → ((node n).top.number ≡ number → ⊥)
    → name_by_number number (tree_of n) ≡ name_by_number number (forest children)
name_below n children number are other =
    ap (λ (o : Option Resolved). found_name o)
    (ap (λ (b : Bool). cond b (Some (node n).top) (find (has_number number) (flat (node n).beneath ++ []))) (differs (node n).top.number number other)
    ∙ ap (λ (xs : List Resolved). find (has_number number) xs) (append-nil (flat (node n).beneath))
    ∙ ap (λ (f : Forest Resolved). found number f) (below_is n ∙ ap (λ (ns : List Node). forest ns) (sym are)))

-- a number that is none of theirs names nothing
pub no_name : (ns : List Node) (n number : ℕ) (d : Node) → AreNumbered n (forest ns) → (0 < length ns → number < number_at ns 0 d) → name_by_number number (forest ns) ≡ []
no_name ns n number d num next = ap (λ (o : Option Resolved). found_name o) (found_none ns n number d num next)

-- the name stands in the last one of them whose own number is no greater
pub name_in : (ns : List Node) (n number k : ℕ) (d : Node) → AreNumbered n (forest ns) → k < length ns → number_at ns k d ≤ number
    → ((m : ℕ) → m ≡ k + 1 → m < length ns → number < number_at ns m d) → name_by_number number (forest ns) ≡ name_by_number number (tree_of (get_or ns k d))
name_in ns n number k d num low last next = ap (λ (o : Option Resolved). found_name o) (found_in ns n number k d num low last next)

-- what is asked of entries that are cut by a number
pub parted : (ns : List Node) (n number : ℕ) → AreNumbered n (forest ns) → IsPartitionedBy (λ (c : Node). leb (node c).top.number number) ns
parted ns n number num = IsPartitionedBy-leb (λ (c : Node). (node c).top.number) ns number (λ i j d before low. numbers_rise ns n i j d num before low)

-- ---- one step to the entry with a number

pub step_numbered : (n child d : Node) (k : ℕ) → AreNumbered (node n).top.number (tree_of n) → k < length (out-Node n).children.items
    → child ≡ get_or (out-Node n).children.items k d → AreNumbered (node child).top.number (tree_of child)
step_numbered n child d k num low is =
    subst (λ (m : Node). AreNumbered (node m).top.number (tree_of m)) (sym is)
    (numbered_at (out-Node n).children.items ((node n).top.number + 1) k d (numbered_beneath n (out-Node n).children.items refl num) low)

pub step_name : (n child d : Node) (children : List Node) (number count : ℕ) → children ≡ (out-Node n).children.items → AreNumbered (node n).top.number (tree_of n)
    → ((node n).top.number ≡ number → ⊥) → 0 < count → count ≤ length children
    → ((e : Node) → 0 < count → number_at children (count - 1) e ≤ number) → ((e : Node) → count < length children → number < number_at children count e)
    → child ≡ get_or (out-Node n).children.items (count - 1) d → name_by_number number (tree_of child) ≡ name_by_number number (tree_of n)
step_name n child d children number count are num other some most last next is =
    ap (λ (m : Node). name_by_number number (tree_of m)) (is ∙ ap (λ (ns : List Node). get_or ns (count - 1) d) (sym are))
    ∙ sym (name_in children ((node n).top.number + 1) number (count - 1) d (numbered_beneath n children are num) (omega (arith, some, most)) (last d some)
    (λ m at low. let same : m ≡ count = omega (arith, at, some) in subst (λ (j : ℕ). number < number_at children j d) (sym same) (next d (omega (arith, same, low)))))
    ∙ sym (name_below n children number are other)

pub no_step : (n : Node) (children : List Node) (number count : ℕ) → children ≡ (out-Node n).children.items → AreNumbered (node n).top.number (tree_of n)
    → ((node n).top.number ≡ number → ⊥) → count ≡ 0 → ((e : Node) → count < length children → number < number_at children count e)
    → [] ≡ name_by_number number (tree_of n)
no_step n children number count are num other none next =
    sym (name_below n children number are other
    ∙ no_name children ((node n).top.number + 1) number n (numbered_beneath n children are num)
    (λ some. subst (λ (j : ℕ). number < number_at children j n) none (next n (omega (arith, none, some)))))

pub number_out : (n : Node) → (node n).top.number ≡ (out-Node n).number
number_out n = ap (λ (t : Tree Resolved). t.top.number) (node_out n)

pub other_number : (n : Node) (number : ℕ) → ((out-Node n).number ≡ number → ⊥) → (node n).top.number ≡ number → ⊥
other_number n number other is = other (sym (number_out n) ∙ is)

-- fewer entries stand beneath one of the entries side by side than there are of all
entries_fewer : (ns : List Node) (k : ℕ) (d : Node) → k < length ns → entries_in (node (get_or ns k d)).beneath < entries_in (forest ns)
entries_fewer [] k d low = absurd (omega (arith, low))
entries_fewer (c ∷ ns) zero d low = omega arith
entries_fewer (c ∷ ns) (suc k) d low = let further = entries_fewer ns k d (omega (arith, low)) in omega (arith, further)

pub fewer_beneath : (n child d : Node) (k : ℕ) → k < length (out-Node n).children.items → child ≡ get_or (out-Node n).children.items k d
    → entries_in (node child).beneath < entries_in (node n).beneath
fewer_beneath n child d k low is =
    subst (λ (f : Forest Resolved). entries_in (node child).beneath < entries_in f) (sym (below_is n))
    (subst (λ (m : Node). entries_in (node m).beneath < entries_in (below n)) (sym is) (entries_fewer (out-Node n).children.items k d low))

-- ---- where the lines could not all be written

-- the bytes that went out were counted
pub lists_part : (tree root : Forest Resolved) (names : List PlainConditionName) (fault told : RecordFault) (sent : ℕ) (w0 w1 : Option (List ℕ)) → root ≡ tree
    → Took w0 w1 (SendsText (lines_among tree names root) 0 sent (Err fault)) → taken_of told ≡ sent → Took w0 w1 (ListsEntries tree names (Err told))
lists_part tree root names fault told sent w0 w1 same (p, (begun, sum), took) counts =
    (p, (subst (λ (f : Forest Resolved). IsBeginning p (lines_among tree names f)) same begun, counts ∙ sum (omega arith)), took)
