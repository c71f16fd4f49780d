-- The occurrences of named items of a record as they are gone through, and as they are meant.
use Rattle.std.proofs.Common.{◌≡◌, ℕ, ◌+◌, Bool, List, [], Option, Some, None, refl, sym, ap, ◌∙◌, arith, inl, inr}
use Rattle.std.specs.Prelude.{IfNone, IfSome, IsSome}
use Rattle.cob_copybook_tree.specs.declared.node.Kind.{Kind}
use Rattle.cob_copybook_tree.specs.declared.node.Kind.TheVariants.{Item as ItemKind}
use Rattle.cob_copybook_tree.specs.declared.node.Item.{Item}
use Rattle.cob_copybook_tree.specs.Forests.{Forest, NoEntries, AnEntry, entries_in}
use Rattle.cob_copybook_tree.specs.Nodes.{Resolved}
use Rattle.cob_layout_places.specs.Counts.{kind_in}
use Rattle.cob_layout_places.specs.Cover.{AreNumbered}
use Rattle.cob_layout_places.specs.Needs.{Has}
use Rattle.cob_layout_places.specs.Places.{is_table, later, or_else, choose}
use Rattle.cob_layout_places.specs.References.{Refers}
use Rattle.cob_layout.proofs.EndLemmas.{numbered}
use Rattle.cob_layout.proofs.ReferenceLemmas.{refers_has}
use Rattle.cob_back_moves.specs.Returns.{BearsName, IsReturned}
use Rattle.cob_move_data.specs.Singles.{SingleMove, occurrence}
use Rattle.cob_back_moves.proofs.ApartLaw.{is_same, own_kind, passed, past}
use Rattle.cob_back_moves.specs.Brought.{AllReturned, IsLostItem}
use Rattle.cob_back_moves.specs.Walk.{AllFine, HasItem, IsLostEntry}

bears_has : (r : ℕ) (f : Forest Resolved) → BearsName r f → Has r f
bears_has r NoEntries h = h
bears_has r (AnEntry e children more) (inl h) = inl h.0
bears_has r (AnEntry e children more) (inr (inl h)) = inr (inl (bears_has r children h))
bears_has r (AnEntry e children more) (inr (inr h)) = inr (inr (bears_has r more h))

or_none : (o : Option Kind) → or_else o None ≡ o
or_none None = refl
or_none (Some k) = refl

-- ---- what the entry with a number describes, by where it stands

own_same : (r : ℕ) (e : Resolved) (children more : Forest Resolved) → e.number ≡ r → kind_in r (AnEntry e children more) ≡ Some e.kind
own_same r e children more this = ap (λ (b : Bool). or_else (choose b e.kind (kind_in r children)) (kind_in r more)) (is_same e.number r this)

kid_same : (r n : ℕ) (e : Resolved) (children more : Forest Resolved) → AreNumbered n (AnEntry e children more) → Has r children
    → kind_in r (AnEntry e children more) ≡ kind_in r children
kid_same r n e children more num has =
    let (low, high) = numbered r (n + 1) children num.1 has in
    passed r e children more (λ this. omega (arith, this, low, num.0))
    ∙ ap (or_else (kind_in r children)) (past r (n + 1 + entries_in children) more num.2 (inl (omega (arith, high))))
    ∙ or_none (kind_in r children)

more_same : (r n : ℕ) (e : Resolved) (children more : Forest Resolved) → AreNumbered n (AnEntry e children more) → Has r more
    → kind_in r (AnEntry e children more) ≡ kind_in r more
more_same r n e children more num has =
    let (low, high) = numbered r (n + 1 + entries_in children) more num.2 has in
    passed r e children more (λ this. omega (arith, this, low, num.0))
    ∙ ap (λ (o : Option Kind). or_else o (kind_in r more)) (past r (n + 1) children num.1 (inr (omega (arith, low))))

-- ---- its name

own_name : (r n : ℕ) (e : Resolved) (children more : Forest Resolved) → AreNumbered n (AnEntry e children more) → e.number ≡ r → BearsName r (AnEntry e children more) → IsSome e.name
own_name r n e children more num this (inl h) = h.1
own_name r n e children more num this (inr (inl h)) = absurd (omega (arith, this, num.0, (numbered r (n + 1) children num.1 (bears_has r children h)).0))
own_name r n e children more num this (inr (inr h)) = absurd (omega (arith, this, num.0, (numbered r (n + 1 + entries_in children) more num.2 (bears_has r more h)).0))

kid_name : (r n : ℕ) (e : Resolved) (children more : Forest Resolved) → AreNumbered n (AnEntry e children more) → Has r children → BearsName r (AnEntry e children more) → BearsName r children
kid_name r n e children more num has (inl h) = absurd (omega (arith, h.0, num.0, (numbered r (n + 1) children num.1 has).0))
kid_name r n e children more num has (inr (inl h)) = h
kid_name r n e children more num has (inr (inr h)) =
    absurd (omega (arith, (numbered r (n + 1) children num.1 has).1, (numbered r (n + 1 + entries_in children) more num.2 (bears_has r more h)).0))

more_name : (r n : ℕ) (e : Resolved) (children more : Forest Resolved) → AreNumbered n (AnEntry e children more) → Has r more → BearsName r (AnEntry e children more) → BearsName r more
more_name r n e children more num has (inl h) = absurd (omega (arith, h.0, num.0, (numbered r (n + 1 + entries_in children) more num.2 has).0))
more_name r n e children more num has (inr (inl h)) =
    absurd (omega (arith, (numbered r (n + 1) children num.1 (bears_has r children h)).1, (numbered r (n + 1 + entries_in children) more num.2 has).0))
more_name r n e children more num has (inr (inr h)) = h

-- ---- both ways

-- an item that is gone through is meant
pub record IsMeant (r : ℕ) (rs : List ℕ) (i : Item) (tree : Forest Resolved) : Type 0 where
  refers : Refers r rs tree
  kind : kind_in r tree ≡ Some (ItemKind i)
  named : BearsName r tree

meant : (n : ℕ) (tree : Forest Resolved) (r : ℕ) (rs : List ℕ) (i : Item) → AreNumbered n tree → HasItem r rs i tree → IsMeant r rs i tree
meant n NoEntries r rs i num h = absurd h
meant n (AnEntry e children more) r rs i num (inl (asks, inl (none, entry))) = record {
  refers = inl (asks, inl (entry.number, none));
  kind = own_same r e children more entry.number ∙ ap (λ (k : Kind). Some k) entry.kind;
  named = inl (entry.number, entry.named);
}
meant n (AnEntry e children more) r rs i num (inl (asks, inr h)) =
    let m = meant (n + 1) children r (later (is_table e.occurs) rs) i num.1 h in record {
      refers = inl (asks, inr m.refers);
      kind = kid_same r n e children more num (refers_has r (later (is_table e.occurs) rs) children m.refers) ∙ m.kind;
      named = inr (inl m.named);
    }
meant n (AnEntry e children more) r rs i num (inr h) =
    let m = meant (n + 1 + entries_in children) more r rs i num.2 h in record {
      refers = inr m.refers;
      kind = more_same r n e children more num (refers_has r rs more m.refers) ∙ m.kind;
      named = inr (inr m.named);
    }

gone_through : (n : ℕ) (tree : Forest Resolved) (r : ℕ) (rs : List ℕ) (i : Item) → AreNumbered n tree → Refers r rs tree → kind_in r tree ≡ Some (ItemKind i) → BearsName r tree → HasItem r rs i tree
gone_through n NoEntries r rs i num refers kind named = absurd refers
gone_through n (AnEntry e children more) r rs i num (inl (asks, inl (number, none))) kind named =
    inl (asks, inl (none, record { number = number; kind = own_kind r e children more (ItemKind i) number kind; named = own_name r n e children more num number named }))
gone_through n (AnEntry e children more) r rs i num (inl (asks, inr refers)) kind named =
    let has : Has r children = refers_has r (later (is_table e.occurs) rs) children refers in
    inl (asks, inr (gone_through (n + 1) children r (later (is_table e.occurs) rs) i num.1 refers (sym (kid_same r n e children more num has) ∙ kind) (kid_name r n e children more num has named)))
gone_through n (AnEntry e children more) r rs i num (inr refers) kind named =
    let has : Has r more = refers_has r rs more refers in
    inr (gone_through (n + 1 + entries_in children) more r rs i num.2 refers (sym (more_same r n e children more num has) ∙ kind) (more_name r n e children more num has named))

-- where all named items that are gone through are returned, all that are meant are
pub all_returned : (there back : List SingleMove) (tree : Forest Resolved) → AreNumbered 0 tree → AllFine (λ r rs i. IsReturned there back (occurrence r rs) i) (λ r rs i. HasItem r rs i tree) []
    → AllReturned tree there back
all_returned there back tree num all x i item = all x.number x.subscripts i (gone_through 0 tree x.number x.subscripts i num item.refers item.kind item.named)

-- and where one isn't, it is one that is meant
pub one_lost : (there back : List SingleMove) (tree : Forest Resolved) (r : ℕ) → AreNumbered 0 tree → IsLostEntry (λ r rs i. IsReturned there back (occurrence r rs) i) (λ r rs i. HasItem r rs i tree) [] r
    → IsLostItem tree there back r
one_lost there back tree r num (rs, i, has, unfine) =
    let m = meant 0 tree r rs i num has in
    record { at = occurrence r rs; number = refl; item = i; named = record { refers = m.refers; kind = m.kind; named = m.named }; lost = unfine }

pub if_all_returned : (there back : List SingleMove) (tree : Forest Resolved) (o : Option ℕ) → AreNumbered 0 tree
    → IfNone o (AllFine (λ r rs i. IsReturned there back (occurrence r rs) i) (λ r rs i. HasItem r rs i tree) []) → IfNone o (AllReturned tree there back)
if_all_returned there back tree None num all = all_returned there back tree num all
if_all_returned there back tree (Some r) num all = tt

pub if_one_lost : (there back : List SingleMove) (tree : Forest Resolved) (o : Option ℕ) → AreNumbered 0 tree
    → IfSome o (λ (n : ℕ). IsLostEntry (λ r rs i. IsReturned there back (occurrence r rs) i) (λ r rs i. HasItem r rs i tree) [] n) → IfSome o (λ (n : ℕ). IsLostItem tree there back n)
if_one_lost there back tree None num lost = tt
if_one_lost there back tree (Some r) num lost = one_lost there back tree r num lost
