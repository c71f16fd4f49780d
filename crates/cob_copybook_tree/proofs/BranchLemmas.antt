-- The trees of a list of branches.
use Rattle.std.proofs.Common.{◌≡◌, ℕ, ◌+◌, ◌<◌, List, [], ◌∷◌, ◌++◌, length, map, drop, get_or, refl, sym, ap, subst, ◌∙◌, append_assoc}
use Rattle.std.proofs.lemmas.List.{at_drop_more, map-append}
use Rattle.cob_copybook_entry.specs.declared.entry.Entry.{Entry}
use Rattle.cob_copybook_entry.specs.Described.{PlainEntry, plain_entry}
use Rattle.cob_copybook_tree.specs.declared.branch.Branch.{Branch}
use Rattle.cob_copybook_tree.specs.declared.branch.Branch.TheOpen.{Branch-F}
use Rattle.cob_copybook_tree.specs.declared.branch.Branch.TheViews.{out-Branch, roll-Branch}
use Rattle.cob_copybook_tree.specs.declared.branch.Branch.TheFolds.{fold-roll-Branch, fold_out-Branch}
use Rattle.cob_copybook_tree.specs.Forests.{Tree, AnEntry, flat, IsTree, AreDeeper, NotDeeper}
use Rattle.cob_copybook_tree.specs.Branches.{branch, branch_step, forest_of, level_of}

pub branch_out : (b : Branch) → branch b ≡ record { top = plain_entry (out-Branch b).entry; beneath = forest_of (out-Branch b).children.items }
branch_out b = fold_out-Branch (Tree PlainEntry) branch_step b

pub branch_roll : (x : Branch-F Branch) → branch (roll-Branch x) ≡ record { top = plain_entry x.entry; beneath = forest_of x.children.items }
branch_roll = fold-roll-Branch (Tree PlainEntry) branch_step

-- a branch beside others
pub forest_out : (b : Branch) (bs : List Branch) → forest_of (b ∷ bs) ≡ AnEntry (plain_entry (out-Branch b).entry) (forest_of (out-Branch b).children.items) (forest_of bs)
forest_out b bs = ap (λ (t : Tree PlainEntry). AnEntry t.top t.beneath (forest_of bs)) (branch_out b)

-- the branches from a place on
pub forest_at : (bs : List Branch) (i : ℕ) (b : Branch) → i < length bs → b ≡ get_or bs i b → forest_of (drop i bs) ≡ forest_of (b ∷ drop (i + 1) bs)
forest_at bs i b lt is = at_drop_more forest_of bs i b lt ∙ ap (λ (c : Branch). forest_of (c ∷ drop (i + 1) bs)) (sym is)

pub deeper_push : (l : ℕ) (bs : List Branch) (b : Branch) → AreDeeper level_of l (forest_of bs) → l < (out-Branch b).entry.level → AreDeeper level_of l (forest_of (bs ++ b ∷ []))
deeper_push l [] b h lt = (rw (branch_out b) lt, tt)
deeper_push l (c ∷ bs) b h lt = (h.0, deeper_push l bs b h.1 lt)

pub flat_beside : (bs cs : List Branch) → flat (forest_of (bs ++ cs)) ≡ flat (forest_of bs) ++ flat (forest_of cs)
flat_beside [] cs = refl
flat_beside (b ∷ bs) cs =
    let e = flat_beside bs cs in
    ap (λ t. (branch b).top ∷ (flat (branch b).beneath ++ t)) e ∙ ap (λ t. (branch b).top ∷ t) (sym (append_assoc (flat (branch b).beneath) (flat (forest_of bs)) (flat (forest_of cs))))

not_deeper_left : (l : ℕ) (bs cs : List Branch) → NotDeeper level_of l (forest_of (bs ++ cs)) → NotDeeper level_of l (forest_of bs)
not_deeper_left l [] cs h = tt
not_deeper_left l (b ∷ bs) cs h = h

pub tree_left : (bs cs : List Branch) → IsTree level_of (forest_of (bs ++ cs)) → IsTree level_of (forest_of bs)
tree_left [] cs h = tt
tree_left (b ∷ bs) cs h = (h.0, h.1, not_deeper_left (branch b).top.level bs cs h.2, tree_left bs cs h.3)

pub tree_right : (bs cs : List Branch) → IsTree level_of (forest_of (bs ++ cs)) → IsTree level_of (forest_of cs)
tree_right [] cs h = h
tree_right (b ∷ bs) cs h = tree_right bs cs h.3

pub planted_flat : (es : List Entry) (e : Entry) (cs ps : List Branch) (b : Branch) → branch b ≡ record { top = plain_entry e; beneath = forest_of cs }
    → map plain_entry (es ++ e ∷ []) ++ flat (forest_of (cs ++ ps)) ≡ map plain_entry es ++ flat (forest_of (b ∷ ps))
planted_flat es e cs ps b is =
    ap (λ t. t ++ flat (forest_of (cs ++ ps))) (map-append plain_entry es (e ∷ []))
    ∙ append_assoc (map plain_entry es) (plain_entry e ∷ []) (flat (forest_of (cs ++ ps)))
    ∙ ap (λ t. map plain_entry es ++ plain_entry e ∷ t) (flat_beside cs ps)
    ∙ ap (λ (t : Tree PlainEntry). map plain_entry es ++ t.top ∷ (flat t.beneath ++ flat (forest_of ps))) (sym is)

pub planted_tree : (e : Entry) (cs ps : List Branch) (b : Branch) → branch b ≡ record { top = plain_entry e; beneath = forest_of cs } → IsTree level_of (forest_of (cs ++ ps))
    → AreDeeper level_of e.level (forest_of cs) → NotDeeper level_of e.level (forest_of ps) → IsTree level_of (forest_of (b ∷ ps))
planted_tree e cs ps b is h deeper other =
    subst (λ (t : Tree PlainEntry). AreDeeper level_of t.top.level t.beneath × IsTree level_of t.beneath × NotDeeper level_of t.top.level (forest_of ps) × IsTree level_of (forest_of ps)) (sym is)
    (deeper, tree_left cs ps h, other, tree_right cs ps h)
