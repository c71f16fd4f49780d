-- Nodes so far, and those of the branches that are left.
use Rattle.std.proofs.Common.{◌≡◌, ℕ, ◌+◌, ◌<◌, List, [], ◌∷◌, ◌++◌, length, drop, get_or, Option, refl, sym, ap, ◌∙◌, arith}
use Rattle.cob_copybook_entry.specs.declared.kinds.Usage.{Usage}
use Rattle.cob_copybook_entry.specs.declared.kinds.Sign.{Sign}
use Rattle.cob_copybook_entry.specs.Described.{plain_entry}
use Rattle.cob_copybook_tree.specs.declared.branch.Branch.{Branch}
use Rattle.cob_copybook_tree.specs.declared.branch.Branch.TheViews.{out-Branch}
use Rattle.cob_copybook_tree.specs.declared.node.Node.{Node}
use Rattle.cob_copybook_tree.specs.Forests.{Forest, NoEntries, AnEntry, Tree, entries_in}
use Rattle.cob_copybook_tree.specs.Branches.{branch, forest_of}
use Rattle.cob_copybook_tree.specs.Nodes.{Resolved, node, forest}
use Rattle.cob_copybook_tree.specs.Resolving.{count_at, inherited, resolved, resolved_by}
use Rattle.cob_copybook_tree.proofs.BranchLemmas as branches
use Rattle.cob_copybook_tree.proofs.NodeLemmas.{beside, forest_push}

-- the entries of the branches from a place on are those of the first, and then those of the others
pub entries_at : (bs : List Branch) (i : ℕ) (b : Branch) → i < length bs → b ≡ get_or bs i b
    → entries_in (forest_of (drop i bs)) ≡ entries_in (forest_of (b ∷ [])) + entries_in (forest_of (drop (i + 1) bs))
entries_at bs i b lt is = let e = ap (λ f. entries_in f) (branches.forest_at bs i b lt is) in omega (arith, e)

-- the entries of a branch
pub entries_out : (b : Branch) → entries_in (forest_of (b ∷ [])) ≡ 1 + entries_in (forest_of (out-Branch b).children.items)
entries_out b = let e = ap (λ f. entries_in f) (branches.forest_out b []) in omega (arith, e)

-- a branch and others, resolved, are the branch resolved and the others beside it
resolved_split : (counts : List (Option ℕ)) (n : ℕ) (usage : Option Usage) (sign : Option Sign) (b : Branch) (bs : List Branch)
    → resolved counts n usage sign (forest_of (b ∷ bs)) ≡ beside (resolved counts n usage sign (forest_of (b ∷ []))) (resolved counts (n + entries_in (forest_of (b ∷ []))) usage sign (forest_of bs))
resolved_split counts n usage sign b bs =
    let k : n + 1 + entries_in (branch b).beneath ≡ n + entries_in (forest_of (b ∷ [])) = omega arith in
    let d = (branch b).top in
    let own_usage = inherited usage d.usage in
    let own_sign = inherited sign d.sign in
    ap (λ (j : ℕ). AnEntry (resolved_by n (count_at counts n) own_usage own_sign d) (resolved counts (n + 1) own_usage own_sign (branch b).beneath) (resolved counts j usage sign (forest_of bs))) k

-- a further branch resolved
pub next_node : (counts : List (Option ℕ)) (n : ℕ) (usage : Option Usage) (sign : Option Sign) (bs : List Branch) (i : ℕ) (b : Branch) (ns : List Node) (m : Node) (all : Forest Resolved)
    → i < length bs → b ≡ get_or bs i b
    → beside (forest ns) (resolved counts n usage sign (forest_of (drop i bs))) ≡ all
    → forest (m ∷ []) ≡ resolved counts n usage sign (forest_of (b ∷ []))
    → beside (forest (ns ++ m ∷ [])) (resolved counts (n + entries_in (forest_of (b ∷ []))) usage sign (forest_of (drop (i + 1) bs))) ≡ all
next_node counts n usage sign bs i b ns m all lt is before e =
    let rest = resolved counts (n + entries_in (forest_of (b ∷ []))) usage sign (forest_of (drop (i + 1) bs)) in
    forest_push ns m rest
    ∙ ap (λ f. beside (forest ns) (beside f rest)) e
    ∙ ap (λ f. beside (forest ns) f) (sym (resolved_split counts n usage sign b (drop (i + 1) bs)))
    ∙ ap (λ f. beside (forest ns) (resolved counts n usage sign f)) (sym (branches.forest_at bs i b lt is))
    ∙ before

-- the node of a branch, when all its children are resolved
pub last_node : (counts : List (Option ℕ)) (n : ℕ) (usage own_usage : Option Usage) (sign own_sign : Option Sign) (count : Option ℕ) (b : Branch) (ns : List Node) (m : Node)
    → count ≡ count_at counts n → own_usage ≡ inherited usage (out-Branch b).entry.usage → own_sign ≡ inherited sign (out-Branch b).entry.sign
    → node m ≡ record { top = resolved_by n count own_usage own_sign (plain_entry (out-Branch b).entry); beneath = forest ns }
    → forest ns ≡ resolved counts (n + 1) own_usage own_sign (forest_of (out-Branch b).children.items)
    → forest (m ∷ []) ≡ resolved counts n usage sign (forest_of (b ∷ []))
last_node counts n usage own_usage sign own_sign count b ns m is_count is_usage is_sign is_node beneath =
    ap (λ (t : Tree Resolved). AnEntry t.top t.beneath NoEntries) is_node
    ∙ ap (λ f. AnEntry (resolved_by n count own_usage own_sign (plain_entry (out-Branch b).entry)) f NoEntries) beneath
    ∙ rw (is_count, is_usage, is_sign) refl
    ∙ ap (λ f. resolved counts n usage sign f) (sym (branches.forest_out b []))
