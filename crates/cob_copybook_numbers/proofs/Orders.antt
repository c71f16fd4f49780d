-- That the entries of a record's tree are those of its text in order.
use Rattle.std.proofs.Common.{◌≡◌, ℕ, ◌+◌, List, [], ◌∷◌, ◌++◌, length, refl, sym, subst, ap, arith, Option, None}
use Rattle.cob_copybook_entry.specs.declared.kinds.Usage.{Usage}
use Rattle.cob_copybook_entry.specs.declared.kinds.Sign.{Sign}
use Rattle.cob_copybook_entry.specs.Described.{PlainEntry}
use Rattle.cob_copybook_tree.specs.Forests.{Forest, NoEntries, AnEntry, entries_in, flat}
use Rattle.cob_copybook_tree.specs.Nodes.{Resolved}
use Rattle.cob_copybook_tree.specs.Resolving.{inherited, resolved}
use Rattle.cob_copybook_tree.proofs.StandsForLemmas.{as_many_of}
use Rattle.cob_copybook_numbers.specs.Numbers.{AreNumberedInOrder}
use Rattle.cob_copybook_numbers.specs.Laws.{NumbersInOrder}

-- entries in order, and further ones behind them
behind : (n m : ℕ) (ds cs : List PlainEntry) (es fs : List Resolved) → m ≡ n + length ds → AreNumberedInOrder n ds es → AreNumberedInOrder m cs fs → AreNumberedInOrder n (ds ++ cs) (es ++ fs)
behind n m [] cs [] fs e h k = let same : m ≡ n = omega (arith, e) in subst (λ (i : ℕ). AreNumberedInOrder i cs fs) same k
behind n m (d ∷ ds) cs (x ∷ es) fs e h k = (h.0, h.1, behind (n + 1) m ds cs es fs (omega (arith, e)) h.2 k)
behind n m [] cs (x ∷ es) fs e h k = absurd h
behind n m (d ∷ ds) cs [] fs e h k = absurd h

in_order : (counts : List (Option ℕ)) (n : ℕ) (usage : Option Usage) (sign : Option Sign) (f : Forest PlainEntry) → AreNumberedInOrder n (flat f) (flat (resolved counts n usage sign f))
in_order counts n usage sign NoEntries = tt
in_order counts n usage sign (AnEntry e children more) = (
  refl,
  record { level = refl; name = refl; redefines = refl; value = refl },
  behind (n + 1) (n + 1 + entries_in children) (flat children) (flat more) _ _ (ap (λ (k : ℕ). n + 1 + k) (as_many_of children))
      (in_order counts (n + 1) (inherited usage e.usage) (inherited sign e.sign) children) (in_order counts (n + 1 + entries_in children) usage sign more),
)

pub book_in_order : NumbersInOrder
book_in_order role text t is =
    let stored = is.is.stored in
    let tree : AreNumberedInOrder 0 (flat is.is.written) (flat t) =
    subst (λ (u : Forest Resolved). AreNumberedInOrder 0 (flat is.is.written) (flat u)) (sym stored.tree) (in_order stored.counts 0 None None is.is.written) in
    subst (λ (ds : List PlainEntry). AreNumberedInOrder 0 ds (flat t)) is.is.stands.entries tree
