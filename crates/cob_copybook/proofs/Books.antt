-- Books: what the parts of a text's book are, and whose rule a refusal names.
use Rattle.std.proofs.Common.{◌≡◌, sym, subst, ap, ℕ, ◌+◌, ◌≤◌, inl, inr, List, ◌++◌, length, refl, arith}
use Rattle.std.proofs.lemmas.List.{length-append}
use Rattle.cob_copybook_entry.specs.Described.{PlainEntry}
use Rattle.cob_copybook_entry.specs.declared.fault.BookRule.{BookRule}
use Rattle.cob_copybook_entry.specs.declared.fault.BookRule.TheVariants as rule
use Rattle.cob_copybook_tree.specs.Forests.{Forest, NoEntries, AnEntry, flat, entries_in}
use Rattle.cob_copybook_tree.specs.Branches.{StandsFor}
use Rattle.cob_copybook_tree.specs.Nodes.{Resolved}
use Rattle.cob_copybook.specs.declared.role.Role.{Role}
use Rattle.cob_copybook.specs.Records.{IsStored, IsTreeRefusal, IsStorageRefusal}
use Rattle.cob_copybook.specs.Books.{HasEntries, IsBookOf, IsBookRefusal}

flat_length : (t : Forest PlainEntry) → length (flat t) ≡ entries_in t
flat_length NoEntries = refl
flat_length (AnEntry e children more) =
    let a = flat_length children in
    let b = flat_length more in
    let c : length (flat children ++ flat more) ≡ length (flat children) + length (flat more) = length-append (flat children) (flat more) in
    omega (arith, a, b, c)

-- a tree of few entries
pub few_entries : (ds : List PlainEntry) (t : Forest PlainEntry) → StandsFor ds t → length ds ≤ 2001 → entries_in t ≤ 65535
few_entries ds t stands few =
    let a = flat_length t in
    let b : length (flat t) ≡ length ds = ap (λ (es : List PlainEntry). length es) stands.entries in
    omega (arith, a, b, few)

-- a rule that the tree of a text's entries breaks is broken by the text
pub refused_tree : (role : Role) (r : BookRule) (line : ℕ) (text : List ℕ) (ds : List PlainEntry) → HasEntries role text ds → (r ≡ rule.Memory → line ≡ 0) → IsTreeRefusal r ds → IsBookRefusal role r line text
refused_tree role rule.Memory line text ds has none h = inl (none refl)
refused_tree role (rule.Source s) line text ds has none h = absurd h.2
refused_tree role r line text ds has none h = inr (ds, has, inl h)

pub refused_storage : (role : Role) (r : BookRule) (line : ℕ) (text : List ℕ) (ds : List PlainEntry) (t : Forest PlainEntry) → HasEntries role text ds → StandsFor ds t → (r ≡ rule.Memory → line ≡ 0) → IsStorageRefusal r t → IsBookRefusal role r line text
refused_storage role rule.Memory line text ds t has stands none h = inl (none refl)
refused_storage role (rule.Source s) line text ds t has stands none h = absurd h.2
refused_storage role r line text ds t has stands none h = inr (ds, has, inr (t, stands, h))

-- the entries of a text that is a book stand for the tree of the book
pub stands_too : (role : Role) (text : List ℕ) (t : Forest Resolved) (ds : List PlainEntry) (b : IsBookOf role text t) → ds ≡ b.entries → StandsFor ds b.is.written
stands_too role text t ds b same = subst (λ (es : List PlainEntry). StandsFor es b.is.written) (sym same) b.is.stands

-- and that tree has the book's record
pub stored_too : (role : Role) (text : List ℕ) (t : Forest Resolved) (u : Forest PlainEntry) (b : IsBookOf role text t) → u ≡ b.is.written → IsStored u t
stored_too role text t u b same = subst (λ (w : Forest PlainEntry). IsStored w t) (sym same) b.is.stored
