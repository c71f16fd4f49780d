-- The pairs of two groups.
use Rattle.std.proofs.Common.{◌≡◌, ℕ, false, List, [], map, sym, ap, subst, ◌∙◌}
use Rattle.std.specs.Prelude.{◌||◌}
use Rattle.cob_copybook_tree.specs.Forests.{Forest}
use Rattle.cob_copybook_tree.specs.Nodes.{Resolved}
use Rattle.cob_move_statements.specs.declared.fault.MoveRule.{MoveRule}
use Rattle.cob_move_statements.specs.declared.fault.MoveRule.TheVariants as rule
use Rattle.cob_move_names.specs.Pairs.{pairs_among, AreOnce, Subordinate, Pair, corresponding_pairs, subordinates}
use Rattle.cob_move_names.specs.Pairing.{is_elementary_entry, those_beneath, IsPairing, IsPairingFault, IsTwice, pair_numbers}

same : (from to : Forest Resolved) (xs ys : List Subordinate) → xs ≡ subordinates [] (those_beneath from) → ys ≡ subordinates [] (those_beneath to) → pairs_among xs ys ≡ corresponding_pairs (those_beneath from) (those_beneath to)
same from to xs ys a b = ap (λ (t : List Subordinate). pairs_among t ys) a ∙ ap (λ (t : List Subordinate). pairs_among (subordinates [] (those_beneath from)) t) b

pub pairing : (from to : Forest Resolved) (xs ys : List Subordinate) (ps : List Pair) (numbers : List (ℕ × ℕ)) → xs ≡ subordinates [] (those_beneath from) → ys ≡ subordinates [] (those_beneath to)
    → ps ≡ pairs_among xs ys → AreOnce ps → numbers ≡ map pair_numbers ps → (is_elementary_entry from || is_elementary_entry to) ≡ false → IsPairing from to numbers
pairing from to xs ys ps numbers a b e once n g = record {
  groups = g;
  once = subst (λ (qs : List Pair). AreOnce qs) (e ∙ same from to xs ys a b) once;
  pairs = n ∙ ap (λ (qs : List Pair). map pair_numbers qs) (e ∙ same from to xs ys a b);
}

pub pairing_fault : (r : MoveRule) (from to : Forest Resolved) (xs ys : List Subordinate) → xs ≡ subordinates [] (those_beneath from) → ys ≡ subordinates [] (those_beneath to) → IsTwice r (pairs_among xs ys) → IsPairingFault r from to
pairing_fault rule.Twice from to xs ys a b h = λ o. h (subst (λ (qs : List Pair). AreOnce qs) (sym (same from to xs ys a b)) o)
pairing_fault rule.Memory from to xs ys a b h = tt
pairing_fault r from to xs ys a b h = absurd h
