-- Where items stand in a record in which no table varies.
use Rattle.std.proofs.Common.{◌≡◌, ◌⊎◌, ℕ, ◌+◌, ◌≤◌, Bool, true, false, List, [], length, Option, Some, None, refl, sym, ap, subst, ◌∙◌, arith, inl, inr, Ok, Err, Result}
use Rattle.std.specs.Prelude.{option_map}
use Rattle.cob_copybook_tree.specs.declared.node.Kind.{Kind}
use Rattle.cob_copybook_tree.specs.declared.node.Kind.TheVariants.{Group, Item as ItemKind}
use Rattle.cob_copybook_tree.specs.declared.node.Item.{Item}
use Rattle.cob_copybook_tree.specs.Forests.{Forest}
use Rattle.cob_copybook_tree.specs.Nodes.{Resolved}
use Rattle.cob_copybook_tree.specs.Lengths.{greatest_number, item_size, sum_of}
use Rattle.cob_layout_places.specs.declared.places.Found.{Found}
use Rattle.cob_layout.specs.declared.fields.Place.{Place}
use Rattle.cob_layout.specs.declared.layout.PlaceFault.{PlaceFault}
use Rattle.cob_layout_places.specs.Lengths.{times}
use Rattle.cob_layout_places.specs.Places.{place_of}
use Rattle.cob_layout_places.specs.Counts.{kind_in, tables_of}
use Rattle.cob_layout.specs.Counting.{AreGreatest, AreThose, IsRead, NeededOf, greatest_counts}
use Rattle.cob_layout.specs.Laws.{EndInLength, OneOfNeeded}
use Rattle.cob_layout.specs.Placed.{placed}
use Rattle.cob_layout.specs.Sound.{IsSound}
use Rattle.cob_copybook.specs.Books.{IsRecordDescription}
use Rattle.cob_layout.specs.Storage.{greatest_length}
use Rattle.cob_layout_places.specs.declared.varying.Table.{Table}
use Rattle.cob_layout.proofs.GreatestLemmas.{are_greatest}
use Rattle.cob_layout.proofs.ReferenceLemmas.{found_there, refers_has}
use Rattle.cob_layout.proofs.StandingLemmas.{greatest_within}
use Rattle.cob_layout_places.proofs.CountLemmas.{found_size, pairs_in}
use Rattle.cob_move_data.specs.declared.operands.Operand.{Operand}
use Rattle.cob_move_data.specs.declared.operands.Side.{Side}
use Rattle.cob_move_data.specs.Moves.{IsOperand}
use Rattle.cob_move_apply.specs.Located.{Located, StandsUnder}
use Rattle.cob_back_moves.specs.Apart.{VaryNone}

-- an operand has this place in every storage, sending or receiving
pub record IsSteady (t : Forest Resolved) (o : Operand) (p : Place) : Type 0 where
  pub located : (side : Side) (receiving : Bool) (bytes : List ℕ) → Located side t receiving o bytes (Ok p)
  pub found : place_of greatest_number o.entry.node t 0 0 o.entry.subscripts.items ≡ Some record { offset = p.offset; length = p.length; within = true }
  pub within : p.offset + p.length ≤ greatest_length t
  pub size : (i : Item) → o.kind ≡ ItemKind i → p.length ≡ item_size i

none_needed : (t : Forest Resolved) (r : ℕ) (receiving : Bool) (bytes : List ℕ) → VaryNone t → NeededOf t r receiving bytes (Ok (greatest_counts t))
none_needed t r receiving bytes none = ([], subst (λ (xs : List Table). AreThose (IsRead t r receiving) xs []) (sym none) refl, refl)

true_found : (f : Found) → f.within ≡ true → f ≡ record { offset = f.offset; length = f.length; within = true }
true_found f e = λ j. record { offset = f.offset; length = f.length; within = e j }

placed_there : (f : Found) → f.within ≡ true → placed f ≡ Ok record { offset = f.offset; length = f.length }
placed_there f e = rw e refl

pub steady : EndInLength → (t : Forest Resolved) (o : Operand) → IsRecordDescription t → IsSound t → VaryNone t → IsOperand t o → (p : Place) × IsSteady t o p
steady law t o is sound none operand = at (place_of (times (greatest_counts t)) o.entry.node t 0 0 o.entry.subscripts.items) refl
  where
    at : (f : Option Found) → place_of (times (greatest_counts t)) o.entry.node t 0 0 o.entry.subscripts.items ≡ f → (p : Place) × IsSteady t o p
    at None e = absurd (found_there (times (greatest_counts t)) o.entry.node t 0 0 o.entry.subscripts.items (refers_has o.entry.node o.entry.subscripts.items t operand.refers) e)
    at (Some f) e =
        let there : f.within ≡ true = greatest_within t t o.entry.node o.entry.subscripts.items f sound refl operand.refers e in
        let most : AreGreatest t (greatest_counts t) = are_greatest t (greatest_counts t) sound.numbered refl in
        let p : Place = record { offset = f.offset; length = f.length } in
        let stands : StandsUnder t o (greatest_counts t) (Ok p) =
        ap (option_map placed) e ∙ ap (λ (x : Result Place PlaceFault). Some x) (placed_there f there) in (
          p,
          record {
            located = λ side receiving bytes. (greatest_counts t, none_needed t o.entry.node receiving bytes none, stands);
            found = sym (most.places o.entry.node o.entry.subscripts.items) ∙ e ∙ ap (λ (x : Found). Some x) (true_found f there);
            within = omega (arith, law t (greatest_counts t) o.entry.node o.entry.subscripts.items f is operand.refers e there, most.length);
            size = λ i item. found_size (kind_in o.entry.node t) (place_of (times (greatest_counts t)) o.entry.node t 0 0 o.entry.subscripts.items) i f
                (pairs_in (times (greatest_counts t)) o.entry.node t 0 0 o.entry.subscripts.items) (operand.is ∙ ap (λ (k : Kind). Some k) item) e;
          },
        )
