-- Operands of a record, one more.
use Rattle.std.proofs.Common.{◌≡◌, ◌++◌, List, [], ◌∷◌, map, ap, ◌∙◌}
use Rattle.std.proofs.lemmas.List.{map-append}
use Rattle.cob_copybook_tree.specs.Forests.{Forest}
use Rattle.cob_copybook_tree.specs.Nodes.{Resolved}
use Rattle.cob_layout_places.specs.declared.reference.Ref.{Ref}
use Rattle.cob_move_data.specs.Moves.{operand_in}

-- the operands of entries, with one more
pub pushed : (tree : Forest Resolved) (now new : List Ref) (r : Ref) → new ≡ now ++ r ∷ [] → map (operand_in tree) new ≡ map (operand_in tree) now ++ operand_in tree r ∷ []
pushed tree now new r added = ap (λ (xs : List Ref). map (operand_in tree) xs) added ∙ map-append (operand_in tree) now (r ∷ [])
