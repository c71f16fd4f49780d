-- Numbers of edited items.
use Rattle.std.proofs.Common.{◌≡◌, ℕ, Bool, List, Option, Some, None, sym, subst}
use Rattle.std.specs.Prelude.{IsSomeAnd, ℤ}
use Rattle.cob_decimal.specs.declared.number.Number.{Number}
use Rattle.cob_picture.specs.Counts.{scale}
use Rattle.cob_edit.specs.Pictured.{IsEdited, IsInRange}
use Rattle.cob_copybook_tree.specs.declared.node.Item.{Item}
use Rattle.cob_move_receive.specs.Sent.{Amount, amount}
use Rattle.cob_move_receive.specs.Numbers.{IsUnedited}

same_amount : (a b : Amount) → a.negative ≡ b.negative → a.digits ≡ b.digits → a.scale ≡ b.scale → a ≡ b
same_amount a b p q r = λ i. record { negative = p i; digits = q i; scale = r i }

one_of : (o : Option Number) (v : Amount) → IsSomeAnd o (λ n. (n.negative ≡ v.negative) × (n.digits ≡ v.digits) × (n.scale ≡ v.scale)) → IsSomeAnd o (λ n. amount n ≡ v)
one_of None v h = h
one_of (Some n) v h = same_amount (amount n) v h.0 h.1 h.2

pub unedited_only : (i : Item) (bytes : List ℕ) (o : Option Number)
    → ((n : Bool) (ds : List ℕ) → IsInRange i.picture n ds → IsEdited i.picture i.blank n ds (scale i.picture.positions) bytes
    → IsSomeAnd o (λ v. (v.negative ≡ n) × (v.digits ≡ ds) × (v.scale ≡ scale i.picture.positions)))
    → (v : Amount) → IsUnedited i bytes v → IsSomeAnd o (λ n. amount n ≡ v)
unedited_only i bytes o only v h =
    let text : IsEdited i.picture i.blank v.negative v.digits (scale i.picture.positions) bytes = subst (λ (s : ℤ). IsEdited i.picture i.blank v.negative v.digits s bytes) h.point h.text in
    let found = only v.negative v.digits h.range text in
    one_of o v (subst (λ (s : ℤ). IsSomeAnd o (λ n. (n.negative ≡ v.negative) × (n.digits ≡ v.digits) × (n.scale ≡ s))) (sym h.point) found)
