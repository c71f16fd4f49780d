-- How many subscripts a legal reference has.
use Rattle.std.proofs.Common.{◌≡◌, ℕ, ◌+◌, ◌≤◌, List, [], ◌∷◌, length, ap, arith, inl, inr}
use Rattle.cob_copybook_tree.specs.declared.node.ResolvedOccurs.{ResolvedOccurs}
use Rattle.cob_copybook_tree.specs.declared.node.ResolvedOccurs.TheVariants.{Once, Fixed, Varying}
use Rattle.cob_copybook_tree.specs.Forests.{Forest, NoEntries, AnEntry}
use Rattle.cob_copybook_tree.specs.Nodes.{Resolved}
use Rattle.cob_layout_places.specs.Places.{is_table, later}
use Rattle.cob_layout.specs.Sound.{own_dimension, AreNested, RecordsAreSound}
use Rattle.cob_layout_places.specs.References.{IsSubscripted, Refers}
use Rattle.cob_layout.specs.Laws.{FitsRef}

own_length : (o : ResolvedOccurs) (n : ℕ) (subscripts : List ℕ) → IsSubscripted (is_table o) n subscripts → length subscripts ≡ own_dimension o + length (later (is_table o) subscripts)
own_length Once n subscripts h = omega arith
own_length (Fixed k) n [] h = absurd h
own_length (Fixed k) n (s ∷ subscripts) h = omega arith
own_length (Varying least k count) n [] h = absurd h
own_length (Varying least k count) n (s ∷ subscripts) h = omega arith

-- a reference has a subscript for each table on the way, and no more
few : (n r : ℕ) (subscripts : List ℕ) (f : Forest Resolved) → AreNested n f → Refers r subscripts f → n + length subscripts ≤ 7
few n r subscripts NoEntries h k = absurd k
few n r subscripts (AnEntry e children more) h (inl (own, inl (same, none))) = omega (arith, own_length e.occurs _ subscripts own, ap length none, h.0)
few n r subscripts (AnEntry e children more) h (inl (own, inr k)) =
    omega (arith, own_length e.occurs _ subscripts own, few (n + own_dimension e.occurs) r (later (is_table e.occurs) subscripts) children h.1 k)
few n r subscripts (AnEntry e children more) h (inr k) = few n r subscripts more h.2 k

pub fits_ref : RecordsAreSound → FitsRef
fits_ref sound t r subscripts is h = omega (arith, few 0 r subscripts t (sound t is).nested h)
