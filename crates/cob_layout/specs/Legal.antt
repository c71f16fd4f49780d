-- Which subscripts are legal, by the spots under the greatest counts.
use Rattle.std.specs.Prelude.{ℕ, ◌==◌, ◌&&◌, nat_le, not, Bool, true, false, List, [], ◌∷◌}
use Rattle.cob_layout_places.specs.declared.spots.Spot.{Spot}
use Rattle.cob_layout.specs.Ways.{spot_at}

-- a subscript is from 1 to so many
abbrev pub is_subscript : ℕ → ℕ → Bool
is_subscript most s = not (s == 0) && nat_le s most

-- there are as many subscripts as tables, and each is from 1 to the number of times that its table's spot has
abbrev pub are_legal : List ℕ → List Spot → List ℕ → Bool
are_legal [] spots [] = true
are_legal [] spots (s ∷ subscripts) = false
are_legal (t ∷ ts) spots [] = false
are_legal (t ∷ ts) spots (s ∷ subscripts) = is_subscript (spot_at spots t).times s && are_legal ts spots subscripts
