-- The pieces of a record stand side by side.
use Rattle.std.proofs.Common.{◌≡◌, ℕ, zero, suc, ◌+◌, ◌*◌, List, [], ◌∷◌, ◌++◌, map, refl, sym, subst, arith, Option, Some, None, Bool, true, false}
use Rattle.cob_copybook_tree.specs.declared.node.Kind.{Kind}
use Rattle.cob_copybook_tree.specs.declared.node.Kind.TheVariants.{Group, Item as ItemKind}
use Rattle.cob_copybook_tree.specs.Forests.{Forest, NoEntries, AnEntry}
use Rattle.cob_copybook_tree.specs.Nodes.{Resolved}
use Rattle.cob_copybook_tree.specs.Lengths.{own_length, length_by_kind, sum_of, element_length, whole_length}
use Rattle.cob_layout_places.specs.Places.{is_table}
use Rattle.cob_layout_places.specs.Cover.{Occurrence, several, under, each, unless, item_or}

-- an occurrence and where it stands
pub record Piece : Type 0 where
  pub who : Occurrence
  pub offset : ℕ
  pub length : ℕ

abbrev pub piece_under : ℕ → Piece → Piece
piece_under s p = record { who = under s p.who; offset = p.offset; length = p.length }

-- the occurrences of the items that stand in no redefinition, with their places
abbrev pub pieces : (Resolved → ℕ) → Forest Resolved → ℕ → List Piece
pieces c NoEntries at = []
pieces c (AnEntry i beneath rest) at =
    unless i.redefines (each piece_under (is_table i.occurs) (c i)
    (λ k. item_or i.kind (record { who = record { number = i.number; subscripts = [] }; offset = at + k * element_length c i beneath; length = element_length c i beneath }) (pieces c beneath (at + k * element_length c i beneath))))
    ++ pieces c rest (at + own_length i.redefines (whole_length c i beneath))

-- the pieces stand side by side from a to z
abbrev pub Tiles : ℕ → List Piece → ℕ → Type 0
Tiles a [] z = a ≡ z
Tiles a (p ∷ ps) z = (p.offset ≡ a) × Tiles (a + p.length) ps z

tiles_append : (a m z : ℕ) (xs ys : List Piece) → Tiles a xs m → Tiles m ys z → Tiles a (xs ++ ys) z
tiles_append a m z [] ys h k = subst (λ (n : ℕ). Tiles n ys z) (sym h) k
tiles_append a m z (x ∷ xs) ys h k = (h.0, tiles_append (a + x.length) m z xs ys h.1 k)

tiles_under : (s a z : ℕ) (xs : List Piece) → Tiles a xs z → Tiles a (map (piece_under s) xs) z
tiles_under s a z [] h = h
tiles_under s a z (x ∷ xs) h = (h.0, tiles_under s (a + x.length) z xs h.1)

one_more : (a n e : ℕ) → a + n * e + e ≡ a + suc n * e
one_more a n e = grind arith

none_yet : (a e : ℕ) → a ≡ a + 0 * e
none_yet a e = grind arith

tiles_several : (a e : ℕ) (f : ℕ → List Piece) → ((k : ℕ) → Tiles (a + k * e) (f k) (a + k * e + e)) → (n : ℕ) → Tiles a (several f n) (a + n * e)
tiles_several a e f h zero = none_yet a e
tiles_several a e f h (suc n) = subst (λ (z : ℕ). Tiles a (several f n ++ f n) z) (one_more a n e)
    (tiles_append a (a + n * e) (a + n * e + e) (several f n) (f n) (tiles_several a e f h n) (h n))

tiles_each : (b : Bool) (a e : ℕ) (f : ℕ → List Piece) → ((k : ℕ) → Tiles (a + k * e) (f k) (a + k * e + e)) → (n : ℕ) → Tiles a (each piece_under b n f) (a + n * e)
tiles_each false a e f h n = tiles_several a e f h n
tiles_each true a e f h n = tiles_several a e (λ k. map (piece_under (k + 1)) (f k)) (λ k. tiles_under (k + 1) (a + k * e) (a + k * e + e) (f k) (h k)) n

tiles_unless : (o : Option (List ℕ)) (a n : ℕ) (xs : List Piece) → Tiles a xs (a + n) → Tiles a (unless o xs) (a + own_length o n)
tiles_unless None a n xs h = h
tiles_unless (Some k) a n xs h = omega arith

tiles_item : (k : Kind) (a sum : ℕ) (who : Occurrence) (xs : List Piece) → Tiles a xs (a + sum)
    → Tiles a (item_or k (record { who = who; offset = a; length = length_by_kind k sum }) xs) (a + length_by_kind k sum)
tiles_item (ItemKind i) a sum who xs h = (refl, refl)
tiles_item Group a sum who xs h = h

pub tiles : (c : Resolved → ℕ) (f : Forest Resolved) (a : ℕ) → Tiles a (pieces c f a) (a + sum_of c f)
tiles c NoEntries a = omega arith
tiles c (AnEntry i beneath rest) a =
    let e = element_length c i beneath in
    let here : (k : ℕ) → Tiles (a + k * e) (item_or i.kind (record { who = record { number = i.number; subscripts = [] }; offset = a + k * e; length = e }) (pieces c beneath (a + k * e))) (a + k * e + e)
    = λ k. tiles_item i.kind (a + k * e) (sum_of c beneath) _ _ (tiles c beneath (a + k * e)) in
    let all = tiles_each (is_table i.occurs) a e _ here (c i) in
    let first = tiles_unless i.redefines a (whole_length c i beneath) _ all in
    let then = tiles c rest (a + own_length i.redefines (whole_length c i beneath)) in
    let size : a + own_length i.redefines (whole_length c i beneath) + sum_of c rest ≡ a + sum_of c (AnEntry i beneath rest) = omega arith in
    subst (λ (z : ℕ). Tiles a (pieces c (AnEntry i beneath rest) a) z) size
    (tiles_append a (a + own_length i.redefines (whole_length c i beneath)) _ _ _ first then)
