-- Where entries stand in a record.
use Rattle.std.specs.Prelude.{ℕ, ◌+◌, ◌-◌, ◌*◌, ◌≤◌, Bool, true, false, ◌==◌, ◌&&◌, nat_le, min, List, [], ◌∷◌, Option, Some, None, IfSome}
use Rattle.cob_copybook_tree.specs.declared.node.ResolvedOccurs.{ResolvedOccurs}
use Rattle.cob_copybook_tree.specs.declared.node.ResolvedOccurs.TheVariants.{Once, Fixed, Varying}
use Rattle.cob_copybook_tree.specs.Forests.{Forest, NoEntries, AnEntry}
use Rattle.cob_copybook_tree.specs.Nodes.{Resolved}
use Rattle.cob_copybook_tree.specs.Lengths.{element_length, whole_length, own_length, greatest_number, sum_of}
use Rattle.cob_layout_places.specs.declared.places.Found.{Found}
use Rattle.cob_layout_places.specs.Lengths.{times, EntryFits, FitsInRecord}

-- an entry with OCCURS is a table
abbrev pub is_table : ResolvedOccurs → Bool
is_table Once = false
is_table (Fixed n) = true
is_table (Varying least most count) = true

-- The elements before the one that is asked for, in a table of so many at most: one less than the first subscript. A subscript that is 0
-- counts as 1, and one past the greatest number as that number; no reference has such a one.
abbrev pub skipped : Bool → ℕ → List ℕ → ℕ
skipped false n subscripts = 0
skipped true n [] = 0
skipped true n (s ∷ subscripts) = min (s - 1) (n - 1)

-- the subscripts that are left for the entries beneath
abbrev pub later : Bool → List ℕ → List ℕ
later false subscripts = subscripts
later true [] = []
later true (s ∷ subscripts) = subscripts

-- the subscript isn't past the number of elements that there are
abbrev pub is_there : Bool → ℕ → List ℕ → Bool
is_there false n subscripts = true
is_there true n [] = true
is_there true n (s ∷ subscripts) = nat_le s n

-- an entry begins behind the one before it, and a redefinition where its area does
abbrev pub begins : Option (List ℕ) → ℕ → ℕ → ℕ
begins None at area = at
begins (Some name) at area = area

-- a place under a table whose element is there or isn't
abbrev pub also : Bool → Option Found → Option Found
also b None = None
also b (Some f) = Some record { offset = f.offset; length = f.length; within = b && f.within }

-- the first one that is found
abbrev pub or_else : {A : Type 0} → Option A → Option A → Option A
or_else None other = other
or_else (Some a) other = Some a

-- this one where the entry is the one that is looked for, else the other
abbrev pub choose : {A : Type 0} → Bool → A → Option A → Option A
choose true found other = Some found
choose false found other = other

-- Where the entry with this number stands, its tables with these subscripts, the outermost first: the entries stand from `at` on, and the
-- area before them began at `area`. Without subscripts that are left, the first element of a table is meant.
abbrev pub place_of : (Resolved → ℕ) → ℕ → Forest Resolved → ℕ → ℕ → List ℕ → Option Found
place_of c number NoEntries at area subscripts = None
place_of c number (AnEntry e children more) at area subscripts =
    let table = is_table e.occurs in
    let start = begins e.redefines at area in
    let size = element_length c e children in
    let offset = start + skipped table (greatest_number e) subscripts * size in
    let there = is_there table (c e) subscripts in
    or_else
    (choose (e.number == number) (record { offset = offset; length = size; within = there })
    (also there (place_of c number children offset offset (later table subscripts))))
    (place_of c number more (at + own_length e.redefines (whole_length c e children)) start subscripts)

-- a place that is found ends by then
abbrev pub EndsBy : ℕ → Option Found → Type 0
EndsBy m o = IfSome o (λ f. f.offset + f.length ≤ m)

-- what is found of entries that begin at `start` ends within their greatest length, whatever the counts and subscripts
abbrev pub EndInRecord : Type 0
EndInRecord = (counts : List ℕ) (number : ℕ) (tree : Forest Resolved) (start : ℕ) (subscripts : List ℕ) → FitsInRecord start tree
    → EndsBy (start + sum_of greatest_number tree) (place_of (times counts) number tree start start subscripts)

-- and what is found of one entry with those beneath it ends within its greatest length, whether or not it redefines
abbrev pub EntryEndsInRecord : Type 0
EntryEndsInRecord = (counts : List ℕ) (number : ℕ) (entry : Resolved) (children : Forest Resolved) (start : ℕ) (subscripts : List ℕ)
    → EntryFits start entry children
    → EndsBy (start + whole_length greatest_number entry children) (place_of (times counts) number (AnEntry entry children NoEntries) start start subscripts)
