-- How the spots of a record's entries follow from its counts by sums.
use Rattle.std.specs.Prelude.{◌≡◌, ℕ, ◌+◌, ◌-◌, ◌*◌, ◌<◌, ◌≤◌, min, max, true, ◌==◌, ◌&&◌, List, [], ◌∷◌, ◌++◌, length, replicate, slice_index}
use Rattle.std.specs.List.{AllByRecursion}
use Rattle.cob_copybook_tree.specs.declared.node.ResolvedOccurs.{ResolvedOccurs}
use Rattle.cob_copybook_tree.specs.declared.node.ResolvedOccurs.TheVariants.{Once, Fixed, Varying}
use Rattle.cob_copybook_tree.specs.Forests.{Forest, NoEntries, AnEntry}
use Rattle.cob_copybook_tree.specs.Nodes.{Resolved}
use Rattle.cob_layout_places.specs.declared.spots.Spot.{Spot}
use Rattle.cob_limits.specs.Limits.{longest_record}
use Rattle.cob_layout_places.specs.Lengths.{times}
use Rattle.cob_layout_places.specs.Spots.{spots_of}
use Rattle.cob_layout.specs.Counting.{varying}
use Rattle.cob_layout.specs.Ways.{spot_at}
use Rattle.cob_layout.specs.declared.shifts.Growth.{Growth}
use Rattle.cob_layout.specs.declared.shifts.Shift.{Shift}

-- A table grows with the counts where it varies, or where tables beneath it grow, of which there are so many: 1 where it does, and else 0.
abbrev pub own_growth : ResolvedOccurs → ℕ → ℕ
own_growth Once many = 0
own_growth (Fixed n) many = min many 1
own_growth (Varying least most count) many = 1

-- how many of the entries grow so, with those beneath them
abbrev pub grow_in : Forest Resolved → ℕ
grow_in NoEntries = 0
grow_in (AnEntry e children more) = grow_in children + own_growth e.occurs (grow_in children) + grow_in more

-- The shift of an entry: how many tables that grow end before it begins and how many before its first element ends, and how often it occurs at most,
-- where it varies. It only moves where none grows beneath it and it doesn't vary.
abbrev pub shift_of : ℕ → ℕ → ℕ → Shift
shift_of before through most = record { before = before; through = through; most = most; only_moves = (through == before) && (most == 0) }

-- of each entry, in their order, where so many tables that grow end before them all
abbrev pub shifts_from : ℕ → Forest Resolved → List Shift
shifts_from n NoEntries = []
shifts_from n (AnEntry e children more) =
    shift_of n (n + grow_in children) (varying e.occurs)
    ∷ (shifts_from n children ++ shifts_from (n + grow_in children + own_growth e.occurs (grow_in children)) more)

-- what an element has where no table has one: the bytes of a table that varies
abbrev pub own_bytes : ResolvedOccurs → ℕ → ℕ
own_bytes Once size = 0
own_bytes (Fixed n) size = 0
own_bytes (Varying least most count) size = size

-- The growth of a table: how many that grow end before it begins, how often it occurs while those that vary have no element, how often at most where it
-- varies, and the bytes of its element then, where it varies.
abbrev pub growth_of : List Spot → ℕ → Resolved → Growth
growth_of least n e = record {
  number = e.number;
  before = n;
  times = (spot_at least e.number).times;
  most = varying e.occurs;
  bytes = own_bytes e.occurs (spot_at least e.number).length;
}

-- of each that grows, those beneath a table before it, where so many end before them all
abbrev pub growths_from : List Spot → ℕ → Forest Resolved → List Growth
growths_from least n NoEntries = []
growths_from least n (AnEntry e children more) =
    growths_from least n children
    ++ (replicate (own_growth e.occurs (grow_in children)) (growth_of least n e)
    ++ growths_from least (n + grow_in children + own_growth e.occurs (grow_in children)) more)

-- How much further what follows a table stands than where those that vary have no element, by the sums up to those of the tables beneath it: each of its
-- elements is as much longer as these are behind it further than before it, and by its own bytes.
abbrev pub next_sum : List ℕ → List ℕ → ℕ → Growth → ℕ
next_sum counts sums k g =
    slice_index sums g.before + max g.times (min (slice_index counts g.number) g.most) * (g.bytes + slice_index sums k - slice_index sums g.before)

-- these sums, the last of which is the one with number k, and those behind the next tables
abbrev pub sums_by : List ℕ → List Growth → List ℕ → ℕ → List ℕ
sums_by counts [] sums k = sums
sums_by counts (g ∷ gs) sums k = sums_by counts gs (sums ++ next_sum counts sums k g ∷ []) (k + 1)

-- those of a record: before all of its tables that grow, and behind each of them
abbrev pub sums_of : Forest Resolved → List ℕ → List ℕ
sums_of tree counts = sums_by counts (growths_from (spots_of (times []) tree 0 0) 0 tree) (0 ∷ []) 0

-- The spot of an entry with this count, from its spot where the tables that vary have no element: it begins behind the sum before it, and is longer by what
-- grows beneath it.
abbrev pub shifted_spot : List ℕ → ℕ → Shift → Spot → Spot
shifted_spot sums count s least = record {
  offset = least.offset + slice_index sums s.before;
  length = least.length + slice_index sums s.through - slice_index sums s.before;
  times = max least.times (min count s.most);
}

-- so it is of entries whose numbers go up from k
abbrev pub all_shifted : List ℕ → List ℕ → ℕ → List Shift → List Spot → List Spot
all_shifted sums counts k [] least = []
all_shifted sums counts k (s ∷ ss) [] = []
all_shifted sums counts k (s ∷ ss) (x ∷ xs) = shifted_spot sums (slice_index counts k) s x ∷ all_shifted sums counts (k + 1) ss xs

-- an entry's tables are among those that the sums are of, what grows beneath it makes it no shorter, and where it only moves, nothing does
pub record FitsSums (sums : List ℕ) (s : Shift) : Type 0 where
  pub there : (s.before < length sums) × (s.through < length sums)
  pub rises : slice_index sums s.before ≤ slice_index sums s.through
  pub plain : s.only_moves ≡ true → (s.through ≡ s.before) × (s.most ≡ 0)

-- these sums shift these spots: there is one for each entry, and each sum and each spot lies within the longest record
pub record CanShift (sums : List ℕ) (shifts : List Shift) (spots : List Spot) : Type 0 where
  pub as_many : length spots ≡ length shifts
  pub within : AllByRecursion (FitsSums sums) shifts
  pub small : AllByRecursion (λ (s : Spot). s.offset + s.length ≤ longest_record) spots
  pub low : (k : ℕ) → slice_index sums k ≤ longest_record

-- the growth of a table can be added to the sums before it, the last of which has number k: it takes no more than the longest record
pub record CanGrow (counts sums : List ℕ) (k : ℕ) (g : Growth) : Type 0 where
  pub order : g.before ≤ k
  pub rises : slice_index sums g.before ≤ slice_index sums k
  pub low : slice_index sums k ≤ longest_record
  pub own : g.bytes ≤ longest_record
  pub small : max g.times (min (slice_index counts g.number) g.most) * (g.bytes + slice_index sums k - slice_index sums g.before) ≤ longest_record

-- so it is of all of them
abbrev pub CanAllGrow : List ℕ → List ℕ → ℕ → List Growth → Type 0
CanAllGrow counts sums k [] = Unit {0}
CanAllGrow counts sums k (g ∷ gs) = CanGrow counts sums k g × CanAllGrow counts sums (k + 1) gs

-- growths became these by that of an entry, if it grows, where so many end before it begins and before its first element ends
abbrev pub AddsGrowth : List Spot → (before through : ℕ) → Resolved → (old new : List Growth) → Type 0
AddsGrowth least before through e old new = new ≡ old ++ replicate (own_growth e.occurs (through - before)) (growth_of least before e)
