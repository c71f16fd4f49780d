-- What the places of a record's entries rest on.
use Rattle.std.specs.Prelude.{◌≡◌, ℕ, ◌-◌, ◌<◌, ◌==◌, ◌&&◌, nat_lt, true, false, List, length, map, slice_index_or}
use Rattle.cob_layout_places.specs.declared.places.Found.{Found}
use Rattle.cob_layout_places.specs.declared.spots.Spot.{Spot}
use Rattle.cob_layout.specs.declared.footings.Footing.{Footing}
use Rattle.cob_layout.specs.declared.shifts.Shift.{Shift}
use Rattle.cob_layout.specs.declared.ways.Way.{Way}
use Rattle.cob_layout.specs.Shifts.{shifted_spot}
use Rattle.cob_layout.specs.Ways.{end_of_table, held, held_at, spot_at}

-- the shift of an entry
abbrev pub shift_at : List Shift → ℕ → Shift
shift_at shifts r = slice_index_or shifts r (record { before = 0; through = 0; most = 0; only_moves = false })

-- What the place of an entry rests on: below which number a reference to it needs the counts of tables, whether it may be spared some where it receives,
-- since it is the last one and entries stand beneath it, and its spot where the tables that vary have no element, with its shift.
abbrev pub footing_of : List Way → List Shift → List Spot → ℕ → Footing
footing_of ways shifts least r = record {
  behind = end_of_table (map held ways) r;
  spares = ((held_at (map held ways) r).end == length ways) && nat_lt 1 (end_of_table (map held ways) r - r);
  least = spot_at least r;
  shift = shift_at shifts r;
}

-- these are those of all entries
pub record AreFootings (ways : List Way) (shifts : List Shift) (least : List Spot) (footings : List Footing) : Type 0 where
  pub as_many : length footings ≡ length ways
  pub each : (r : ℕ) (d : Footing) → r < length ways → slice_index_or footings r d ≡ footing_of ways shifts least r

-- the first element of an entry under counts whose sums these are
abbrev pub first_by : List ℕ → Footing → Found
first_by sums f =
    let own = shifted_spot sums 0 f.shift f.least in
    record { offset = own.offset; length = own.length; within = true }
