-- A place that is found lies within the record.
use Rattle.std.proofs.Common.{ℕ, ◌+◌, ◌*◌, ◌≤◌, List, arith, Option, Some, None, Bool, true, false}
use Rattle.cob_copybook_tree.specs.Forests.{Forest, NoEntries, AnEntry}
use Rattle.cob_copybook_tree.specs.Nodes.{Resolved}
use Rattle.cob_copybook_tree.specs.Lengths.{greatest_number, element_length, own_length, sum_of, whole_length}
use Rattle.cob_layout_places.specs.declared.places.Found.{Found}
use Rattle.cob_layout_places.specs.Lengths.{times, area_by}
use Rattle.cob_layout_places.specs.Places.{place_of, begins, or_else, also, choose, is_table, skipped, EndsBy, EndInRecord, EntryEndsInRecord}
use Rattle.cob_layout_places.proofs.ForestLemmas.{element_le, within_always}
use Rattle.cob_layout_places.proofs.PlaceLemmas.{Left, Fits, first_of, rest_of, element_fits, beneath_fits}

either_fits : (m : ℕ) (o p : Option Found) → EndsBy m o → EndsBy m p → EndsBy m (or_else o p)
either_fits m None p h k = k
either_fits m (Some f) p h k = h

also_fits : (m : ℕ) (b : Bool) (o : Option Found) → EndsBy m o → EndsBy m (also b o)
also_fits m b None h = h
also_fits m b (Some f) h = h

choose_fits : (m : ℕ) (b : Bool) (f : Found) (o : Option Found) → f.offset + f.length ≤ m → EndsBy m o → EndsBy m (choose b f o)
choose_fits m false f o h k = k
choose_fits m true f o h k = h

inner_left : (c : Resolved → ℕ) (e : Resolved) (b : Forest Resolved) (start m : ℕ) (subscripts : List ℕ) → Fits c (record { top = e; beneath = b }) start m
    → let offset = start + skipped (is_table e.occurs) (greatest_number e) subscripts * element_length c e b in Left c b offset offset m
inner_left c e b start m subscripts f =
    let h = element_fits c e b start subscripts m f.possible.0 f.within.1 f.small in
    record { possible = f.possible.1; leaves = f.leaves.1; within = f.within.1; space = 0; room_left = omega (arith, h); areas = f.areas; greatest = beneath_fits e b _ m f.leaves.0 h }

own_fits : (c : Resolved → ℕ) (e : Resolved) (b : Forest Resolved) (start m : ℕ) (subscripts : List ℕ) → Fits c (record { top = e; beneath = b }) start m
    → start + skipped (is_table e.occurs) (greatest_number e) subscripts * element_length c e b + element_length c e b ≤ m
own_fits c e b start m subscripts f =
    let h = element_fits c e b start subscripts m f.possible.0 f.within.1 f.small in
    omega (arith, h, element_le c e b f.within.1)

find_fits : (c : Resolved → ℕ) (number : ℕ) (f : Forest Resolved) (at area m : ℕ) (subscripts : List ℕ) → Left c f at area m → EndsBy m (place_of c number f at area subscripts)
find_fits c number NoEntries at area m subscripts l = tt
find_fits c number (AnEntry e b rest) at area m subscripts l =
    let f = first_of c e b rest at area m l in
    either_fits m _ _
    (choose_fits m _ _ _ (own_fits c e b (begins e.redefines at area) m subscripts f)
    (also_fits m _ _ (find_fits c number b _ _ m _ (inner_left c e b (begins e.redefines at area) m subscripts f))))
    (find_fits c number rest _ _ m subscripts (rest_of c e b rest at area m l))

pub end_in_record : EndInRecord
end_in_record counts number tree start subscripts f =
    find_fits (times counts) number tree start start (start + sum_of greatest_number tree) subscripts
    (record { possible = f.possible; leaves = f.leaves; within = within_always counts tree; space = 0; room_left = omega arith; areas = f.areas; greatest = omega arith })

-- an entry takes no more room of its own than its elements, and these are no longer than an area of their length
own_le : (o : Option (List ℕ)) (w : ℕ) → own_length o w ≤ w
own_le None w = omega arith
own_le (Some name) w = omega arith

in_own_area : (o : Option (List ℕ)) (w : ℕ) → w ≤ area_by o w w
in_own_area None w = omega arith
in_own_area (Some name) w = omega arith

pub entry_ends : EntryEndsInRecord
entry_ends counts number e b start subscripts f =
    let whole = whole_length greatest_number e b in
    find_fits (times counts) number (AnEntry e b NoEntries) start start (start + whole) subscripts
    (record {
      possible = f.possible;
      leaves = f.leaves;
      within = within_always counts (AnEntry e b NoEntries);
      space = whole;
      room_left = omega arith;
      areas = (in_own_area e.redefines whole, f.areas, tt);
      greatest = omega (arith, own_le e.redefines whole);
    })
