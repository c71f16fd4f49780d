-- What stands next in a file: the record that came, the end, and what stops it.
use Rattle.std.proofs.Common.{◌≡◌, ◌<◌, ◌≤◌, ℕ, ◌+◌, ◌==◌, Bool, true, false, true≢false, List, [], ◌∷◌, ◌++◌, length, take, map, refl, sym, subst, ap, ◌∙◌, arith, inl, inr, None, Some, Option, Ok, Err, Greater}
use Rattle.std.specs.List.{AllByRecursion}
use Rattle.std.specs.Ordering.{is_gt}
use Rattle.std.proofs.lemmas.Bool.Decides.{nat_tests}
use Rattle.std.proofs.lemmas.List.{length-append, map-append}
use Rattle.cob_copybook_tree.specs.Forests.{Forest}
use Rattle.cob_copybook_tree.specs.Nodes.{Resolved}
use Rattle.cob_layout.specs.Standing.{Standing}
use Rattle.cob_layout.specs.Storage.{greatest_length}
use Rattle.cob_records.specs.declared.records.Form.{Form}
use Rattle.cob_records.specs.Device.{Told}
use Rattle.cob_records.specs.Frame.{IsRecord}
use Rattle.cob_convert_stream.specs.declared.fault.Cause.{Cause}
use Rattle.cob_convert_stream.specs.declared.fault.Reason.{Reason}
use Rattle.cob_report_show.specs.Elements.{NamedItem, Printed}
use Rattle.cob_report_show.specs.Records.{HoldsRecord}
use Rattle.cob_report_show.specs.Runs.{IsLegible, ReadsNext}
use Rattle.cob_report_show.proofs.ElementLemmas.{all_append}
use Rattle.cob_report_compare.specs.declared.files.CompareStop.{CompareStop}
use Rattle.cob_report_compare.specs.declared.files.FileSide.{FileSide}
use Rattle.cob_report_compare.specs.declared.files.StopReason.{StopReason}
use Rattle.cob_report_compare.specs.declared.files.StopReason.TheVariants.{Record, NoNumber, Order}
use Rattle.cob_report_compare.specs.declared.heads.FileRoom.{FileRoom}
use Rattle.cob_report_compare.specs.declared.heads.Head.{Head}
use Rattle.cob_report_compare.specs.declared.heads.Head.TheVariants as head
use Rattle.cob_report_compare.specs.declared.heads.Reached.{Reached}
use Rattle.cob_report_compare.specs.Files.{CameBefore, CameSoFar, FileSoFar, HasCome, HoldsFile, HoldsLast, HoldsNext, IsNotRead, IsReadNext, LeavesFile, ReadsNextHead, RefusesKey, StopsAtHead, StopsFile, TakesKey, is_reason_for}
use Rattle.cob_report_compare.specs.Keys.{AreKeyParts, KeyPart, key_order}
use Rattle.cob_report_compare.specs.Merged.{Ascend, IsKeyedRecord, IsNotBelow, KeyedRecord, Next, Unread, Ended, Waits, bodies, came}
use Rattle.cob_report_compare.proofs.CameLemmas.{came_end, came_here, came_more, came_stop}

-- ---- lists

pub last_of : {X : Type 0} (P : X → Type 0) (front : List X) (x : X) → AllByRecursion P (front ++ x ∷ []) → P x
last_of P [] x all = all.0
last_of P (y ∷ front) x all = last_of P front x all.1

pub ascend_more : (front : List KeyedRecord) (last x : KeyedRecord) → Ascend (front ++ last ∷ []) → IsNotBelow last x → Ascend ((front ++ last ∷ []) ++ x ∷ [])
ascend_more [] last x ascend below = (below, tt)
ascend_more (a ∷ []) last x ascend below = (ascend.0, (below, tt))
ascend_more (a ∷ b ∷ front) last x ascend below = (ascend.0, ascend_more (b ∷ front) last x ascend.1 below)

more_than_none : {X : Type 0} (front : List X) (x : X) (n : ℕ) → n ≡ length (front ++ x ∷ []) → (n == 0) ≡ false
more_than_none front x n is =
    let some : length (front ++ x ∷ []) ≡ length front + 1 = length-append front (x ∷ []) in
    grind (arith, nat_tests, is, some)

pub bodies_more : (told : List KeyedRecord) (x : KeyedRecord) → bodies (told ++ x ∷ []) ≡ bodies told ++ x.body ∷ []
bodies_more told x = map-append (λ (r : KeyedRecord). r.body) told (x ∷ [])

-- ---- what stands next

pub unread_next : (tree : Forest Resolved) (room : FileRoom) (h : Head) (next : Next) → HoldsNext tree room h next → h ≡ head.Unread → next ≡ Unread
unread_next tree room head.Unread Unread holds is = refl
unread_next tree room head.Unread Ended holds is = absurd holds
unread_next tree room head.Unread (Waits x) holds is = absurd holds
unread_next tree room head.Ended next holds is = absurd (cc)
unread_next tree room (head.Waits count) next holds is = absurd (cc)

pub next_is_read : (tree : Forest Resolved) (room : FileRoom) (h : Head) (next : Next) → HoldsNext tree room h next → (h ≡ head.Unread → ⊥) → next ≡ Unread → ⊥
next_is_read tree room head.Unread next holds read is = read refl
next_is_read tree room head.Ended Unread holds read is = holds
next_is_read tree room head.Ended Ended holds read is = absurd (cc)
next_is_read tree room head.Ended (Waits x) holds read is = holds
next_is_read tree room (head.Waits count) Unread holds read is = holds
next_is_read tree room (head.Waits count) Ended holds read is = holds
next_is_read tree room (head.Waits count) (Waits x) holds read is = absurd (cc)

last_moved : (records : List KeyedRecord) (room held : FileRoom) → HoldsLast records room → room.key.items ≡ held.key.items → HoldsLast records held
last_moved records room held (inl none) same = inl none
last_moved records room held (inr (front, last, is, key)) same = inr (front, last, is, key ∙ same)

-- a file that was read up to where the next record begins
record AtUnread (form : Form) (tree : Forest Resolved) (keys : List NamedItem) (told : List KeyedRecord) (next : Next) (reached : Reached) (room : FileRoom) (r0 r1 : Option (List ℕ)) : Type 0 where
  unread : next ≡ Unread
  so_far : FileSoFar form tree keys told Unread reached.opened r0 r1
  holds : HoldsFile tree told Unread reached room

at_unread : (form : Form) (tree : Forest Resolved) (keys : List NamedItem) (told : List KeyedRecord) (next : Next) (reached : Reached) (room : FileRoom) (r0 r1 : Option (List ℕ)) → reached.head ≡ head.Unread
    → FileSoFar form tree keys told next reached.opened r0 r1 → HoldsFile tree told next reached room → AtUnread form tree keys told next reached room r0 r1
at_unread form tree keys told next reached room r0 r1 is so_far holds =
    let unread = unread_next tree room reached.head next holds.head is in
    record {
      unread = unread;
      so_far = subst (λ (n : Next). FileSoFar form tree keys told n reached.opened r0 r1) unread so_far;
      holds = subst (λ (n : Next). HoldsFile tree told n reached room) unread holds;
    }

-- the file is at its end
pub head_ended : (form : Form) (tree : Forest Resolved) (keys : List NamedItem) (reached : Reached) (room held : FileRoom) (after : ℕ) (slot : List ℕ) (r1 r2 : Option (List ℕ)) → reached.head ≡ head.Unread
    → Told r1 r2 (ReadsNext form tree reached.opened slot (Ok None) after) → room.key.items ≡ held.key.items
    → ReadsNextHead form tree keys reached room r1 r2 held (record { opened = after; number = reached.number; head = head.Ended })
head_ended form tree keys reached room held after slot r1 r2 is read key = λ told next r0 so_far holds.
    let at = at_unread form tree keys told next reached room r0 r1 is so_far holds in (
      Ended,
      subst (λ (n : Next). IsReadNext n Ended) (sym at.unread) (λ (e : Ended ≡ Unread). absurd (cc)),
      record {
        come = came_end form tree (bodies told) reached.opened after slot r0 r1 r2 at.so_far.come read;
        keyed = at.so_far.keyed;
        ascend = at.so_far.ascend;
      },
      record { number = at.holds.number; head = tt; last = last_moved told room held at.holds.last key },
    )

-- a record came, with its key
one_more : (form : Form) (tree : Forest Resolved) (keys : List NamedItem) (told : List KeyedRecord) (x : KeyedRecord) (room : FileRoom) (number : ℕ) → number ≡ length told
    → AllByRecursion (IsKeyedRecord form tree keys) told → Ascend told → HoldsLast told room
    → ((number == 0) ≡ false → (old : List KeyPart) → AreKeyParts keys room.key.items old → is_gt (key_order old x.key) ≡ false) → Ascend (told ++ x ∷ [])
one_more form tree keys told x room number count keyed ascend (inl none) order = subst (λ (rs : List KeyedRecord). Ascend (rs ++ x ∷ [])) (sym none) tt
one_more form tree keys told x room number count keyed ascend (inr (front, last, is, key)) order =
    let keyed_last = last_of (IsKeyedRecord form tree keys) front last (subst (AllByRecursion (IsKeyedRecord form tree keys)) is keyed) in
    let some = more_than_none front last number (count ∙ ap (λ (rs : List KeyedRecord). length rs) is) in
    subst (λ (rs : List KeyedRecord). Ascend (rs ++ x ∷ [])) (sym is)
    (ascend_more front last x (subst Ascend is ascend) (order some last.key (subst (λ (bytes : List ℕ). AreKeyParts keys bytes last.key) key keyed_last.key)))

-- the record of so many bytes that came into a room
abbrev pub came_in : Forest Resolved → Standing → ℕ → List ℕ → Printed
came_in tree places count slot = record { tree = tree; places = places; bytes = take count slot }

pub head_waits : (form : Form) (tree : Forest Resolved) (keys : List NamedItem) (reached : Reached) (room held : FileRoom) (slot : List ℕ) (places : Standing) (count after : ℕ) (r1 r2 : Option (List ℕ))
    → reached.head ≡ head.Unread → held.bytes.items ≡ slot → held.places ≡ places → Told r1 r2 (ReadsNext form tree reached.opened slot (Ok (Some count)) after)
    → IsRecord form (greatest_length tree) (take count slot) → IsLegible form tree (take count slot) places → count ≤ length slot → HoldsRecord tree places count
    → TakesKey keys (record { tree = tree; places = places; bytes = take count slot }) (reached.number == 0) room.key.items held.key.items
    → ReadsNextHead form tree keys reached room r1 r2 held (record { opened = after; number = reached.number + 1; head = head.Waits count })
head_waits form tree keys reached room held slot places count after r1 r2 is same stands read whole legible most hold (bytes, (key, parts, order)) = λ told next r0 so_far holds.
    let at = at_unread form tree keys told next reached room r0 r1 is so_far holds in
    let x : KeyedRecord = record { body = take count slot; places = places; key_bytes = held.key.items; key = key } in
    let keyed : IsKeyedRecord form tree keys x = record { whole = whole; legible = legible; bytes = bytes; key = parts } in (
      Waits x,
      subst (λ (n : Next). IsReadNext n (Waits x)) (sym at.unread) (λ (e : Waits x ≡ Unread). absurd (cc)),
      record {
        come = subst (λ (bs : List (List ℕ)). CameSoFar form bs after r0 r2) (sym (bodies_more told x))
            (came_more form tree (bodies told) reached.opened after count slot r0 r1 r2 at.so_far.come read);
        keyed = all_append (IsKeyedRecord form tree keys) told (x ∷ []) at.so_far.keyed (keyed, tt);
        ascend = one_more form tree keys told x room reached.number at.holds.number at.so_far.keyed at.so_far.ascend at.holds.last order;
      },
      record {
        number = omega (arith, at.holds.number, length-append told (x ∷ []));
        head = record {
          most = subst (λ (bs : List ℕ). count ≤ length bs) (sym same) most;
          body = ap (λ (bs : List ℕ). take count bs) (sym same);
          places = sym stands;
          key_bytes = refl;
          holds = subst (λ (s : Standing). HoldsRecord tree s count) (sym stands) hold;
        };
        last = inr (told, x, refl, refl);
      },
    )

-- nothing is read where it was read
pub head_stays : (form : Form) (tree : Forest Resolved) (keys : List NamedItem) (reached : Reached) (room : FileRoom) (r1 : Option (List ℕ)) → (reached.head ≡ head.Unread → ⊥)
    → ReadsNextHead form tree keys reached room r1 r1 room reached
head_stays form tree keys reached room r1 read = λ told next r0 so_far holds.
    (next, stays next (next_is_read tree room reached.head next holds.head read), so_far, holds)
  where
    stays : (next : Next) → (next ≡ Unread → ⊥) → IsReadNext next next
    stays Unread read = absurd (read refl)
    stays Ended read = refl
    stays (Waits x) read = refl

-- ---- what stops it

pub head_unread : (form : Form) (tree : Forest Resolved) (keys : List NamedItem) (reached : Reached) (room : FileRoom) (side : FileSide) (after : ℕ) (slot : List ℕ) (why : Reason) (r1 r2 : Option (List ℕ))
    → reached.head ≡ head.Unread → Told r1 r2 (ReadsNext form tree reached.opened slot (Err why) after)
    → StopsAtHead form tree keys reached room r1 r2 (record { side = side; number = reached.number + 1; reason = Record why })
head_unread form tree keys reached room side after slot why r1 r2 is read = λ told next r0 so_far holds.
    let at = at_unread form tree keys told next reached room r0 r1 is so_far holds in
    (at.unread, omega (arith, at.holds.number), came_stop form tree (bodies told) reached.opened after why slot r0 r1 r2 at.so_far.come read)

pub head_refused : (form : Form) (tree : Forest Resolved) (keys : List NamedItem) (reached : Reached) (room : FileRoom) (side : FileSide) (slot : List ℕ) (places : Standing) (count after : ℕ) (why : StopReason)
    (r1 r2 : Option (List ℕ)) → reached.head ≡ head.Unread → Told r1 r2 (ReadsNext form tree reached.opened slot (Ok (Some count)) after)
    → IsRecord form (greatest_length tree) (take count slot) → IsLegible form tree (take count slot) places
    → RefusesKey keys (record { tree = tree; places = places; bytes = take count slot }) (reached.number == 0) room.key.items why
    → StopsAtHead form tree keys reached room r1 r2 (record { side = side; number = reached.number + 1; reason = why })
head_refused form tree keys reached room side slot places count after why r1 r2 is read whole legible refuses = λ told next r0 so_far holds.
    let at = at_unread form tree keys told next reached room r0 r1 is so_far holds in
    let come = came_here form (bodies told ++ take count slot ∷ []) after r0 r2 (came_more form tree (bodies told) reached.opened after count slot r0 r1 r2 at.so_far.come read) in
    (at.unread, omega (arith, at.holds.number), by why told r0 refuses at.holds.number at.so_far.keyed at.holds.last come)
  where
    body : List ℕ
    body = take count slot

    by : (why : StopReason) (told : List KeyedRecord) (r0 : Option (List ℕ)) → RefusesKey keys (record { tree = tree; places = places; bytes = body }) (reached.number == 0) room.key.items why
        → reached.number ≡ length told → AllByRecursion (IsKeyedRecord form tree keys) told → HoldsLast told room
        → Told r0 r2 (CameBefore form (bodies told ++ body ∷ []) IsNotRead) → StopsFile form tree keys told why r0 r2
    by (Record why) told r0 refuses count keyed last come = absurd refuses
    by (NoNumber offset) told r0 none count keyed last come = (body, places, whole, legible, none, come)
    by (Order offset) told r0 (first, refused) count keyed (inl none) come =
        let nothing : reached.number ≡ 0 = count ∙ ap (λ (rs : List KeyedRecord). length rs) none in
        absurd (true≢false (sym (ap (λ n. n == 0) nothing) ∙ first))
    by (Order offset) told r0 (first, (bytes, key, are, parts, above, begins)) count keyed (inr (front, last, same, held)) come =
        let keyed_last = last_of (IsKeyedRecord form tree keys) front last (subst (AllByRecursion (IsKeyedRecord form tree keys)) same keyed) in (
          front,
          last,
          record { body = body; places = places; key_bytes = bytes; key = key },
          same,
          record { whole = whole; legible = legible; bytes = are; key = parts },
          above last.key (subst (λ (bs : List ℕ). AreKeyParts keys bs last.key) held keyed_last.key),
          begins,
          come,
        )

-- ---- how a file is left

pub left_so : (form : Form) (told : List KeyedRecord) (next : Next) (opened : ℕ) (r0 r1 : Option (List ℕ)) → HasCome form told next opened r0 r1 → LeavesFile form told next r0 r1
left_so form told Unread opened r0 r1 come = came_here form (bodies told) opened r0 r1 come
left_so form told Ended opened r0 r1 come = come
left_so form told (Waits x) opened r0 r1 come = came_here form (bodies (told ++ x ∷ [])) opened r0 r1 come

-- what refuses a key is no cause of reading or writing
pub refused_for : (f : Cause → Bool) (keys : List NamedItem) (r : Printed) (first : Bool) (held : List ℕ) (why : StopReason) → RefusesKey keys r first held why → is_reason_for f why ≡ false
refused_for f keys r first held (Record why) refuses = absurd refuses
refused_for f keys r first held (NoNumber offset) refuses = refl
refused_for f keys r first held (Order offset) refuses = refl
