-- What is told of two files next, and what is printed of it.
use Rattle.std.proofs.Common.{◌≡◌, ◌≤◌, ℕ, List, [], ◌∷◌, ◌++◌, length, take, refl, sym, subst, ap, ◌∙◌, arith, Option, Ok, Less, Equal, Greater, Ordering}
use Rattle.std.specs.List.{AllByRecursion}
use Rattle.std.proofs.lemmas.List.{length-take-le}
use Rattle.cob_copybook_tree.specs.Forests.{Forest}
use Rattle.cob_copybook_tree.specs.Nodes.{Resolved}
use Rattle.cob_layout.specs.Counting.{CountsOf}
use Rattle.cob_layout.specs.Standing.{Standing}
use Rattle.cob_records.specs.declared.records.Form.{Form}
use Rattle.cob_records.specs.Device.{Took}
use Rattle.cob_report_show.specs.Elements.{NamedItem, Printed}
use Rattle.cob_report_show.specs.Records.{HoldsRecord}
use Rattle.cob_report_compare.specs.declared.counted.PairCounts.{PairCounts}
use Rattle.cob_report_compare.specs.declared.files.FileSide.TheVariants.{Left, Right}
use Rattle.cob_report_compare.specs.declared.heads.FileRoom.{FileRoom}
use Rattle.cob_report_compare.specs.declared.heads.Head.{Head}
use Rattle.cob_report_compare.specs.declared.heads.Head.TheVariants as head
use Rattle.cob_report_compare.specs.declared.heads.Reached.{Reached}
use Rattle.cob_report_compare.specs.declared.records.Comparison.{Comparison}
use Rattle.cob_report_compare.specs.declared.turns.Turn.{Turn}
use Rattle.cob_report_compare.specs.declared.turns.Turn.TheVariants as turn
use Rattle.cob_report_compare.specs.Differences.{IsMeasured}
use Rattle.cob_report_compare.specs.Equal.{IsCompleteRecord}
use Rattle.cob_report_compare.specs.Files.{FileSoFar, HoldsHead, HoldsNext}
use Rattle.cob_report_compare.specs.Keys.{AreKeyParts, KeyPart, key_order}
use Rattle.cob_report_compare.specs.Lines.{AreComparedRecordLines, IfTold, IsAloneLine, IsHeading, number_text, numbers_text}
use Rattle.cob_report_compare.specs.Merged.{Alone, Entry, FilePair, IsKeyedRecord, KeyedRecord, Next, Pair, StandsBelow, Unread, Ended, Waits, came, printed_by, told_counted, with_comparison, with_entry}
use Rattle.cob_report_compare.specs.Merging.{IsEntryText, IsTold, IsTurn}
use Rattle.cob_report_compare.specs.Turns.{DecidesTurn, HasKey, IsWhole, TellsSingle, TellsTurn, head_record, turn_by}
use Rattle.cob_report_compare.proofs.HeadLemmas.{last_of}
use Rattle.cob_report_compare.proofs.KeyLemmas.{above_back}

-- the record that stands next has its key
pub has_key : (form : Form) (tree : Forest Resolved) (keys : List NamedItem) (told : List KeyedRecord) (next : Next) → AllByRecursion (IsKeyedRecord form tree keys) (came told next) → HasKey keys next
has_key form tree keys told Unread keyed = tt
has_key form tree keys told Ended keyed = tt
has_key form tree keys told (Waits x) keyed = (last_of (IsKeyedRecord form tree keys) told x keyed).key

-- and is complete
whole_here : (form : Form) (tree : Forest Resolved) (keys : List NamedItem) (room : FileRoom) (count : ℕ) (x : KeyedRecord) → HoldsHead tree room count x → IsKeyedRecord form tree keys x
    → IsWhole tree room (head.Waits count)
whole_here form tree keys room count x holds keyed =
    let long : length (take count room.bytes.items) ≡ count = length-take-le count room.bytes.items holds.most in (
      holds.most,
      record {
        counts = subst (λ (s : Standing). CountsOf tree (take count room.bytes.items) (Ok s.counts)) holds.places
            (subst (λ (bs : List ℕ). CountsOf tree bs (Ok x.places.counts)) holds.body keyed.legible.counts);
        holds = subst (HoldsRecord tree room.places) (sym long) holds.holds;
      },
    )

pub whole_head : (form : Form) (tree : Forest Resolved) (keys : List NamedItem) (room : FileRoom) (h : Head) (told : List KeyedRecord) (next : Next) (x : KeyedRecord) → HoldsNext tree room h next
    → AllByRecursion (IsKeyedRecord form tree keys) (came told next) → next ≡ Waits x → IsWhole tree room h
whole_head form tree keys room h told next x holds keyed is =
    by h (subst (HoldsNext tree room h) is holds) (last_of (IsKeyedRecord form tree keys) told x (subst (λ (n : Next). AllByRecursion (IsKeyedRecord form tree keys) (came told n)) is keyed))
  where
    by : (h : Head) → HoldsNext tree room h (Waits x) → IsKeyedRecord form tree keys x → IsWhole tree room h
    by head.Unread holds keyed = absurd holds
    by head.Ended holds keyed = absurd holds
    by (head.Waits count) holds keyed = whole_here form tree keys room count x holds keyed

-- what stands next in a room, by its parts
abbrev pub head_parts : Forest Resolved → FileRoom → Head → Printed
head_parts tree room h = record { tree = tree; places = room.places; bytes = (head_record tree room h).bytes }

pub whole_record : (tree : Forest Resolved) (room : FileRoom) (h : Head) → IsWhole tree room h → IsCompleteRecord (head_parts tree room h)
whole_record tree room head.Unread whole = absurd whole
whole_record tree room head.Ended whole = absurd whole
whole_record tree room (head.Waits count) whole = whole.1

-- ---- what is told next

both_wait : (keys : List NamedItem) (left_room right_room : FileRoom) (m n : ℕ) (tree : Forest Resolved) (l r : Next) → HoldsNext tree left_room (head.Waits m) l → HoldsNext tree right_room (head.Waits n) r
    → HasKey keys l → HasKey keys r
    → (x : KeyedRecord) × (y : KeyedRecord) × (l ≡ Waits x) × (r ≡ Waits y) × AreKeyParts keys left_room.key.items x.key × AreKeyParts keys right_room.key.items y.key
both_wait keys left_room right_room m n tree Unread r left right left_key right_key = absurd left
both_wait keys left_room right_room m n tree Ended r left right left_key right_key = absurd left
both_wait keys left_room right_room m n tree (Waits x) Unread left right left_key right_key = absurd right
both_wait keys left_room right_room m n tree (Waits x) Ended left right left_key right_key = absurd right
both_wait keys left_room right_room m n tree (Waits x) (Waits y) left right left_key right_key = (
  x,
  y,
  refl,
  refl,
  subst (λ (bs : List ℕ). AreKeyParts keys bs x.key) left.key_bytes left_key,
  subst (λ (bs : List ℕ). AreKeyParts keys bs y.key) right.key_bytes right_key,
)

-- the keys of both decide
pub keys_decide : (keys : List NamedItem) (left_room right_room : FileRoom) (m n : ℕ) (t : Turn)
    → ((one other : List KeyPart) → AreKeyParts keys left_room.key.items one → AreKeyParts keys right_room.key.items other → t ≡ turn_by (key_order one other))
    → DecidesTurn keys left_room (head.Waits m) right_room (head.Waits n) t
keys_decide keys left_room right_room m n t is = λ tree l r left right left_key right_key.
    let (x, y, left_is, right_is, one, other) = both_wait keys left_room right_room m n tree l r left right left_key right_key in
    subst (λ (s : Turn). IsTurn l r s) (sym (is x.key y.key one other)) (by l r x y left_is right_is (key_order x.key y.key) refl)
  where
    by : (l r : Next) (x y : KeyedRecord) → l ≡ Waits x → r ≡ Waits y → (o : Ordering) → key_order x.key y.key ≡ o → IsTurn l r (turn_by o)
    by l r x y left_is right_is Less e = (x, left_is, subst (StandsBelow x) (sym right_is) e)
    by l r x y left_is right_is Equal e = (x, y, left_is, right_is, e)
    by l r x y left_is right_is Greater e = (y, right_is, subst (StandsBelow y) (sym left_is) (above_back x.key y.key e))

-- where one file is at its end the next record of the other stands alone
pub left_decides : (keys : List NamedItem) (left_room right_room : FileRoom) (m : ℕ) → DecidesTurn keys left_room (head.Waits m) right_room head.Ended turn.Left
left_decides keys left_room right_room m = λ tree l r left right left_key right_key. by tree l r left right
  where
    by : (tree : Forest Resolved) (l r : Next) → HoldsNext tree left_room (head.Waits m) l → HoldsNext tree right_room head.Ended r → IsTurn l r turn.Left
    by tree Unread r left right = absurd left
    by tree Ended r left right = absurd left
    by tree (Waits x) Unread left right = absurd right
    by tree (Waits x) Ended left right = (x, refl, tt)
    by tree (Waits x) (Waits y) left right = absurd right

pub right_decides : (keys : List NamedItem) (left_room right_room : FileRoom) (n : ℕ) → DecidesTurn keys left_room head.Ended right_room (head.Waits n) turn.Right
right_decides keys left_room right_room n = λ tree l r left right left_key right_key. by tree l r left right
  where
    by : (tree : Forest Resolved) (l r : Next) → HoldsNext tree left_room head.Ended l → HoldsNext tree right_room (head.Waits n) r → IsTurn l r turn.Right
    by tree Unread r left right = absurd left
    by tree (Waits x) r left right = absurd left
    by tree Ended Unread left right = absurd right
    by tree Ended Ended left right = absurd right
    by tree Ended (Waits y) left right = (y, refl, tt)

pub none_decides : (keys : List NamedItem) (left_room right_room : FileRoom) → DecidesTurn keys left_room head.Ended right_room head.Ended turn.Done
none_decides keys left_room right_room = λ tree l r left right left_key right_key. by tree l r left right
  where
    by : (tree : Forest Resolved) (l r : Next) → HoldsNext tree left_room head.Ended l → HoldsNext tree right_room head.Ended r → IsTurn l r turn.Done
    by tree Unread r left right = absurd left
    by tree (Waits x) r left right = absurd left
    by tree Ended Unread left right = absurd right
    by tree Ended (Waits y) left right = absurd right
    by tree Ended Ended left right = (refl, refl)

-- ---- what is told of it

-- the record that stands next is that of the room
head_is : (tree : Forest Resolved) (room : FileRoom) (h : Head) (x : KeyedRecord) → HoldsNext tree room h (Waits x) → head_record tree room h ≡ printed_by tree x
head_is tree room head.Unread x holds = absurd holds
head_is tree room head.Ended x holds = absurd holds
head_is tree room (head.Waits count) x holds =
    ap (λ (s : Standing). record { tree = tree; places = s; bytes = take count room.bytes.items }) (sym holds.places)
    ∙ ap (λ (bs : List ℕ). record { tree = tree; places = x.places; bytes = bs }) (sym holds.body)

head_key : (tree : Forest Resolved) (room : FileRoom) (h : Head) (x : KeyedRecord) → HoldsNext tree room h (Waits x) → room.key.items ≡ x.key_bytes
head_key tree room head.Unread x holds = absurd holds
head_key tree room head.Ended x holds = absurd holds
head_key tree room (head.Waits count) x holds = sym holds.key_bytes

-- what is printed of a pair whose records and key these are
abbrev pub PairTold : FilePair → PairCounts → (m n : ℕ) → List ℕ → Printed → Printed → Comparison → Option (List ℕ) → Option (List ℕ) → Type 0
PairTold files counts m n key a b c w0 w1 =
    IsMeasured files.by_bytes files.items a b c
    × Took w0 w1 (IfTold files.most (told_counted counts) (AreComparedRecordLines (IsHeading (numbers_text m n) files.keys key) a.bytes b.bytes c))

parts_are : (tree : Forest Resolved) (room : FileRoom) (h : Head) → head_parts tree room h ≡ head_record tree room h
parts_are tree room head.Unread = refl
parts_are tree room head.Ended = refl
parts_are tree room (head.Waits count) = refl

pub measured_heads : (files : FilePair) (left_room right_room : FileRoom) (left right : Head) (c : Comparison)
    → IsMeasured files.by_bytes files.items (head_parts files.tree left_room left) (head_parts files.tree right_room right) c
    → IsMeasured files.by_bytes files.items (head_record files.tree left_room left) (head_record files.tree right_room right) c
measured_heads files left_room right_room left right c is =
    subst (λ (b : Printed). IsMeasured files.by_bytes files.items (head_record files.tree left_room left) b c) (parts_are files.tree right_room right)
    (subst (λ (a : Printed). IsMeasured files.by_bytes files.items a (head_parts files.tree right_room right) c) (parts_are files.tree left_room left) is)

pub pair_tells : (files : FilePair) (left_room right_room : FileRoom) (left right : Reached) (counts : PairCounts) (c : Comparison) (w0 w1 : Option (List ℕ))
    → PairTold files counts left.number right.number left_room.key.items (head_record files.tree left_room left.head) (head_record files.tree right_room right.head) c w0 w1
    → TellsTurn files turn.Both left_room left right_room right counts w0 w1 (with_comparison counts c)
pair_tells files left_room right_room left right counts c w0 w1 told = λ l r left_holds right_holds is. by l r left_holds right_holds is
  where
    by : (l r : Next) → HoldsNext files.tree left_room left.head l → HoldsNext files.tree right_room right.head r → IsTurn l r turn.Both
        → (e : Entry) × IsTold files l r turn.Both e × Took w0 w1 (IfTold files.most (told_counted counts) (IsEntryText files left.number right.number e)) × (with_comparison counts c ≡ with_entry counts e)
    by l r left_holds right_holds (x, y, left_is, right_is, alike) =
        let one = subst (λ (n : Next). HoldsNext files.tree left_room left.head n) left_is left_holds in
        let other = subst (λ (n : Next). HoldsNext files.tree right_room right.head n) right_is right_holds in
        let (measured, took) = subst (λ (key : List ℕ). PairTold files counts left.number right.number key (printed_by files.tree x) (printed_by files.tree y) c w0 w1) (head_key files.tree left_room left.head x one)
        (subst (λ (b : Printed). PairTold files counts left.number right.number left_room.key.items (printed_by files.tree x) b c w0 w1) (head_is files.tree right_room right.head y other)
        (subst (λ (a : Printed). PairTold files counts left.number right.number left_room.key.items a (head_record files.tree right_room right.head) c w0 w1) (head_is files.tree left_room left.head x one) told))
        in
        (Pair x y c, (x, y, c, left_is, right_is, alike, refl, measured), took, refl)

-- a record that stands alone
pub left_tells : (files : FilePair) (left_room right_room : FileRoom) (left right : Reached) (counts now : PairCounts) (w0 w1 : Option (List ℕ)) → TellsSingle files Left left_room left.number counts w0 w1 now
    → TellsTurn files turn.Left left_room left right_room right counts w0 w1 now
left_tells files left_room right_room left right counts now w0 w1 told = λ l r left_holds right_holds is. by l r left_holds is
  where
    by : (l r : Next) → HoldsNext files.tree left_room left.head l → IsTurn l r turn.Left
        → (e : Entry) × IsTold files l r turn.Left e × Took w0 w1 (IfTold files.most (told_counted counts) (IsEntryText files left.number right.number e)) × (now ≡ with_entry counts e)
    by l r left_holds (x, left_is, below) =
        let one = subst (λ (n : Next). HoldsNext files.tree left_room left.head n) left_is left_holds in (
          Alone Left x,
          (x, left_is, below, refl),
          subst (λ (key : List ℕ). Took w0 w1 (IfTold files.most (told_counted counts) (IsAloneLine Left (IsHeading (number_text Left left.number) files.keys key))))
              (head_key files.tree left_room left.head x one) told.0,
          told.1 x,
        )

pub right_tells : (files : FilePair) (left_room right_room : FileRoom) (left right : Reached) (counts now : PairCounts) (w0 w1 : Option (List ℕ)) → TellsSingle files Right right_room right.number counts w0 w1 now
    → TellsTurn files turn.Right left_room left right_room right counts w0 w1 now
right_tells files left_room right_room left right counts now w0 w1 told = λ l r left_holds right_holds is. by l r right_holds is
  where
    by : (l r : Next) → HoldsNext files.tree right_room right.head r → IsTurn l r turn.Right
        → (e : Entry) × IsTold files l r turn.Right e × Took w0 w1 (IfTold files.most (told_counted counts) (IsEntryText files left.number right.number e)) × (now ≡ with_entry counts e)
    by l r right_holds (x, right_is, below) =
        let one = subst (λ (n : Next). HoldsNext files.tree right_room right.head n) right_is right_holds in (
          Alone Right x,
          (x, right_is, below, refl),
          subst (λ (key : List ℕ). Took w0 w1 (IfTold files.most (told_counted counts) (IsAloneLine Right (IsHeading (number_text Right right.number) files.keys key))))
              (head_key files.tree right_room right.head x one) told.0,
          told.1 x,
        )
