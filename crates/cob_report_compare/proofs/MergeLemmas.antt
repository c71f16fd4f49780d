-- Entries of two files so far, one more, and the end.
use Rattle.std.proofs.Common.{◌≡◌, ◌<◌, ◌≤◌, ℕ, ◌+◌, Bool, true, false, ◌&&◌, not, List, [], ◌∷◌, ◌++◌, length, flat_map, refl, sym, subst, ap, ◌∙◌, append_assoc, append-nil, arith, inl, inr, Option, Ok, Err, Result, Equal}
use Rattle.std.specs.List.{AllByRecursion}
use Rattle.std.proofs.lemmas.List.{length-append}
use Rattle.cob_convert_stream.specs.declared.fault.Cause.{Cause}
use Rattle.cob_convert_stream.specs.Reasons.{is_write_cause}
use Rattle.cob_copybook_tree.specs.Forests.{Forest}
use Rattle.cob_copybook_tree.specs.Nodes.{Resolved}
use Rattle.cob_records.specs.declared.records.Form.{Form}
use Rattle.cob_records.specs.Device.{Took, counted}
use Rattle.cob_report_show.specs.Elements.{NamedItem}
use Rattle.cob_report_show.specs.Runs.{most_shown}
use Rattle.cob_report_show.proofs.ElementLemmas.{all_append}
use Rattle.cob_report_show.proofs.SentLemmas.{append_none, took_both}
use Rattle.cob_report_compare.specs.declared.counted.PairCounts.{PairCounts}
use Rattle.cob_report_compare.specs.declared.files.CompareStop.{CompareStop}
use Rattle.cob_report_compare.specs.declared.files.FileSide.{FileSide}
use Rattle.cob_report_compare.specs.declared.files.FileSide.TheVariants.{Left, Right}
use Rattle.cob_report_compare.specs.declared.files.StopReason.TheVariants.{Record}
use Rattle.cob_report_compare.specs.declared.heads.FileRoom.{FileRoom}
use Rattle.cob_report_compare.specs.declared.heads.Head.TheVariants as head
use Rattle.cob_report_compare.specs.declared.heads.Reached.{Reached}
use Rattle.cob_report_compare.specs.declared.records.Comparison.{Comparison}
use Rattle.cob_report_compare.specs.declared.records.Comparison.TheVariants.{Same, Equal as EqualByValues, Differ, Unlike}
use Rattle.cob_report_compare.specs.declared.turns.Turn.{Turn}
use Rattle.cob_report_compare.specs.declared.turns.Turn.TheVariants as turn
use Rattle.cob_report_compare.specs.Files.{FileSoFar, HoldsFile, IsReadNext, LeavesFile, ReadsNextHead, StopsAtHead, is_reason_for, is_stopped_for, is_stopped_on, limit_of_pairs, on_left}
use Rattle.cob_report_compare.specs.Lines.{IfTold}
use Rattle.cob_report_compare.specs.Merged.{Alone, AreFew, AreMerged, Entry, FilePair, IsEntry, KeyedRecord, Next, Pair, StandsBelow, Unread, Ended, Waits, all_counted, came, counted_with, counts_of, first_or, left_of, lefts, lefts_counted, none_counted, right_of, rights, rights_counted, told_counted, with_comparison, with_entry}
use Rattle.cob_report_compare.specs.Merging.{AreEntryLines, EndsMerging, IsEntryText, IsTold, IsTurn, Merges, StopsOn, number_on, turn_side}
use Rattle.cob_report_compare.specs.Turns.{DecidesTurn, IsWhole, TellsTurn, left_behind, right_behind, turn_number}
use Rattle.cob_report_compare.proofs.CameLemmas.{came_none}
use Rattle.cob_report_compare.proofs.HeadLemmas.{left_so, unread_next}
use Rattle.cob_report_compare.proofs.TurnLemmas.{has_key, whole_head}

-- ---- how many they are

flat_more : {X Y : Type 0} (f : X → List Y) (xs : List X) (x : X) → flat_map f (xs ++ x ∷ []) ≡ flat_map f xs ++ f x
flat_more f [] x = append-nil (f x)
flat_more {Y = Y} f (y ∷ xs) x = ap (λ (ys : List Y). f y ++ ys) (flat_more f xs x) ∙ sym (append_assoc (f y) (flat_map f xs) (f x))

entry_left : (c : PairCounts) (e : Entry) → lefts_counted (with_entry c e) ≡ lefts_counted c + length (left_of e)
entry_left c (Pair l r Same) = omega arith
entry_left c (Pair l r EqualByValues) = omega arith
entry_left c (Pair l r (Differ told)) = omega arith
entry_left c (Pair l r (Unlike told)) = omega arith
entry_left c (Alone Left l) = omega arith
entry_left c (Alone Right r) = omega arith

entry_right : (c : PairCounts) (e : Entry) → rights_counted (with_entry c e) ≡ rights_counted c + length (right_of e)
entry_right c (Pair l r Same) = omega arith
entry_right c (Pair l r EqualByValues) = omega arith
entry_right c (Pair l r (Differ told)) = omega arith
entry_right c (Pair l r (Unlike told)) = omega arith
entry_right c (Alone Left l) = omega arith
entry_right c (Alone Right r) = omega arith

entry_one : (c : PairCounts) (e : Entry) → all_counted (with_entry c e) ≡ all_counted c + 1
entry_one c (Pair l r Same) = omega arith
entry_one c (Pair l r EqualByValues) = omega arith
entry_one c (Pair l r (Differ told)) = omega arith
entry_one c (Pair l r (Unlike told)) = omega arith
entry_one c (Alone Left l) = omega arith
entry_one c (Alone Right r) = omega arith

lefts_with : (c : PairCounts) (es : List Entry) → lefts_counted (counted_with c es) ≡ lefts_counted c + length (lefts es)
lefts_with c [] = omega arith
lefts_with c (e ∷ es) = omega (arith, lefts_with (with_entry c e) es, entry_left c e, length-append (left_of e) (lefts es))

rights_with : (c : PairCounts) (es : List Entry) → rights_counted (counted_with c es) ≡ rights_counted c + length (rights es)
rights_with c [] = omega arith
rights_with c (e ∷ es) = omega (arith, rights_with (with_entry c e) es, entry_right c e, length-append (right_of e) (rights es))

all_with : (c : PairCounts) (es : List Entry) → all_counted (counted_with c es) ≡ all_counted c + length es
all_with c [] = omega arith
all_with c (e ∷ es) = omega (arith, all_with (with_entry c e) es, entry_one c e)

pub lefts_are : (es : List Entry) → lefts_counted (counts_of es) ≡ length (lefts es)
lefts_are es = omega (arith, lefts_with none_counted es)

pub rights_are : (es : List Entry) → rights_counted (counts_of es) ≡ length (rights es)
rights_are es = omega (arith, rights_with none_counted es)

counted_more : (c : PairCounts) (es : List Entry) (e : Entry) → counted_with c (es ++ e ∷ []) ≡ with_entry (counted_with c es) e
counted_more c [] e = refl
counted_more c (f ∷ es) e = counted_more (with_entry c f) es e

-- ---- how they are merged

first_more : (xs ys : List KeyedRecord) (next : Next) → first_or (xs ++ ys) next ≡ first_or xs (first_or ys next)
first_more [] ys next = refl
first_more (x ∷ xs) ys next = refl

merged_more : (es : List Entry) (e : Entry) (left right : Next) → AreMerged es (first_or (left_of e) left) (first_or (right_of e) right) → AreMerged (e ∷ []) left right
    → AreMerged (es ++ e ∷ []) left right
merged_more [] e left right merged one = one
merged_more (Pair l r c ∷ es) e left right merged one = (merged.0, merged_more es e left right merged.1 one)
merged_more (Alone Left l ∷ es) e left right merged one = (
  subst (StandsBelow l) (sym (ap (λ (xs : List KeyedRecord). first_or xs right) (flat_more right_of es e) ∙ first_more (rights es) (right_of e) right)) merged.0,
  merged_more es e left right merged.1 one,
)
merged_more (Alone Right r ∷ es) e left right merged one = (
  subst (StandsBelow r) (sym (ap (λ (xs : List KeyedRecord). first_or xs left) (flat_more left_of es e) ∙ first_more (lefts es) (left_of e) left)) merged.0,
  merged_more es e left right merged.1 one,
)

below_read : (x : KeyedRecord) (xs : List KeyedRecord) (next now : Next) → IsReadNext next now → StandsBelow x (first_or xs next) → StandsBelow x (first_or xs now)
below_read x [] Unread now reads below = absurd below
below_read x [] Ended now reads below = subst (StandsBelow x) (sym reads) below
below_read x [] (Waits y) now reads below = subst (StandsBelow x) (sym reads) below
below_read x (y ∷ ys) next now reads below = below

left_read : (es : List Entry) (left now right : Next) → IsReadNext left now → AreMerged es left right → AreMerged es now right
left_read [] left now right reads merged = tt
left_read (Pair l r c ∷ es) left now right reads merged = (merged.0, left_read es left now right reads merged.1)
left_read (Alone Left l ∷ es) left now right reads merged = (merged.0, left_read es left now right reads merged.1)
left_read (Alone Right r ∷ es) left now right reads merged = (below_read r (lefts es) left now reads merged.0, left_read es left now right reads merged.1)

right_read : (es : List Entry) (left right now : Next) → IsReadNext right now → AreMerged es left right → AreMerged es left now
right_read [] left right now reads merged = tt
right_read (Pair l r c ∷ es) left right now reads merged = (merged.0, right_read es left right now reads merged.1)
right_read (Alone Left l ∷ es) left right now reads merged = (below_read l (rights es) right now reads merged.0, right_read es left right now reads merged.1)
right_read (Alone Right r ∷ es) left right now reads merged = (merged.0, right_read es left right now reads merged.1)

-- ---- what is printed of them

lines_more : (files : FilePair) (c : PairCounts) (es : List Entry) (e : Entry) (text t : List ℕ) → AreEntryLines files c es text
    → IfTold files.most (told_counted (counted_with c es)) (IsEntryText files (lefts_counted (counted_with c es) + 1) (rights_counted (counted_with c es) + 1) e) t
    → AreEntryLines files c (es ++ e ∷ []) (text ++ t)
lines_more files c [] e text t none one = (t, [], one, refl, ap (λ (s : List ℕ). s ++ t) none ∙ sym (append-nil t))
lines_more files c (f ∷ es) e text t (front, rest, here, lines, is) one =
    (front, rest ++ t, here, lines_more files (with_entry c f) es e rest t lines one, ap (λ (s : List ℕ). s ++ t) is ∙ append_assoc front rest t)

-- ---- the entries so far

pub record MergedAt (files : FilePair) (es : List Entry) (left right : Next) (n : ℕ) (counts : PairCounts) (left_at right_at : Reached) (left_room right_room : FileRoom) (l0 l r0 r w0 w : Option (List ℕ)) : Type 0 where
  pub count : length es ≡ n
  pub are : counts ≡ counts_of es
  pub each : AllByRecursion (IsEntry files) es
  pub merged : AreMerged es left right
  pub left_file : FileSoFar files.left_form files.tree files.keys (lefts es) left left_at.opened l0 l
  pub right_file : FileSoFar files.right_form files.tree files.keys (rights es) right right_at.opened r0 r
  pub left_holds : HoldsFile files.tree (lefts es) left left_at left_room
  pub right_holds : HoldsFile files.tree (rights es) right right_at right_room
  pub printed : Took w0 w (AreEntryLines files none_counted es)

pub record MergedSoFar (files : FilePair) (n : ℕ) (counts : PairCounts) (left_at right_at : Reached) (left_room right_room : FileRoom) (l0 l r0 r w0 w : Option (List ℕ)) : Type 0 where
  pub entries : List Entry
  pub left : Next
  pub right : Next
  pub here : MergedAt files entries left right n counts left_at right_at left_room right_room l0 l r0 r w0 w

pub none_merged : (files : FilePair) (left_room right_room : FileRoom) (l r w : Option (List ℕ))
    → MergedSoFar files 0 none_counted (record { opened = 0; number = 0; head = head.Unread }) (record { opened = 0; number = 0; head = head.Unread }) left_room right_room l l r r w w
none_merged files left_room right_room l r w = record {
  entries = [];
  left = Unread;
  right = Unread;
  here = record {
    count = refl;
    are = refl;
    each = tt;
    merged = tt;
    left_file = record { come = came_none files.left_form l; keyed = tt; ascend = tt };
    right_file = record { come = came_none files.right_form r; keyed = tt; ascend = tt };
    left_holds = record { number = refl; head = tt; last = inl refl };
    right_holds = record { number = refl; head = tt; last = inl refl };
    printed = ([], refl, append_none w);
  };
}

-- ---- the next record of a file

pub left_filled : (files : FilePair) (n : ℕ) (counts : PairCounts) (left_at right_at now : Reached) (left_room held right_room : FileRoom) (l0 l1 l2 r0 r w0 w : Option (List ℕ))
    → MergedSoFar files n counts left_at right_at left_room right_room l0 l1 r0 r w0 w → ReadsNextHead files.left_form files.tree files.keys left_at left_room l1 l2 held now
    → MergedSoFar files n counts now right_at held right_room l0 l2 r0 r w0 w
left_filled files n counts left_at right_at now left_room held right_room l0 l1 l2 r0 r w0 w so_far reads =
    let here = so_far.here in
    let (behind, is, file, holds) = reads (lefts so_far.entries) so_far.left l0 here.left_file here.left_holds in
    record {
      entries = so_far.entries;
      left = behind;
      right = so_far.right;
      here = record {
        count = here.count;
        are = here.are;
        each = here.each;
        merged = left_read so_far.entries so_far.left behind so_far.right is here.merged;
        left_file = file;
        right_file = here.right_file;
        left_holds = holds;
        right_holds = here.right_holds;
        printed = here.printed;
      };
    }

pub right_filled : (files : FilePair) (n : ℕ) (counts : PairCounts) (left_at right_at now : Reached) (left_room right_room held : FileRoom) (l0 l r0 r1 r2 w0 w : Option (List ℕ))
    → MergedSoFar files n counts left_at right_at left_room right_room l0 l r0 r1 w0 w → ReadsNextHead files.right_form files.tree files.keys right_at right_room r1 r2 held now
    → MergedSoFar files n counts left_at now left_room held l0 l r0 r2 w0 w
right_filled files n counts left_at right_at now left_room right_room held l0 l r0 r1 r2 w0 w so_far reads =
    let here = so_far.here in
    let (behind, is, file, holds) = reads (rights so_far.entries) so_far.right r0 here.right_file here.right_holds in
    record {
      entries = so_far.entries;
      left = so_far.left;
      right = behind;
      here = record {
        count = here.count;
        are = here.are;
        each = here.each;
        merged = right_read so_far.entries so_far.left so_far.right behind is here.merged;
        left_file = here.left_file;
        right_file = file;
        left_holds = here.left_holds;
        right_holds = holds;
        printed = here.printed;
      };
    }

pub both_filled : (files : FilePair) (n : ℕ) (counts : PairCounts) (left_at right_at left_now right_now : Reached) (left_room left_held right_room right_held : FileRoom) (l0 l1 l2 r0 r1 r2 w0 w : Option (List ℕ))
    → MergedSoFar files n counts left_at right_at left_room right_room l0 l1 r0 r1 w0 w → ReadsNextHead files.left_form files.tree files.keys left_at left_room l1 l2 left_held left_now
    → ReadsNextHead files.right_form files.tree files.keys right_at right_room r1 r2 right_held right_now → MergedSoFar files n counts left_now right_now left_held right_held l0 l2 r0 r2 w0 w
both_filled files n counts left_at right_at left_now right_now left_room left_held right_room right_held l0 l1 l2 r0 r1 r2 w0 w so_far left right =
    right_filled files n counts left_now right_at right_now left_held right_room right_held l0 l2 r0 r1 r2 w0 w
    (left_filled files n counts left_at right_at left_now left_room left_held right_room l0 l1 l2 r0 r1 w0 w so_far left) right

-- ---- what is told next

-- a record that stands next was told
told_file : (form : Form) (tree : Forest Resolved) (keys : List NamedItem) (told : List KeyedRecord) (x : KeyedRecord) (opened : ℕ) (r0 r1 : Option (List ℕ))
    → FileSoFar form tree keys told (Waits x) opened r0 r1 → FileSoFar form tree keys (told ++ x ∷ []) Unread opened r0 r1
told_file form tree keys told x opened r0 r1 so_far = record { come = so_far.come; keyed = so_far.keyed; ascend = so_far.ascend }

told_holds : (tree : Forest Resolved) (told : List KeyedRecord) (x : KeyedRecord) (at : Reached) (room : FileRoom) → HoldsFile tree told (Waits x) at room
    → HoldsFile tree (told ++ x ∷ []) Unread (record at { head = head.Unread }) room
told_holds tree told x at room holds = record { number = holds.number; head = tt; last = holds.last }

-- one more line, with the numbers that it has
took_more : (files : FilePair) (es : List Entry) (counts : PairCounts) (e : Entry) (m n : ℕ) (w0 w1 w2 : Option (List ℕ)) → counts ≡ counts_of es → Took w0 w1 (AreEntryLines files none_counted es)
    → ((text : List ℕ) → IsEntryText files m n e text → IsEntryText files (lefts_counted (counts_of es) + 1) (rights_counted (counts_of es) + 1) e text)
    → Took w1 w2 (IfTold files.most (told_counted counts) (IsEntryText files m n e)) → Took w0 w2 (AreEntryLines files none_counted (es ++ e ∷ []))
took_more files es counts e m n w0 w1 w2 are printed moved took =
    took_both w0 w1 w2 (AreEntryLines files none_counted es) (IfTold files.most (told_counted counts) (IsEntryText files m n e)) (AreEntryLines files none_counted (es ++ e ∷ [])) printed took
    (λ front last lines one. lines_more files none_counted es e front last lines (by last (subst (λ (c : PairCounts). IfTold files.most (told_counted c) (IsEntryText files m n e) last) are one)))
  where
    by : (text : List ℕ) → IfTold files.most (told_counted (counts_of es)) (IsEntryText files m n e) text
        → IfTold files.most (told_counted (counts_of es)) (IsEntryText files (lefts_counted (counts_of es) + 1) (rights_counted (counts_of es) + 1) e) text
    by text (inl (low, is)) = inl (low, moved text is)
    by text (inr none) = inr none

waiting_number : (tree : Forest Resolved) (told : List KeyedRecord) (x : KeyedRecord) (at : Reached) (room : FileRoom) (k : ℕ) → HoldsFile tree told (Waits x) at room → k ≡ length told → at.number ≡ k + 1
waiting_number tree told x at room k holds is = omega (arith, holds.number, length-append told (x ∷ []), is)

both_told : (files : FilePair) (es : List Entry) (l r : KeyedRecord) (c : Comparison) (n : ℕ) (counts : PairCounts) (left_at right_at : Reached) (left_room right_room : FileRoom) (l0 l1 r0 r1 w0 w1 w2 : Option (List ℕ))
    → MergedAt files es (Waits l) (Waits r) n counts left_at right_at left_room right_room l0 l1 r0 r1 w0 w1 → AreMerged (Pair l r c ∷ []) Unread Unread → IsEntry files (Pair l r c)
    → Took w1 w2 (IfTold files.most (told_counted counts) (IsEntryText files left_at.number right_at.number (Pair l r c)))
    → MergedSoFar files (n + 1) (with_entry counts (Pair l r c)) (record left_at { head = head.Unread }) (record right_at { head = head.Unread }) left_room right_room l0 l1 r0 r1 w0 w2
both_told files es l r c n counts left_at right_at left_room right_room l0 l1 r0 r1 w0 w1 w2 here alike is took =
    let left_more = sym (flat_more left_of es (Pair l r c)) in
    let right_more = sym (flat_more right_of es (Pair l r c)) in
    let one = waiting_number files.tree (lefts es) l left_at left_room (lefts_counted (counts_of es)) here.left_holds (lefts_are es) in
    let other = waiting_number files.tree (rights es) r right_at right_room (rights_counted (counts_of es)) here.right_holds (rights_are es) in
    record {
      entries = es ++ Pair l r c ∷ [];
      left = Unread;
      right = Unread;
      here = record {
        count = omega (arith, here.count, length-append es (Pair l r c ∷ []));
        are = ap (λ (k : PairCounts). with_entry k (Pair l r c)) here.are ∙ sym (counted_more none_counted es (Pair l r c));
        each = all_append (IsEntry files) es (Pair l r c ∷ []) here.each (is, tt);
        merged = merged_more es (Pair l r c) Unread Unread here.merged alike;
        left_file = subst (λ (told : List KeyedRecord). FileSoFar files.left_form files.tree files.keys told Unread left_at.opened l0 l1) left_more
            (told_file files.left_form files.tree files.keys (lefts es) l left_at.opened l0 l1 here.left_file);
        right_file = subst (λ (told : List KeyedRecord). FileSoFar files.right_form files.tree files.keys told Unread right_at.opened r0 r1) right_more
            (told_file files.right_form files.tree files.keys (rights es) r right_at.opened r0 r1 here.right_file);
        left_holds = subst (λ (told : List KeyedRecord). HoldsFile files.tree told Unread (record left_at { head = head.Unread }) left_room) left_more (told_holds files.tree (lefts es) l left_at left_room here.left_holds);
        right_holds = subst (λ (told : List KeyedRecord). HoldsFile files.tree told Unread (record right_at { head = head.Unread }) right_room) right_more (told_holds files.tree (rights es) r right_at right_room here.right_holds);
        printed = took_more files es counts (Pair l r c) left_at.number right_at.number w0 w1 w2 here.are here.printed
            (λ text so. subst (λ (k : ℕ). IsEntryText files (lefts_counted (counts_of es) + 1) k (Pair l r c) text) other
            (subst (λ (k : ℕ). IsEntryText files k right_at.number (Pair l r c) text) one so)) took;
      };
    }

left_told : (files : FilePair) (es : List Entry) (l : KeyedRecord) (right : Next) (n : ℕ) (counts : PairCounts) (left_at right_at : Reached) (left_room right_room : FileRoom) (l0 l1 r0 r1 w0 w1 w2 : Option (List ℕ))
    → MergedAt files es (Waits l) right n counts left_at right_at left_room right_room l0 l1 r0 r1 w0 w1 → StandsBelow l right
    → Took w1 w2 (IfTold files.most (told_counted counts) (IsEntryText files left_at.number right_at.number (Alone Left l)))
    → MergedSoFar files (n + 1) (with_entry counts (Alone Left l)) (record left_at { head = head.Unread }) right_at left_room right_room l0 l1 r0 r1 w0 w2
left_told files es l right n counts left_at right_at left_room right_room l0 l1 r0 r1 w0 w1 w2 here below took =
    let e : Entry = Alone Left l in
    let left_more = sym (flat_more left_of es e) in
    let right_more : rights es ≡ rights (es ++ e ∷ []) = sym (flat_more right_of es e ∙ append-nil (rights es)) in
    let one = waiting_number files.tree (lefts es) l left_at left_room (lefts_counted (counts_of es)) here.left_holds (lefts_are es) in
    record {
      entries = es ++ e ∷ [];
      left = Unread;
      right = right;
      here = record {
        count = omega (arith, here.count, length-append es (e ∷ []));
        are = ap (λ (k : PairCounts). with_entry k e) here.are ∙ sym (counted_more none_counted es e);
        each = all_append (IsEntry files) es (e ∷ []) here.each (tt, tt);
        merged = merged_more es e Unread right here.merged (below, tt);
        left_file = subst (λ (told : List KeyedRecord). FileSoFar files.left_form files.tree files.keys told Unread left_at.opened l0 l1) left_more
            (told_file files.left_form files.tree files.keys (lefts es) l left_at.opened l0 l1 here.left_file);
        right_file = subst (λ (told : List KeyedRecord). FileSoFar files.right_form files.tree files.keys told right right_at.opened r0 r1) right_more here.right_file;
        left_holds = subst (λ (told : List KeyedRecord). HoldsFile files.tree told Unread (record left_at { head = head.Unread }) left_room) left_more (told_holds files.tree (lefts es) l left_at left_room here.left_holds);
        right_holds = subst (λ (told : List KeyedRecord). HoldsFile files.tree told right right_at right_room) right_more here.right_holds;
        printed = took_more files es counts e left_at.number right_at.number w0 w1 w2 here.are here.printed
            (λ text so. subst (λ (k : ℕ). IsEntryText files k (rights_counted (counts_of es) + 1) (Alone Left l) text) one so) took;
      };
    }

right_told : (files : FilePair) (es : List Entry) (r : KeyedRecord) (left : Next) (n : ℕ) (counts : PairCounts) (left_at right_at : Reached) (left_room right_room : FileRoom) (l0 l1 r0 r1 w0 w1 w2 : Option (List ℕ))
    → MergedAt files es left (Waits r) n counts left_at right_at left_room right_room l0 l1 r0 r1 w0 w1 → StandsBelow r left
    → Took w1 w2 (IfTold files.most (told_counted counts) (IsEntryText files left_at.number right_at.number (Alone Right r)))
    → MergedSoFar files (n + 1) (with_entry counts (Alone Right r)) left_at (record right_at { head = head.Unread }) left_room right_room l0 l1 r0 r1 w0 w2
right_told files es r left n counts left_at right_at left_room right_room l0 l1 r0 r1 w0 w1 w2 here below took =
    let e : Entry = Alone Right r in
    let left_more : lefts es ≡ lefts (es ++ e ∷ []) = sym (flat_more left_of es e ∙ append-nil (lefts es)) in
    let right_more = sym (flat_more right_of es e) in
    let other = waiting_number files.tree (rights es) r right_at right_room (rights_counted (counts_of es)) here.right_holds (rights_are es) in
    record {
      entries = es ++ e ∷ [];
      left = left;
      right = Unread;
      here = record {
        count = omega (arith, here.count, length-append es (e ∷ []));
        are = ap (λ (k : PairCounts). with_entry k e) here.are ∙ sym (counted_more none_counted es e);
        each = all_append (IsEntry files) es (e ∷ []) here.each (tt, tt);
        merged = merged_more es e left Unread here.merged (below, tt);
        left_file = subst (λ (told : List KeyedRecord). FileSoFar files.left_form files.tree files.keys told left left_at.opened l0 l1) left_more here.left_file;
        right_file = subst (λ (told : List KeyedRecord). FileSoFar files.right_form files.tree files.keys told Unread right_at.opened r0 r1) right_more
            (told_file files.right_form files.tree files.keys (rights es) r right_at.opened r0 r1 here.right_file);
        left_holds = subst (λ (told : List KeyedRecord). HoldsFile files.tree told left left_at left_room) left_more here.left_holds;
        right_holds = subst (λ (told : List KeyedRecord). HoldsFile files.tree told Unread (record right_at { head = head.Unread }) right_room) right_more (told_holds files.tree (rights es) r right_at right_room here.right_holds);
        printed = took_more files es counts e left_at.number right_at.number w0 w1 w2 here.are here.printed
            (λ text so. subst (λ (k : ℕ). IsEntryText files (lefts_counted (counts_of es) + 1) k (Alone Right r) text) other so) took;
      };
    }

pub turn_told : (files : FilePair) (t : Turn) (n : ℕ) (counts now : PairCounts) (left_at right_at : Reached) (left_room right_room : FileRoom) (l0 l1 r0 r1 w0 w1 w2 : Option (List ℕ))
    → (so_far : MergedSoFar files n counts left_at right_at left_room right_room l0 l1 r0 r1 w0 w1) → IsTurn so_far.left so_far.right t
    → TellsTurn files t left_room left_at right_room right_at counts w1 w2 now
    → MergedSoFar files (n + 1) now (left_behind t left_at) (right_behind t right_at) left_room right_room l0 l1 r0 r1 w0 w2
turn_told files t n counts now left_at right_at left_room right_room l0 l1 r0 r1 w0 w1 w2 so_far is tells =
    let (e, told, took, counted) = tells so_far.left so_far.right so_far.here.left_holds.head so_far.here.right_holds.head is in
    subst (λ (c : PairCounts). MergedSoFar files (n + 1) c (left_behind t left_at) (right_behind t right_at) left_room right_room l0 l1 r0 r1 w0 w2) (sym counted) (by t e told took)
  where
    es : List Entry
    es = so_far.entries

    by : (t : Turn) (e : Entry) → IsTold files so_far.left so_far.right t e
        → Took w1 w2 (IfTold files.most (told_counted counts) (IsEntryText files left_at.number right_at.number e))
        → MergedSoFar files (n + 1) (with_entry counts e) (left_behind t left_at) (right_behind t right_at) left_room right_room l0 l1 r0 r1 w0 w2
    by turn.Done e told took = absurd told
    by turn.Both e (l, r, c, left_is, right_is, alike, e_is, entry) took =
        let both = subst (λ (right : Next). MergedAt files es (Waits l) right n counts left_at right_at left_room right_room l0 l1 r0 r1 w0 w1) right_is
        (subst (λ (left : Next). MergedAt files es left so_far.right n counts left_at right_at left_room right_room l0 l1 r0 r1 w0 w1) left_is so_far.here)
        in
        subst (λ (f : Entry). MergedSoFar files (n + 1) (with_entry counts f) (record left_at { head = head.Unread }) (record right_at { head = head.Unread }) left_room right_room l0 l1 r0 r1 w0 w2) (sym e_is)
        (both_told files es l r c n counts left_at right_at left_room right_room l0 l1 r0 r1 w0 w1 w2 both (alike, tt) entry
        (subst (λ (f : Entry). Took w1 w2 (IfTold files.most (told_counted counts) (IsEntryText files left_at.number right_at.number f))) e_is took))
    by turn.Left e (l, left_is, below, e_is) took =
        let one = subst (λ (left : Next). MergedAt files es left so_far.right n counts left_at right_at left_room right_room l0 l1 r0 r1 w0 w1) left_is so_far.here in
        subst (λ (f : Entry). MergedSoFar files (n + 1) (with_entry counts f) (record left_at { head = head.Unread }) right_at left_room right_room l0 l1 r0 r1 w0 w2) (sym e_is)
        (left_told files es l so_far.right n counts left_at right_at left_room right_room l0 l1 r0 r1 w0 w1 w2 one below
        (subst (λ (f : Entry). Took w1 w2 (IfTold files.most (told_counted counts) (IsEntryText files left_at.number right_at.number f))) e_is took))
    by turn.Right e (r, right_is, below, e_is) took =
        let one = subst (λ (right : Next). MergedAt files es so_far.left right n counts left_at right_at left_room right_room l0 l1 r0 r1 w0 w1) right_is so_far.here in
        subst (λ (f : Entry). MergedSoFar files (n + 1) (with_entry counts f) left_at (record right_at { head = head.Unread }) left_room right_room l0 l1 r0 r1 w0 w2) (sym e_is)
        (right_told files es r so_far.left n counts left_at right_at left_room right_room l0 l1 r0 r1 w0 w1 w2 one below
        (subst (λ (f : Entry). Took w1 w2 (IfTold files.most (told_counted counts) (IsEntryText files left_at.number right_at.number f))) e_is took))

-- ---- the end

-- with the ends that these entries have
ends_so : (files : FilePair) (n : ℕ) (counts : PairCounts) (left_at right_at : Reached) (left_room right_room : FileRoom) (l0 l1 l2 r0 r1 r2 w0 w1 w2 : Option (List ℕ)) (answer : Result PairCounts CompareStop)
    → (so_far : MergedSoFar files n counts left_at right_at left_room right_room l0 l1 r0 r1 w0 w1) → EndsMerging files so_far.entries so_far.left so_far.right l0 l2 r0 r2 w0 w2 answer
    → Merges files l0 l2 r0 r2 w0 w2 answer
ends_so files n counts left_at right_at left_room right_room l0 l1 l2 r0 r1 r2 w0 w1 w2 answer so_far ends =
    let here = so_far.here in
    record {
      entries = so_far.entries;
      left = so_far.left;
      right = so_far.right;
      each = here.each;
      left_keyed = here.left_file.keyed;
      right_keyed = here.right_file.keyed;
      left_ascend = here.left_file.ascend;
      right_ascend = here.right_file.ascend;
      merged = here.merged;
      ends = ends;
    }

left_file_left : (files : FilePair) (n : ℕ) (counts : PairCounts) (left_at right_at : Reached) (left_room right_room : FileRoom) (l0 l1 r0 r1 w0 w1 : Option (List ℕ))
    → (so_far : MergedSoFar files n counts left_at right_at left_room right_room l0 l1 r0 r1 w0 w1) → LeavesFile files.left_form (lefts so_far.entries) so_far.left l0 l1
left_file_left files n counts left_at right_at left_room right_room l0 l1 r0 r1 w0 w1 so_far =
    left_so files.left_form (lefts so_far.entries) so_far.left left_at.opened l0 l1 so_far.here.left_file.come

right_file_left : (files : FilePair) (n : ℕ) (counts : PairCounts) (left_at right_at : Reached) (left_room right_room : FileRoom) (l0 l1 r0 r1 w0 w1 : Option (List ℕ))
    → (so_far : MergedSoFar files n counts left_at right_at left_room right_room l0 l1 r0 r1 w0 w1) → LeavesFile files.right_form (rights so_far.entries) so_far.right r0 r1
right_file_left files n counts left_at right_at left_room right_room l0 l1 r0 r1 w0 w1 so_far =
    left_so files.right_form (rights so_far.entries) so_far.right right_at.opened r0 r1 so_far.here.right_file.come

-- both files are at their end
pub all_told : (files : FilePair) (n : ℕ) (counts : PairCounts) (left_at right_at : Reached) (left_room right_room : FileRoom) (l0 l1 r0 r1 w0 w1 : Option (List ℕ))
    → (so_far : MergedSoFar files n counts left_at right_at left_room right_room l0 l1 r0 r1 w0 w1) → IsTurn so_far.left so_far.right turn.Done → Merges files l0 l1 r0 r1 w0 w1 (Ok counts)
all_told files n counts left_at right_at left_room right_room l0 l1 r0 r1 w0 w1 so_far (left_is, right_is) =
    ends_so files n counts left_at right_at left_room right_room l0 l1 l1 r0 r1 r1 w0 w1 w1 (Ok counts) so_far (
      left_is,
      right_is,
      so_far.here.are,
      subst (λ (next : Next). LeavesFile files.left_form (lefts so_far.entries) next l0 l1) left_is (left_file_left files n counts left_at right_at left_room right_room l0 l1 r0 r1 w0 w1 so_far),
      subst (λ (next : Next). LeavesFile files.right_form (rights so_far.entries) next r0 r1) right_is (right_file_left files n counts left_at right_at left_room right_room l0 l1 r0 r1 w0 w1 so_far),
      so_far.here.printed,
    )

-- a record of the left file stops it
pub left_stops : (files : FilePair) (n : ℕ) (counts : PairCounts) (left_at right_at : Reached) (left_room right_room : FileRoom) (stop : CompareStop) (l0 l1 l2 r0 r1 w0 w1 : Option (List ℕ))
    → MergedSoFar files n counts left_at right_at left_room right_room l0 l1 r0 r1 w0 w1 → StopsAtHead files.left_form files.tree files.keys left_at left_room l1 l2 stop
    → stop.side ≡ Left → is_reason_for is_write_cause stop.reason ≡ false → Merges files l0 l2 r0 r1 w0 w1 (Err stop)
left_stops files n counts left_at right_at left_room right_room stop l0 l1 l2 r0 r1 w0 w1 so_far stops side reading =
    let es = so_far.entries in
    let (unread, number, why) = stops (lefts es) so_far.left l0 so_far.here.left_file so_far.here.left_holds in
    ends_so files n counts left_at right_at left_room right_room l0 l1 l2 r0 r1 r1 w0 w1 w1 (Err stop) so_far (inl (
      reading,
      inl (
        subst (λ (s : FileSide). stop.number ≡ number_on s es + 1) (sym side) number,
        subst (λ (s : FileSide). StopsOn files s es so_far.left so_far.right stop.reason l0 l2 r0 r1) (sym side)
            (unread, why, right_file_left files n counts left_at right_at left_room right_room l0 l1 r0 r1 w0 w1 so_far),
      ),
      so_far.here.printed,
    ))

-- or one of the right file
pub right_stops : (files : FilePair) (n : ℕ) (counts : PairCounts) (left_at right_at : Reached) (left_room right_room : FileRoom) (stop : CompareStop) (l0 l1 r0 r1 r2 w0 w1 : Option (List ℕ))
    → MergedSoFar files n counts left_at right_at left_room right_room l0 l1 r0 r1 w0 w1 → StopsAtHead files.right_form files.tree files.keys right_at right_room r1 r2 stop
    → stop.side ≡ Right → is_reason_for is_write_cause stop.reason ≡ false → Merges files l0 l1 r0 r2 w0 w1 (Err stop)
right_stops files n counts left_at right_at left_room right_room stop l0 l1 r0 r1 r2 w0 w1 so_far stops side reading =
    let es = so_far.entries in
    let (unread, number, why) = stops (rights es) so_far.right r0 so_far.here.right_file so_far.here.right_holds in
    ends_so files n counts left_at right_at left_room right_room l0 l1 l1 r0 r1 r2 w0 w1 w1 (Err stop) so_far (inl (
      reading,
      inl (
        subst (λ (s : FileSide). stop.number ≡ number_on s es + 1) (sym side) number,
        subst (λ (s : FileSide). StopsOn files s es so_far.left so_far.right stop.reason l0 l1 r0 r2) (sym side)
            (unread, why, left_file_left files n counts left_at right_at left_room right_room l0 l1 r0 r1 w0 w1 so_far),
      ),
      so_far.here.printed,
    ))

-- the lines of what is told next could not be printed
turn_is : (files : FilePair) (t : Turn) (es : List Entry) (left right : Next) (left_at right_at : Reached) (left_room right_room : FileRoom) → IsTurn left right t → (t ≡ turn.Done → ⊥)
    → HoldsFile files.tree (lefts es) left left_at left_room → HoldsFile files.tree (rights es) right right_at right_room → turn_number t left_at right_at ≡ number_on (turn_side t) es + 1
turn_is files turn.Done es left right left_at right_at left_room right_room is some left_holds right_holds = absurd (some refl)
turn_is files turn.Both es left right left_at right_at left_room right_room (l, r, left_is, right_is, alike) some left_holds right_holds =
    waiting_number files.tree (lefts es) l left_at left_room (length (lefts es)) (subst (λ (next : Next). HoldsFile files.tree (lefts es) next left_at left_room) left_is left_holds) refl
turn_is files turn.Left es left right left_at right_at left_room right_room (l, left_is, below) some left_holds right_holds =
    waiting_number files.tree (lefts es) l left_at left_room (length (lefts es)) (subst (λ (next : Next). HoldsFile files.tree (lefts es) next left_at left_room) left_is left_holds) refl
turn_is files turn.Right es left right left_at right_at left_room right_room (r, right_is, below) some left_holds right_holds =
    waiting_number files.tree (rights es) r right_at right_room (length (rights es)) (subst (λ (next : Next). HoldsFile files.tree (rights es) next right_at right_room) right_is right_holds) refl

pub turn_unprinted : (files : FilePair) (t : Turn) (n : ℕ) (counts : PairCounts) (left_at right_at : Reached) (left_room right_room : FileRoom) (stop : CompareStop) (l0 l1 r0 r1 w0 w1 w2 : Option (List ℕ))
    → (so_far : MergedSoFar files n counts left_at right_at left_room right_room l0 l1 r0 r1 w0 w1) → IsTurn so_far.left so_far.right t → (t ≡ turn.Done → ⊥)
    → (stop.side ≡ turn_side t) × (stop.number ≡ turn_number t left_at right_at) → is_reason_for is_write_cause stop.reason ≡ true → Merges files l0 l1 r0 r1 w0 w2 (Err stop)
turn_unprinted files t n counts left_at right_at left_room right_room stop l0 l1 r0 r1 w0 w1 w2 so_far is some (side, number) writing =
    let es = so_far.entries in
    ends_so files n counts left_at right_at left_room right_room l0 l1 l1 r0 r1 r1 w0 w1 w2 (Err stop) so_far (inr (
      writing,
      subst (λ (s : FileSide). stop.number ≡ number_on s es + 1) (sym side)
          (number ∙ turn_is files t es so_far.left so_far.right left_at right_at left_room right_room is some so_far.here.left_holds so_far.here.right_holds),
      (t, some, is, side),
      left_file_left files n counts left_at right_at left_room right_room l0 l1 r0 r1 w0 w1 so_far,
      right_file_left files n counts left_at right_at left_room right_room l0 l1 r0 r1 w0 w1 so_far,
    ))

-- as many as at most were told
pub told_limit : (files : FilePair) (n : ℕ) (counts : PairCounts) (left_at right_at : Reached) (left_room right_room : FileRoom) (stop : CompareStop) (l0 l1 r0 r1 w0 w1 : Option (List ℕ))
    → MergedSoFar files n counts left_at right_at left_room right_room l0 l1 r0 r1 w0 w1 → n ≡ most_shown → stop ≡ record { side = Left; number = most_shown + 1; reason = Record limit_of_pairs }
    → Merges files l0 l1 r0 r1 w0 w1 (Err stop)
told_limit files n counts left_at right_at left_room right_room stop l0 l1 r0 r1 w0 w1 so_far most is =
    ends_so files n counts left_at right_at left_room right_room l0 l1 l1 r0 r1 r1 w0 w1 w1 (Err stop) so_far (inl (
      ap (λ (s : CompareStop). is_reason_for is_write_cause s.reason) is,
      inr (
        so_far.here.count ∙ most,
        is,
        left_file_left files n counts left_at right_at left_room right_room l0 l1 r0 r1 w0 w1 so_far,
        right_file_left files n counts left_at right_at left_room right_room l0 l1 r0 r1 w0 w1 so_far,
      ),
      so_far.here.printed,
    ))

-- ---- how many there are, and what failed

pub counts_few : (files : FilePair) (n : ℕ) (counts : PairCounts) (left_at right_at : Reached) (left_room right_room : FileRoom) (l0 l1 r0 r1 w0 w1 : Option (List ℕ))
    → MergedSoFar files n counts left_at right_at left_room right_room l0 l1 r0 r1 w0 w1 → all_counted counts ≡ n
counts_few files n counts left_at right_at left_room right_room l0 l1 r0 r1 w0 w1 so_far =
    ap all_counted so_far.here.are ∙ all_with none_counted so_far.entries ∙ omega (arith, so_far.here.count)

pub few_are : (counts : PairCounts) → all_counted counts ≤ most_shown → AreFew counts
few_are counts few = (omega (arith, few), omega (arith, few))

pub left_number_few : (files : FilePair) (n : ℕ) (counts : PairCounts) (left_at right_at : Reached) (left_room right_room : FileRoom) (l0 l1 r0 r1 w0 w1 : Option (List ℕ))
    → MergedSoFar files n counts left_at right_at left_room right_room l0 l1 r0 r1 w0 w1 → left_at.head ≡ head.Unread → left_at.number ≤ n
left_number_few files n counts left_at right_at left_room right_room l0 l1 r0 r1 w0 w1 so_far unread =
    let here = so_far.here in
    let all = counts_few files n counts left_at right_at left_room right_room l0 l1 r0 r1 w0 w1 so_far in
    let is = unread_next files.tree left_room left_at.head so_far.left here.left_holds.head unread in
    let number : left_at.number ≡ length (lefts so_far.entries) = here.left_holds.number ∙ ap (λ (next : Next). length (came (lefts so_far.entries) next)) is in
    omega (arith, number, lefts_are so_far.entries, ap lefts_counted here.are, all)

pub right_number_few : (files : FilePair) (n : ℕ) (counts : PairCounts) (left_at right_at : Reached) (left_room right_room : FileRoom) (l0 l1 r0 r1 w0 w1 : Option (List ℕ))
    → MergedSoFar files n counts left_at right_at left_room right_room l0 l1 r0 r1 w0 w1 → right_at.head ≡ head.Unread → right_at.number ≤ n
right_number_few files n counts left_at right_at left_room right_room l0 l1 r0 r1 w0 w1 so_far unread =
    let here = so_far.here in
    let all = counts_few files n counts left_at right_at left_room right_room l0 l1 r0 r1 w0 w1 so_far in
    let is = unread_next files.tree right_room right_at.head so_far.right here.right_holds.head unread in
    let number : right_at.number ≡ length (rights so_far.entries) = here.right_holds.number ∙ ap (λ (next : Next). length (came (rights so_far.entries) next)) is in
    omega (arith, number, rights_are so_far.entries, ap rights_counted here.are, all)

-- a stop on one side is none on the other
on_its_side : (f : Cause → Bool) (stop : CompareStop) → stop.side ≡ Left → is_stopped_on {X = PairCounts} Left f (Err stop) ≡ is_reason_for f stop.reason
on_its_side f stop side = ap (λ (s : FileSide). is_stopped_on {X = PairCounts} Left f (Err (record { side = s; number = stop.number; reason = stop.reason }))) side

on_no_right : (f : Cause → Bool) (stop : CompareStop) → stop.side ≡ Left → is_stopped_on {X = PairCounts} Right f (Err stop) ≡ false
on_no_right f stop side = ap (λ (s : FileSide). is_stopped_on {X = PairCounts} Right f (Err (record { side = s; number = stop.number; reason = stop.reason }))) side

on_the_right : (f : Cause → Bool) (stop : CompareStop) → stop.side ≡ Right → is_stopped_on {X = PairCounts} Right f (Err stop) ≡ is_reason_for f stop.reason
on_the_right f stop side = ap (λ (s : FileSide). is_stopped_on {X = PairCounts} Right f (Err (record { side = s; number = stop.number; reason = stop.reason }))) side

on_no_left : (f : Cause → Bool) (stop : CompareStop) → stop.side ≡ Right → is_stopped_on {X = PairCounts} Left f (Err stop) ≡ false
on_no_left f stop side = ap (λ (s : FileSide). is_stopped_on {X = PairCounts} Left f (Err (record { side = s; number = stop.number; reason = stop.reason }))) side

never : (b : Bool) → (b && false) ≡ false
never true = refl
never false = refl

-- a reason that is none of a cause is so on either side
on_no_side : (side : FileSide) (f : Cause → Bool) (stop : CompareStop) → is_reason_for f stop.reason ≡ false → is_stopped_on {X = PairCounts} side f (Err stop) ≡ false
on_no_side Left f stop none = ap (λ (b : Bool). on_left stop.side && b) none ∙ never (on_left stop.side)
on_no_side Right f stop none = ap (λ (b : Bool). not (on_left stop.side) && b) none ∙ never (not (on_left stop.side))

-- so many reads failed where a file stops it, and none of the other
pub left_failed : (f : Cause → Bool) (stop : CompareStop) (before between after : ℕ) → stop.side ≡ Left → between ≡ before → after ≡ counted (is_reason_for f stop.reason) between
    → after ≡ counted (is_stopped_on {X = PairCounts} Left f (Err stop)) before
left_failed f stop before between after side same failed =
    failed ∙ ap (counted (is_reason_for f stop.reason)) same ∙ ap (λ (b : Bool). counted b before) (sym (on_its_side f stop side))

pub right_kept : (f : Cause → Bool) (stop : CompareStop) (before after : ℕ) → stop.side ≡ Left → after ≡ before → after ≡ counted (is_stopped_on {X = PairCounts} Right f (Err stop)) before
right_kept f stop before after side same = same ∙ ap (λ (b : Bool). counted b before) (sym (on_no_right f stop side))

pub right_failed : (f : Cause → Bool) (stop : CompareStop) (before between after : ℕ) → stop.side ≡ Right → between ≡ before → after ≡ counted (is_reason_for f stop.reason) between
    → after ≡ counted (is_stopped_on {X = PairCounts} Right f (Err stop)) before
right_failed f stop before between after side same failed =
    failed ∙ ap (counted (is_reason_for f stop.reason)) same ∙ ap (λ (b : Bool). counted b before) (sym (on_the_right f stop side))

pub left_kept : (f : Cause → Bool) (stop : CompareStop) (before after : ℕ) → stop.side ≡ Right → after ≡ before → after ≡ counted (is_stopped_on {X = PairCounts} Left f (Err stop)) before
left_kept f stop before after side same = same ∙ ap (λ (b : Bool). counted b before) (sym (on_no_left f stop side))

pub either_kept : (side : FileSide) (f : Cause → Bool) (stop : CompareStop) (before after : ℕ) → is_reason_for f stop.reason ≡ false → after ≡ before
    → after ≡ counted (is_stopped_on {X = PairCounts} side f (Err stop)) before
either_kept side f stop before after none same = same ∙ ap (λ (b : Bool). counted b before) (sym (on_no_side side f stop none))

-- and writes
pub all_written : (f : Cause → Bool) (stop : CompareStop) (before after : ℕ) → is_reason_for f stop.reason ≡ false → after ≡ before
    → after ≡ counted (is_stopped_for {X = PairCounts} f (Err stop)) before
all_written f stop before after none same = same ∙ ap (λ (b : Bool). counted b before) (sym none)

pub not_written : (f : Cause → Bool) (stop : CompareStop) (before between after : ℕ) → between ≡ before → after ≡ counted (is_reason_for f stop.reason) between
    → after ≡ counted (is_stopped_for {X = PairCounts} f (Err stop)) before
not_written f stop before between after same failed = failed ∙ ap (counted (is_reason_for f stop.reason)) same

-- ---- what calls ask for

-- what is decided of the next records
pub turn_here : (files : FilePair) (t : Turn) (n : ℕ) (counts : PairCounts) (left_at right_at : Reached) (left_room right_room : FileRoom) (l0 l1 r0 r1 w0 w1 : Option (List ℕ))
    → (so_far : MergedSoFar files n counts left_at right_at left_room right_room l0 l1 r0 r1 w0 w1) → DecidesTurn files.keys left_room left_at.head right_room right_at.head t
    → IsTurn so_far.left so_far.right t
turn_here files t n counts left_at right_at left_room right_room l0 l1 r0 r1 w0 w1 so_far decides =
    let here = so_far.here in
    decides files.tree so_far.left so_far.right here.left_holds.head here.right_holds.head
    (has_key files.left_form files.tree files.keys (lefts so_far.entries) so_far.left here.left_file.keyed)
    (has_key files.right_form files.tree files.keys (rights so_far.entries) so_far.right here.right_file.keyed)

-- the records of a pair are complete
pub both_whole : (files : FilePair) (t : Turn) (n : ℕ) (counts : PairCounts) (left_at right_at : Reached) (left_room right_room : FileRoom) (l0 l1 r0 r1 w0 w1 : Option (List ℕ))
    → (so_far : MergedSoFar files n counts left_at right_at left_room right_room l0 l1 r0 r1 w0 w1) → IsTurn so_far.left so_far.right t → t ≡ turn.Both
    → IsWhole files.tree left_room left_at.head × IsWhole files.tree right_room right_at.head
both_whole files t n counts left_at right_at left_room right_room l0 l1 r0 r1 w0 w1 so_far is both =
    by (subst (λ (s : Turn). IsTurn so_far.left so_far.right s) both is)
  where
    by : IsTurn so_far.left so_far.right turn.Both → IsWhole files.tree left_room left_at.head × IsWhole files.tree right_room right_at.head
    by (x, y, left_is, right_is, alike) = (
      whole_head files.left_form files.tree files.keys left_room left_at.head (lefts so_far.entries) so_far.left x so_far.here.left_holds.head so_far.here.left_file.keyed left_is,
      whole_head files.right_form files.tree files.keys right_room right_at.head (rights so_far.entries) so_far.right y so_far.here.right_holds.head so_far.here.right_file.keyed right_is,
    )
