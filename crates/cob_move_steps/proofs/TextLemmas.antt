-- Texts of edited items that are made of digits in lanes.
use Rattle.std.proofs.Common.{◌≡◌, ℕ, zero, suc, ◌+◌, ◌-◌, ◌%◌, ◌<◌, ◌≤◌, ◌==◌, Bool, true, false, cond, ltb, ltb-true, ltb-false, List, [], ◌∷◌, ◌++◌, length, take, drop, replicate, get_or, refl, sym, ap, subst, ◌∙◌, inl, inr, arith, length-take-le, get_or-take}
use Rattle.std.proofs.lemmas.Bool.{cases_lt}
use Rattle.std.proofs.lemmas.List.{ext_get_or, get_or_past, get_or_append_left, get_or-append_right, get_or-drop, get_or-map, get_or-replicate, length-append, length-drop, length-map, length-replicate}
use Rattle.std.specs.List.{prefix_len}
use Rattle.cob_cp037.specs.Named.{zero_byte}
use Rattle.cob_picture.specs.Counts.{digits, scale, size}
use Rattle.cob_copybook_tree.specs.declared.node.Item.{Item}
use Rattle.cob_copybook_tree.specs.Lengths.{item_size}
use Rattle.cob_decimal.specs.Decimal.{IsDigits}
use Rattle.cob_edit.specs.declared.cell.TextCell.{TextCell}
use Rattle.cob_edit.specs.declared.cell.TextCell.TheVariants.{Same, Signed, Taken}
use Rattle.cob_edit.specs.Pictured.{IsEdited}
use Rattle.cob_edit.specs.Rows.{cell_byte, row_bytes, IsRowOf}
use Rattle.cob_codec_lanes.specs.Lanes.{picked_at}
use Rattle.cob_codec_lanes.specs.Texts.{AreShown, AreWidelyShown}
use Rattle.cob_codec_lanes.specs.declared.text.LaneText.{LaneText}
use Rattle.cob_codec_lanes.specs.declared.text.WideText.{WideText}
use Rattle.cob_codec_lanes.proofs.HalfLemmas.{all_digits}
use Rattle.cob_move_steps.specs.Texts.{AreLed, HoldInTurn, AreTextsFor, AreWideTextsFor, IsTextFor, IsTextOf, IsWideTextFor, IsWideTextOf, MakesTextsFor, added_to, cell_in, shown_lane}

-- ---- zeros in front of the first lanes

prefix_short : (p : ℕ → Bool) (n : ℕ) (xs : List ℕ) → prefix_len p xs < n → prefix_len p (take n xs) ≡ prefix_len p xs
prefix_short p zero xs lt = absurd (omega arith)
prefix_short p (suc n) [] lt = refl
prefix_short p (suc n) (x ∷ xs) lt = go (p x) lt (prefix_short p n xs)
  where
    go : (b : Bool) → cond {A = ℕ} b (1 + prefix_len p xs) 0 < suc n → (prefix_len p xs < n → prefix_len p (take n xs) ≡ prefix_len p xs)
        → cond {A = ℕ} b (1 + prefix_len p (take n xs)) 0 ≡ cond {A = ℕ} b (1 + prefix_len p xs) 0
    go true less h = ap (λ k. 1 + k) (h (omega arith))
    go false less h = refl

prefix_all : (p : ℕ → Bool) (n : ℕ) (xs : List ℕ) → n ≤ prefix_len p xs → n ≤ length xs → prefix_len p (take n xs) ≡ n
prefix_all p zero xs le long = refl
prefix_all p (suc n) [] le long = absurd (omega arith)
prefix_all p (suc n) (x ∷ xs) le long = go (p x) le (λ less. prefix_all p n xs less (omega arith))
  where
    go : (b : Bool) → suc n ≤ cond {A = ℕ} b (1 + prefix_len p xs) 0 → (n ≤ prefix_len p xs → prefix_len p (take n xs) ≡ n)
        → cond {A = ℕ} b (1 + prefix_len p (take n xs)) 0 ≡ suc n
    go true more h = omega (arith, h (omega arith))
    go false more h = absurd (omega arith)

pub zeros_few : (front count : ℕ) (xs : List ℕ) → front ≡ prefix_len (λ d. d == 0) xs → front < count → front ≡ prefix_len (λ d. d == 0) (take count xs)
zeros_few front count xs is lt = is ∙ sym (prefix_short (λ d. d == 0) count xs (omega arith))

pub zeros_all : (front count : ℕ) (xs : List ℕ) → front ≡ prefix_len (λ d. d == 0) xs → count ≤ front → count ≤ length xs → count ≡ prefix_len (λ d. d == 0) (take count xs)
zeros_all front count xs is le long = sym (prefix_all (λ d. d == 0) count xs (omega arith) long)

-- ---- the bytes of a text

-- the digit of a number among the first lanes
first_digit : (count number : ℕ) (lanes : List ℕ) → count ≤ 16 → AreLed count lanes → number < 16 → get_or (take count lanes) number 0 ≡ get_or lanes number 0
first_digit count number lanes few led lt =
    elim (cases_lt number count) [
      | inl inside ↦ get_or-take count lanes number 0 inside
      | inr past ↦ get_or_past (take count lanes) number 0 (omega (arith, length-take-le count lanes (omega (arith, led.long)))) ∙ sym (led.rest number past lt)
    ]

no_digit : (count number : ℕ) (lanes : List ℕ) → count ≤ 16 → AreLed count lanes → 16 ≤ number → get_or (take count lanes) number 0 ≡ 0
no_digit count number lanes few led ge = get_or_past (take count lanes) number 0 (omega (arith, length-take-le count lanes (omega (arith, led.long))))

taken_cell : (count number : ℕ) (lanes : List ℕ) → count ≤ 16 → AreLed count lanes → (b : Bool) → ltb number 16 ≡ b
    → (picked_at lanes (cond {A = ℕ} b number 128) + zero_byte) % 256 ≡ get_or (take count lanes) number 0 + zero_byte
taken_cell count number lanes few led true e =
    let lt : number < 16 = ltb-true _ _ e in
    let here : picked_at lanes number ≡ get_or lanes number 0 = ap (λ b. cond {A = ℕ} b (get_or lanes number 0) 0) e in
    omega (arith, here, first_digit count number lanes few led lt, led.tens number lt)
taken_cell count number lanes few led false e = omega (arith, no_digit count number lanes few led (ltb-false _ _ e))

small_byte : (byte : ℕ) → byte < 256 → (0 + byte) % 256 ≡ byte
small_byte byte lt = omega arith

-- the byte that lanes show for a cell
abbrev shown_byte : Bool → List ℕ → TextCell → ℕ
shown_byte negative lanes c = (picked_at lanes (shown_lane c) + added_to negative c) % 256

one_cell : (c : TextCell) (count : ℕ) (negative : Bool) (lanes : List ℕ) → count ≤ 16 → AreLed count lanes → added_to negative c < 256
    → shown_byte negative lanes c ≡ cell_byte (take count lanes) negative c
one_cell (Same byte) count negative lanes few led small = small_byte byte small
one_cell (Signed plus minus) count true lanes few led small = small_byte minus small
one_cell (Signed plus minus) count false lanes few led small = small_byte plus small
one_cell (Taken number) count negative lanes few led small = taken_cell count number lanes few led (ltb number 16) refl

-- so many bytes are what lanes show of a row, and 0 behind it
record AreRowShown (row : List TextCell) (n : ℕ) (negative : Bool) (lanes bytes : List ℕ) : Type 0 where
  long : length bytes ≡ n
  each : (i : ℕ) → i < n → get_or bytes i 0 ≡ shown_byte negative lanes (cell_in row i)
  small : (i : ℕ) → i < n → added_to negative (cell_in row i) < 256

added_here : (row : List TextCell) (start : ℕ) (t : LaneText) (negative : Bool) (i : ℕ) → IsTextOf row start t → i < 16
    → get_or (cond negative t.minus t.plus) i 0 ≡ added_to negative (cell_in row (start + i))
added_here row start t true i is lt = is.minus i lt
added_here row start t false i is lt = is.plus i lt

shown_here : (row : List TextCell) (start : ℕ) (t : LaneText) (negative : Bool) (lanes bytes : List ℕ) (at i : ℕ) → IsTextOf row start t → AreShown t negative lanes bytes → i < 16 → start + i ≡ at
    → get_or bytes i 0 ≡ shown_byte negative lanes (cell_in row at)
shown_here row start t negative lanes bytes at i is shown lt there =
    shown.each i lt
    ∙ ap (λ lane. (picked_at lanes lane + get_or (cond negative t.minus t.plus) i 0) % 256) (is.lanes i lt)
    ∙ ap (λ added. (picked_at lanes (shown_lane (cell_in row (start + i))) + added) % 256) (added_here row start t negative i is lt)
    ∙ ap (λ k. shown_byte negative lanes (cell_in row k)) there

small_here : (row : List TextCell) (start : ℕ) (t : LaneText) (negative : Bool) (at i : ℕ) → IsTextOf row start t → i < 16 → start + i ≡ at → added_to negative (cell_in row at) < 256
small_here row start t negative at i is lt there = subst (λ k. added_to negative (cell_in row k) < 256) there (is.small i negative lt)

short_shown : (row : List TextCell) (t : LaneText) (negative : Bool) (lanes bytes : List ℕ) → IsTextOf row 0 t → AreShown t negative lanes bytes → AreRowShown row 16 negative lanes bytes
short_shown row t negative lanes bytes is shown = record {
  long = shown.long;
  each = λ i lt. shown_here row 0 t negative lanes bytes i i is shown lt (omega arith);
  small = λ i lt. small_here row 0 t negative i i is lt (omega arith);
}

wide_shown : (row : List TextCell) (t : WideText) (negative : Bool) (lanes bytes : List ℕ) → IsWideTextOf row t → AreWidelyShown t negative lanes bytes → AreRowShown row 32 negative lanes bytes
wide_shown row t negative lanes bytes is shown = record {
  long = ap length shown.both ∙ length-append shown.front shown.back ∙ omega (arith, shown.first.long, shown.last.long);
  each = λ i lt.
      ap (λ xs. get_or xs i 0) shown.both
      ∙ elim (cases_lt i 16) [
        | inl before ↦ get_or_append_left shown.front shown.back 0 i (omega (arith, shown.first.long)) ∙ shown_here row 0 t.front negative lanes shown.front i i is.front shown.first before (omega arith)
        | inr past ↦
            get_or-append_right shown.front shown.back 16 i 0 shown.first.long past ∙ shown_here row 16 t.back negative lanes shown.back i (i - 16) is.back shown.last (omega arith) (omega arith)
      ];
  small = λ i lt.
      elim (cases_lt i 16) [
        | inl before ↦ small_here row 0 t.front negative i i is.front before (omega arith)
        | inr past ↦ small_here row 16 t.back negative i (i - 16) is.back (omega arith) (omega arith)
      ];
}

row_shown : (row : List TextCell) (n count : ℕ) (negative : Bool) (lanes bytes : List ℕ) → length row ≤ n → count ≤ 16 → AreLed count lanes → AreRowShown row n negative lanes bytes
    → take (length row) bytes ≡ row_bytes (take count lanes) negative row
row_shown row n count negative lanes bytes fits few led shown =
    let long : length (take (length row) bytes) ≡ length row = length-take-le (length row) bytes (omega (arith, shown.long)) in
    ext_get_or 0 (take (length row) bytes) (row_bytes (take count lanes) negative row) (long ∙ sym (length-map row (cell_byte (take count lanes) negative))) (λ i lt.
    let inside : i < length row = omega arith in
    get_or-take (length row) bytes i 0 inside
    ∙ shown.each i (omega arith)
    ∙ one_cell (cell_in row i) count negative lanes few led (shown.small i (omega arith))
    ∙ sym (get_or-map (cell_byte (take count lanes) negative) row i (Same 0) 0 inside))

zeros_shown : (row : List TextCell) (n : ℕ) (negative : Bool) (lanes bytes : List ℕ) → length row ≤ n → AreRowShown row n negative lanes bytes → drop (length row) bytes ≡ replicate (n - length row) 0
zeros_shown row n negative lanes bytes fits shown =
    let long : length (drop (length row) bytes) ≡ n - length row = length-drop (length row) bytes ∙ ap (λ k. k - length row) shown.long in
    ext_get_or 0 (drop (length row) bytes) (replicate (n - length row) 0) (long ∙ sym (length-replicate (n - length row) 0)) (λ i lt.
    let inside : length row + i < n = omega arith in
    get_or-drop (length row) bytes i 0
    ∙ shown.each (length row + i) inside
    ∙ ap (shown_byte negative lanes) (get_or_past row (length row + i) (Same 0) (omega arith))
    ∙ sym (get_or-replicate (n - length row) i 0 0 (omega arith)))

pub led_digits : (count : ℕ) (lanes : List ℕ) → count ≤ 16 → AreLed count lanes → IsDigits (take count lanes)
led_digits count lanes few led =
    let long : length (take count lanes) ≡ count = length-take-le count lanes (omega (arith, led.long)) in
    all_digits (take count lanes) (λ i lt. omega (arith, get_or-take count lanes i 0 (omega arith), led.tens i (omega arith)))

-- what makes the bytes of a row makes the texts of the item
texts_made : (to : Item) (front n : ℕ) (row : List TextCell) (is_made : Bool → List ℕ → List ℕ → Type 0) → digits to.picture.positions ≤ 16 → item_size to ≡ length row → length row ≤ n → IsRowOf to.picture to.blank front row
    → ((negative : Bool) (lanes bytes : List ℕ) → is_made negative lanes bytes → AreRowShown row n negative lanes bytes) → MakesTextsFor to front is_made
texts_made to front n row is_made few size fits texts shown negative lanes bytes led told made =
    let count : ℕ = digits to.picture.positions in
    let here : take (item_size to) bytes ≡ row_bytes (take count lanes) negative row =
    ap (λ k. take k bytes) size ∙ row_shown row n count negative lanes bytes fits few led (shown negative lanes bytes made) in
    subst (λ xs. IsEdited to.picture to.blank negative (take count lanes) (scale to.picture.positions) xs) (sym here)
    (texts negative (take count lanes) (led_digits count lanes few led) (length-take-le count lanes (omega (arith, led.long))) told)

pub text_made : (to : Item) (front : ℕ) (row : List TextCell) (t : LaneText) → digits to.picture.positions ≤ 16 → item_size to ≤ 16 → item_size to ≡ length row → IsTextOf row 0 t → IsRowOf to.picture to.blank front row
    → IsTextFor to front t
text_made to front row t few fits size is texts =
    texts_made to front 16 row (AreShown t) few size (omega arith) texts (λ negative lanes bytes shown. short_shown row t negative lanes bytes is shown)

pub wide_text_made : (to : Item) (front : ℕ) (row : List TextCell) (t : WideText) → digits to.picture.positions ≤ 16 → item_size to ≤ 32 → item_size to ≡ length row → IsWideTextOf row t
    → IsRowOf to.picture to.blank front row → IsWideTextFor to front t
wide_text_made to front row t few fits size is texts = record {
  text = texts_made to front 32 row (AreWidelyShown t) few size (omega arith) texts (λ negative lanes bytes shown. wide_shown row t negative lanes bytes is shown);
  rest = λ negative lanes bytes shown.
      ap (λ k. drop k bytes) size
      ∙ zeros_shown row 32 negative lanes bytes (omega arith) (wide_shown row t negative lanes bytes is shown)
      ∙ ap (λ k. replicate (32 - k) 0) (sym size);
}

-- ---- many texts

numbered_more : {A : Type 0} (IsRight : ℕ → A → Type 0) (first : ℕ) (xs : List A) (x : A) → HoldInTurn IsRight first xs → IsRight (first + length xs) x → HoldInTurn IsRight first (xs ++ x ∷ [])
numbered_more IsRight first [] x all one = let none : first + 0 ≡ first = omega arith in (subst (λ k. IsRight k x) none one, tt)
numbered_more IsRight first (y ∷ xs) x all one =
    let next : first + length (y ∷ xs) ≡ first + 1 + length xs = omega arith in
    (all.0, numbered_more IsRight (first + 1) xs x all.1 (subst (λ k. IsRight k x) next one))

numbered_at : {A : Type 0} (IsRight : ℕ → A → Type 0) (first : ℕ) (xs : List A) (i : ℕ) (d : A) → HoldInTurn IsRight first xs → i < length xs → IsRight (first + i) (get_or xs i d)
numbered_at IsRight first [] i d all lt = absurd (omega arith)
numbered_at IsRight first (x ∷ xs) zero d all lt = let none : first ≡ first + 0 = omega arith in subst (λ k. IsRight k x) none all.0
numbered_at IsRight first (x ∷ xs) (suc i) d all lt =
    let next : first + 1 + i ≡ first + suc i = omega arith in
    subst (λ k. IsRight k (get_or xs i d)) next (numbered_at IsRight (first + 1) xs i d all.1 (omega arith))

-- one more behind the texts for so many zeros
pub more_numbered : {A : Type 0} (IsRight : ℕ → A → Type 0) (zeros : ℕ) (before after : List A) (x : A) → length before ≡ zeros → HoldInTurn IsRight 0 before → IsRight zeros x → after ≡ before ++ x ∷ []
    → (length after ≡ zeros + 1) × HoldInTurn IsRight 0 after
more_numbered IsRight zeros before after x long all one is =
    let place : zeros ≡ 0 + length before = omega arith in (
      omega (arith, ap length is, length-append before (x ∷ [])),
      subst (λ xs. HoldInTurn IsRight 0 xs) (sym is) (numbered_more IsRight 0 before x all (subst (λ k. IsRight k x) place one)),
    )

pub texts_more : (to : Item) (zeros : ℕ) (before after : List LaneText) (t : LaneText) → length before ≡ zeros → AreTextsFor to 0 before → IsTextFor to zeros t → after ≡ before ++ t ∷ []
    → (length after ≡ zeros + 1) × AreTextsFor to 0 after
texts_more to zeros before after t long all one is = more_numbered (IsTextFor to) zeros before after t long all one is

pub wide_texts_more : (to : Item) (zeros : ℕ) (before after : List WideText) (t : WideText) → length before ≡ zeros → AreWideTextsFor to 0 before → IsWideTextFor to zeros t → after ≡ before ++ t ∷ []
    → (length after ≡ zeros + 1) × AreWideTextsFor to 0 after
wide_texts_more to zeros before after t long all one is = more_numbered (IsWideTextFor to) zeros before after t long all one is

pub first_numbered : {A : Type 0} (IsRight : ℕ → A → Type 0) (xs : List A) (i : ℕ) (d : A) → HoldInTurn IsRight 0 xs → i < length xs → IsRight i (get_or xs i d)
first_numbered IsRight xs i d all lt = let none : 0 + i ≡ i = omega arith in subst (λ k. IsRight k (get_or xs i d)) none (numbered_at IsRight 0 xs i d all lt)

pub text_at : (to : Item) (ts : List LaneText) (i : ℕ) (d : LaneText) → AreTextsFor to 0 ts → i < length ts → IsTextFor to i (get_or ts i d)
text_at to ts i d all lt = first_numbered (IsTextFor to) ts i d all lt

pub wide_text_at : (to : Item) (ts : List WideText) (i : ℕ) (d : WideText) → AreWideTextsFor to 0 ts → i < length ts → IsWideTextFor to i (get_or ts i d)
wide_text_at to ts i d all lt = first_numbered (IsWideTextFor to) ts i d all lt
