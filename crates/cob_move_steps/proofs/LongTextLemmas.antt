-- Texts of edited items that are made of digits in two vectors.
use Rattle.std.proofs.Common.{◌≡◌, ℕ, suc, ◌+◌, ◌-◌, ◌%◌, ◌<◌, ◌≤◌, ◌==◌, ◌&&◌, Bool, true, false, cond, ltb, leb, List, [], ◌∷◌, ◌++◌, length, take, drop, replicate, get_or, refl, sym, ap, subst, ◌∙◌, inl, inr, arith, lt-ltb, le-ltb, length-take-le, length-drop, get_or-take}
use Rattle.std.proofs.lemmas.Bool.{cases_lt, le-leb, lt-leb}
use Rattle.std.proofs.lemmas.List.{ext_get_or, get_or_past, get_or_append_left, get_or-append_right, get_or-drop, get_or-map, get_or-replicate, length-append, length-map, length-replicate}
use Rattle.std.specs.List.{prefix_len}
use Rattle.cob_cp037.specs.Named.{zero_byte}
use Rattle.cob_picture.specs.Counts.{scale}
use Rattle.cob_copybook_tree.specs.declared.node.Item.{Item}
use Rattle.cob_copybook_tree.specs.Lengths.{item_size}
use Rattle.cob_decimal.specs.Decimal.{IsDigits}
use Rattle.cob_edit.specs.declared.cell.TextCell.{TextCell}
use Rattle.cob_edit.specs.declared.cell.TextCell.TheVariants.{Same, Signed, Taken}
use Rattle.cob_edit.specs.Pictured.{IsEdited}
use Rattle.cob_edit.specs.Rows.{cell_byte, row_bytes, IsRowOf}
use Rattle.cob_codec_lanes.specs.Lanes.{AreTens, picked_at}
use Rattle.cob_codec_lanes.specs.LongTexts.{AreLonglyShown, AreShownOfBoth}
use Rattle.cob_codec_lanes.specs.declared.long_text.LongText.{LongText}
use Rattle.cob_codec_lanes.specs.declared.long_text.PairText.{PairText}
use Rattle.cob_codec_lanes.proofs.HalfLemmas.{all_digits}
use Rattle.cob_move_steps.specs.Ends.{item_digits}
use Rattle.cob_move_steps.specs.LongDigits.{last_count, long_digits}
use Rattle.cob_move_steps.specs.LongReads.{ArePaddedBehind, IsPaddedBehind}
use Rattle.cob_move_steps.specs.LongTexts.{AreLongTextsFor, IsLongTextFor, IsLongTextOf, IsPairTextOf, back_lane, front_lane}
use Rattle.cob_move_steps.specs.Texts.{added_to, cell_in}
use Rattle.cob_move_steps.proofs.LongDigits.{few_last, many_last}
use Rattle.cob_move_steps.proofs.TextLemmas.{first_numbered, more_numbered, zeros_all, zeros_few}

-- ---- zeros in front

prefix_append : (p : ℕ → Bool) (xs ys : List ℕ) → prefix_len p xs ≡ length xs → prefix_len p (xs ++ ys) ≡ length xs + prefix_len p ys
prefix_append p [] ys e = omega arith
prefix_append p (x ∷ xs) ys e = go (p x) e (λ h. prefix_append p xs ys h)
  where
    go : (b : Bool) → cond {A = ℕ} b (1 + prefix_len p xs) 0 ≡ suc (length xs) → (prefix_len p xs ≡ length xs → prefix_len p (xs ++ ys) ≡ length xs + prefix_len p ys)
        → cond {A = ℕ} b (1 + prefix_len p (xs ++ ys)) 0 ≡ suc (length xs) + prefix_len p ys
    go true e h = omega (arith, h (omega arith))
    go false e h = absurd (omega arith)

prefix_before : (p : ℕ → Bool) (xs ys : List ℕ) → prefix_len p xs < length xs → prefix_len p (xs ++ ys) ≡ prefix_len p xs
prefix_before p [] ys lt = absurd (omega arith)
prefix_before p (x ∷ xs) ys lt = go (p x) lt (λ h. prefix_before p xs ys h)
  where
    go : (b : Bool) → cond {A = ℕ} b (1 + prefix_len p xs) 0 < suc (length xs) → (prefix_len p xs < length xs → prefix_len p (xs ++ ys) ≡ prefix_len p xs)
        → cond {A = ℕ} b (1 + prefix_len p (xs ++ ys)) 0 ≡ cond {A = ℕ} b (1 + prefix_len p xs) 0
    go true lt h = ap (λ k. 1 + k) (h (omega arith))
    go false lt h = refl

pub zeros_before_last : (count zeros : ℕ) (front back : List ℕ) → count ≤ 31 → length front ≡ 16 → zeros ≡ prefix_len (λ d. d == 0) front → zeros < count - 16 → zeros ≡ prefix_len (λ d. d == 0) (long_digits count front back)
zeros_before_last count zeros front back few long is lt =
    let n : ℕ = count - 16 in
    let lead : List ℕ = take n front in
    let here : zeros ≡ prefix_len (λ d. d == 0) lead = zeros_few zeros n front is lt in
    let size : length lead ≡ n = length-take-le n front (omega arith) in
    here ∙ sym (prefix_before (λ d. d == 0) lead (take (last_count count) back) (omega arith))

pub zeros_among_last : (count zeros behind : ℕ) (front back : List ℕ) → count ≤ 31 → length front ≡ 16 → zeros ≡ prefix_len (λ d. d == 0) front → count - 16 ≤ zeros → behind ≡ prefix_len (λ d. d == 0) (take (last_count count) back)
    → (count - 16) + behind ≡ prefix_len (λ d. d == 0) (long_digits count front back)
zeros_among_last count zeros behind front back few long is ge there =
    let n : ℕ = count - 16 in
    let lead : List ℕ = take n front in
    let size : length lead ≡ n = length-take-le n front (omega arith) in
    let all : prefix_len (λ d. d == 0) lead ≡ length lead = sym (zeros_all zeros n front is ge (omega arith)) ∙ sym size in
    let whole : prefix_len (λ d. d == 0) (long_digits count front back) ≡ length lead + prefix_len (λ d. d == 0) (take (last_count count) back) = prefix_append (λ d. d == 0) lead (take (last_count count) back) all in
    omega (arith, whole, size, there)

-- the others are the last ones
pub last_left : (count : ℕ) → count - (count - 16) ≡ last_count count
last_left count =
    elim (cases_lt count 16) [
      | inl lt ↦ (let none : count - (count - 16) ≡ count = omega arith in none ∙ sym (few_last count (omega arith)))
      | inr ge ↦ (let all : count - (count - 16) ≡ 16 = omega arith in all ∙ sym (many_last count ge))
    ]

-- ---- the bytes of a text

pub long_length : (count : ℕ) (front back : List ℕ) → count ≤ 31 → length front ≡ 16 → length back ≡ 16 → length (long_digits count front back) ≡ count
long_length count front back few first last =
    let left : count - (count - 16) ≡ last_count count = last_left count in
    omega (arith, length-append (take (count - 16) front) (take (last_count count) back), length-take-le (count - 16) front (omega arith), length-take-le (last_count count) back (omega arith), left)

pub digit_in_front : (count n : ℕ) (front back : List ℕ) → count ≤ 31 → length front ≡ 16 → n < count - 16 → get_or (long_digits count front back) n 0 ≡ get_or front n 0
digit_in_front count n front back few first lt =
    get_or_append_left (take (count - 16) front) (take (last_count count) back) 0 n (omega (arith, length-take-le (count - 16) front (omega arith))) ∙ get_or-take (count - 16) front n 0 lt

pub digit_behind : (count n : ℕ) (front back : List ℕ) → count ≤ 31 → length front ≡ 16 → length back ≡ 16 → count - 16 ≤ n → n < count → get_or (long_digits count front back) n 0 ≡ get_or back (n - (count - 16)) 0
digit_behind count n front back few first last ge lt =
    let left : count - (count - 16) ≡ last_count count = last_left count in
    get_or-append_right (take (count - 16) front) (take (last_count count) back) (count - 16) n 0 (length-take-le (count - 16) front (omega arith)) ge
    ∙ get_or-take (last_count count) back (n - (count - 16)) 0 (omega arith)

lane_of : (digits : List ℕ) (k : ℕ) → k < 16 → picked_at digits k ≡ get_or digits k 0
lane_of digits k lt = ap (λ b. cond {A = ℕ} b (get_or digits k 0) 0) (lt-ltb _ _ lt)

-- the byte that two vectors show for a cell
abbrev long_byte : Bool → (count : ℕ) → (front back : List ℕ) → TextCell → ℕ
long_byte negative count front back c = (picked_at front (front_lane count c) + picked_at back (back_lane count c) + added_to negative c) % 256

taken_long : (count n : ℕ) (front back : List ℕ) → count ≤ 31 → length front ≡ 16 → length back ≡ 16 → AreTens front → AreTens back
    → (picked_at front (cond {A = ℕ} (ltb n (count - 16)) n 128) + picked_at back (cond {A = ℕ} (leb (count - 16) n && ltb n count) (n - (count - 16)) 128) + zero_byte) % 256 ≡ get_or (long_digits count front back) n 0 + zero_byte
taken_long count n front back few first last tens more =
    elim (cases_lt n (count - 16)) [
      | inl before ↦
          let lane : n < 16 = omega arith in
          let x : picked_at front (cond {A = ℕ} (ltb n (count - 16)) n 128) ≡ get_or front n 0 = ap (λ b. picked_at front (cond {A = ℕ} b n 128)) (lt-ltb _ _ before) ∙ lane_of front n lane in
          let y : picked_at back (cond {A = ℕ} (leb (count - 16) n && ltb n count) (n - (count - 16)) 128) ≡ 0 = ap (λ b. picked_at back (cond {A = ℕ} (b && ltb n count) (n - (count - 16)) 128)) (lt-leb _ _ before) in
          omega (arith, x, y, digit_in_front count n front back few first before, tens n lane)
      | inr ge ↦
          let x : picked_at front (cond {A = ℕ} (ltb n (count - 16)) n 128) ≡ 0 = ap (λ b. picked_at front (cond {A = ℕ} b n 128)) (le-ltb _ _ ge) in
          let within : leb (count - 16) n ≡ true = le-leb _ _ ge in
          elim (cases_lt n count) [
            | inl inside ↦
                let k : ℕ = n - (count - 16) in
                let lane : k < 16 = omega arith in
                let y : picked_at back (cond {A = ℕ} (leb (count - 16) n && ltb n count) k 128) ≡ get_or back k 0 =
                ap (λ b. picked_at back (cond {A = ℕ} (b && ltb n count) k 128)) within ∙ ap (λ b. picked_at back (cond {A = ℕ} b k 128)) (lt-ltb _ _ inside) ∙ lane_of back k lane in
                omega (arith, x, y, digit_behind count n front back few first last ge inside, more k lane)
            | inr past ↦
                let y : picked_at back (cond {A = ℕ} (leb (count - 16) n && ltb n count) (n - (count - 16)) 128) ≡ 0 =
                ap (λ b. picked_at back (cond {A = ℕ} (b && ltb n count) (n - (count - 16)) 128)) within ∙ ap (λ b. picked_at back (cond {A = ℕ} b (n - (count - 16)) 128)) (le-ltb _ _ past) in
                omega (arith, x, y, get_or_past (long_digits count front back) n 0 (omega (arith, long_length count front back few first last)))
          ]
    ]

small_byte : (byte : ℕ) → byte < 256 → (0 + 0 + byte) % 256 ≡ byte
small_byte byte lt = omega arith

one_long_cell : (c : TextCell) (count : ℕ) (negative : Bool) (front back : List ℕ) → count ≤ 31 → length front ≡ 16 → length back ≡ 16 → AreTens front → AreTens back → added_to negative c < 256
    → long_byte negative count front back c ≡ cell_byte (long_digits count front back) negative c
one_long_cell (Same byte) count negative front back few first last tens more small = small_byte byte small
one_long_cell (Signed plus minus) count true front back few first last tens more small = small_byte minus small
one_long_cell (Signed plus minus) count false front back few first last tens more small = small_byte plus small
one_long_cell (Taken number) count negative front back few first last tens more small = taken_long count number front back few first last tens more

added_here : (count : ℕ) (row : List TextCell) (start : ℕ) (t : PairText) (negative : Bool) (i : ℕ) → IsPairTextOf count row start t → i < 16 → get_or (cond negative t.minus t.plus) i 0 ≡ added_to negative (cell_in row (start + i))
added_here count row start t true i is lt = is.minus i lt
added_here count row start t false i is lt = is.plus i lt

shown_here : (count : ℕ) (row : List TextCell) (start : ℕ) (t : PairText) (negative : Bool) (front back bytes : List ℕ) (at i : ℕ) → IsPairTextOf count row start t → AreShownOfBoth t negative front back bytes → i < 16 → start + i ≡ at
    → get_or bytes i 0 ≡ long_byte negative count front back (cell_in row at)
shown_here count row start t negative front back bytes at i is shown lt there =
    shown.each i lt
    ∙ ap (λ lane. (picked_at front lane + picked_at back (get_or t.back.lanes i 0) + get_or (cond negative t.minus t.plus) i 0) % 256) (is.front i lt)
    ∙ ap (λ lane. (picked_at front (front_lane count (cell_in row (start + i))) + picked_at back lane + get_or (cond negative t.minus t.plus) i 0) % 256) (is.back i lt)
    ∙ ap (λ added. (picked_at front (front_lane count (cell_in row (start + i))) + picked_at back (back_lane count (cell_in row (start + i))) + added) % 256) (added_here count row start t negative i is lt)
    ∙ ap (λ k. long_byte negative count front back (cell_in row k)) there

small_here : (count : ℕ) (row : List TextCell) (start : ℕ) (t : PairText) (negative : Bool) (at i : ℕ) → IsPairTextOf count row start t → i < 16 → start + i ≡ at → added_to negative (cell_in row at) < 256
small_here count row start t negative at i is lt there = subst (λ k. added_to negative (cell_in row k) < 256) there (is.small i negative lt)

-- a byte of forty-eight is one of three sixteens
each_shown : (count : ℕ) (row : List TextCell) (t : LongText) (negative : Bool) (front back bytes : List ℕ) (i : ℕ) → IsLongTextOf count row t → AreLonglyShown t negative front back bytes → i < 48
    → (get_or bytes i 0 ≡ long_byte negative count front back (cell_in row i)) × (added_to negative (cell_in row i) < 256)
each_shown count row t negative front back bytes i is shown lt =
    let lead : List ℕ = shown.one ++ shown.two in
    let lead_long : length lead ≡ 32 = omega (arith, length-append shown.one shown.two, shown.first.long, shown.second.long) in
    let here : get_or bytes i 0 ≡ get_or (lead ++ shown.three) i 0 = ap (λ xs. get_or xs i 0) shown.all in
    elim (cases_lt i 16) [
      | inl one ↦ (
        here ∙ get_or_append_left lead shown.three 0 i (omega arith) ∙ get_or_append_left shown.one shown.two 0 i (omega (arith, shown.first.long)) ∙ shown_here count row 0 t.first negative front back shown.one i i is.first shown.first one (omega arith),
        small_here count row 0 t.first negative i i is.first one (omega arith),
      )
      | inr past ↦ elim (cases_lt i 32) [
        | inl two ↦ (
          here ∙ get_or_append_left lead shown.three 0 i (omega arith) ∙ get_or-append_right shown.one shown.two 16 i 0 shown.first.long past ∙ shown_here count row 16 t.second negative front back shown.two i (i - 16) is.second shown.second (omega arith) (omega arith),
          small_here count row 16 t.second negative i (i - 16) is.second (omega arith) (omega arith),
        )
        | inr three ↦ (
          here ∙ get_or-append_right lead shown.three 32 i 0 lead_long three ∙ shown_here count row 32 t.third negative front back shown.three i (i - 32) is.third shown.third (omega arith) (omega arith),
          small_here count row 32 t.third negative i (i - 32) is.third (omega arith) (omega arith),
        )
      ]
    ]

long_all : (t : LongText) (negative : Bool) (front back bytes : List ℕ) → AreLonglyShown t negative front back bytes → length bytes ≡ 48
long_all t negative front back bytes shown =
    ap length shown.all ∙ omega (arith, length-append (shown.one ++ shown.two) shown.three, length-append shown.one shown.two, shown.first.long, shown.second.long, shown.third.long)

pub long_row : (count : ℕ) (row : List TextCell) (t : LongText) (negative : Bool) (front back bytes : List ℕ) → length row ≤ 48 → count ≤ 31 → length front ≡ 16 → length back ≡ 16 → AreTens front → AreTens back
    → IsLongTextOf count row t → AreLonglyShown t negative front back bytes → take (length row) bytes ≡ row_bytes (long_digits count front back) negative row
long_row count row t negative front back bytes fits few first last tens more is shown =
    let ds : List ℕ = long_digits count front back in
    let long : length (take (length row) bytes) ≡ length row = length-take-le (length row) bytes (omega (arith, long_all t negative front back bytes shown)) in
    ext_get_or 0 (take (length row) bytes) (row_bytes ds negative row) (long ∙ sym (length-map row (cell_byte ds negative))) (λ i lt.
    let inside : i < length row = omega arith in
    let each = each_shown count row t negative front back bytes i is shown (omega arith) in
    get_or-take (length row) bytes i 0 inside ∙ each.0 ∙ one_long_cell (cell_in row i) count negative front back few first last tens more each.1
    ∙ sym (get_or-map (cell_byte ds negative) row i (Same 0) 0 inside))

pub long_valid : (count : ℕ) (front back : List ℕ) → count ≤ 31 → length front ≡ 16 → length back ≡ 16 → AreTens front → AreTens back → IsDigits (long_digits count front back)
long_valid count front back few first last tens more =
    let size : length (long_digits count front back) ≡ count = long_length count front back few first last in
    all_digits (long_digits count front back) (λ i lt. elim (cases_lt i (count - 16)) [
      | inl before ↦ omega (arith, digit_in_front count i front back few first before, tens i (omega arith))
      | inr ge ↦ omega (arith, digit_behind count i front back few first last ge (omega arith), more (i - (count - 16)) (omega arith))
    ])

pub long_text_made : (to : Item) (leading : ℕ) (row : List TextCell) (t : LongText) → item_digits to ≤ 31 → item_size to ≤ 48 → item_size to ≡ length row → IsLongTextOf (item_digits to) row t → IsRowOf to.picture to.blank leading row
    → IsLongTextFor to leading t
long_text_made to leading row t few fits size is texts negative front back bytes first last tens more told shown =
    let count : ℕ = item_digits to in
    let here : take (item_size to) bytes ≡ row_bytes (long_digits count front back) negative row =
    ap (λ k. take k bytes) size ∙ long_row count row t negative front back bytes (omega arith) few first last tens more is shown in
    subst (λ xs. IsEdited to.picture to.blank negative (long_digits count front back) (scale to.picture.positions) xs) (sym here)
    (texts negative (long_digits count front back) (long_valid count front back few first last tens more) (long_length count front back few first last) told)

-- behind the bytes of an item a text has zeros
pub long_padded : (to : Item) (row : List TextCell) (t : LongText) → item_size to ≤ 48 → item_size to ≡ length row → IsLongTextOf (item_digits to) row t → IsPaddedBehind to t
long_padded to row t fits size is negative front back bytes shown =
    let n : ℕ = length row in
    let long : length (drop n bytes) ≡ 48 - n = length-drop n bytes ∙ ap (λ k. k - n) (long_all t negative front back bytes shown) in
    ap (λ k. drop k bytes) size
    ∙ ext_get_or 0 (drop n bytes) (replicate (48 - n) 0) (long ∙ sym (length-replicate (48 - n) 0)) (λ i lt.
    let inside : n + i < 48 = omega arith in
    let each = each_shown (item_digits to) row t negative front back bytes (n + i) is shown inside in
    get_or-drop n bytes i 0
    ∙ each.0
    ∙ ap (long_byte negative (item_digits to) front back) (get_or_past row (n + i) (Same 0) (omega arith))
    ∙ sym (get_or-replicate (48 - n) i 0 0 (omega arith)))
    ∙ ap (λ k. replicate (48 - k) 0) (sym size)

-- ---- many texts

pub long_texts_more : (to : Item) (zeros : ℕ) (before after : List LongText) (t : LongText) → length before ≡ zeros → AreLongTextsFor to 0 before → IsLongTextFor to zeros t → after ≡ before ++ t ∷ []
    → (length after ≡ zeros + 1) × AreLongTextsFor to 0 after
long_texts_more to zeros before after t long all one is = more_numbered (IsLongTextFor to) zeros before after t long all one is

pub long_text_at : (to : Item) (ts : List LongText) (i : ℕ) (d : LongText) → AreLongTextsFor to 0 ts → i < length ts → IsLongTextFor to i (get_or ts i d)
long_text_at to ts i d all lt = first_numbered (IsLongTextFor to) ts i d all lt

pub behind_more : (to : Item) (zeros : ℕ) (before after : List LongText) (t : LongText) → length before ≡ zeros → ArePaddedBehind to before → IsPaddedBehind to t → after ≡ before ++ t ∷ [] → ArePaddedBehind to after
behind_more to zeros before after t long all one is = (more_numbered (λ k. IsPaddedBehind to) zeros before after t long all one is).1

pub behind_at : (to : Item) (ts : List LongText) (i : ℕ) (d : LongText) → ArePaddedBehind to ts → i < length ts → IsPaddedBehind to (get_or ts i d)
behind_at to ts i d all lt = first_numbered (λ k. IsPaddedBehind to) ts i d all lt
