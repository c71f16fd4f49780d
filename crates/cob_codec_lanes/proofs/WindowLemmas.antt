-- Windows that end with the bytes.
use Rattle.std.proofs.Common.{◌≡◌, ◌-◌, ◌+◌, ◌<◌, ◌≤◌, ℕ, zero, suc, Bool, true, false, List, [], ◌∷◌, ◌++◌, length, get_or, take, drop, replicate, refl, sym, ap, ◌∙◌, inl, inr, arith, w8, Fits, drop-drop, length-drop, length-append}
use Rattle.std.proofs.lemmas.Bool.{cases_lt}
use Rattle.std.proofs.lemmas.List.{get_or-append_right, get_or_append_left, get_or-replicate, get_or-drop, length-replicate, take-append-drop, take-replicate}
use Rattle.std.proofs.lemmas.Slice.{take-put_mid, drop-put_mid}
use borrow.Rule.Slice.PartMut.{put_mid}
use Rattle.cob_codec_lanes.specs.Lanes.{IsVector}
use Rattle.cob_codec_lanes.specs.Windows.{last_bytes, padded_window}
use Rattle.cob_codec_lanes.specs.Readers.{AreLanesTaken, AreTaken, IsLanesRead, LanesPass}
use Rattle.cob_codec_lanes.specs.declared.reader.LaneReader.{LaneReader}

pub small_of : (x : ℕ) → Fits w8 x → x < 256
small_of x h = h.fits

drop_zeros : (k n : ℕ) (bytes : List ℕ) → drop (k + n) (replicate k 0 ++ bytes) ≡ drop n bytes
drop_zeros zero n bytes = ap (λ m. drop m bytes) (omega arith)
drop_zeros (suc k) n bytes =
    let e : suc k + n ≡ suc (k + n) = omega arith in
    ap (λ m. drop m (replicate (suc k) 0 ++ bytes)) e ∙ drop_zeros k n bytes

padded_length : (bytes : List ℕ) → length bytes < 16 → length (padded_window bytes) ≡ 16
padded_length bytes few = omega (arith, length-append (replicate {A = ℕ} (16 - length bytes) 0) bytes, length-replicate {A = ℕ} (16 - length bytes) 0)

padded_same : (bytes : List ℕ) (size : ℕ) → length bytes < 16 → size ≤ length bytes → last_bytes size (padded_window bytes) ≡ last_bytes size bytes
padded_same bytes size few within =
    let k : ℕ = 16 - length bytes in
    let e : length (padded_window bytes) - size ≡ k + (length bytes - size) = omega (arith, padded_length bytes few) in
    ap (λ m. drop m (padded_window bytes)) e ∙ drop_zeros k (length bytes - size) bytes

padded_small : (bytes : List ℕ) → ((i : ℕ) → Fits w8 (get_or bytes i 0)) → (i : ℕ) → get_or (padded_window bytes) i 0 < 256
padded_small bytes bounds i =
    let k : ℕ = 16 - length bytes in
    let zeros : length (replicate {A = ℕ} k 0) ≡ k = length-replicate k 0 in
    elim (cases_lt i k) [
      | inl before ↦ omega (arith, get_or_append_left (replicate k 0) bytes 0 i (omega arith), get_or-replicate {A = ℕ} k i 0 0 before)
      | inr ge ↦ omega (arith, get_or-append_right (replicate k 0) bytes k i 0 zeros ge, small_of _ (bounds (i - k)))
    ]

pub padded_vector : (bytes : List ℕ) → length bytes < 16 → ((i : ℕ) → Fits w8 (get_or bytes i 0)) → IsVector (padded_window bytes)
padded_vector bytes few bounds = record { long = padded_length bytes few; small = padded_small bytes bounds }

-- what was read of bytes behind zeros
pub read_padded : (r : LaneReader) (bytes window digits : List ℕ) (is_number minus : Bool) → length bytes < 16 → ((i : ℕ) → Fits w8 (get_or bytes i 0)) → window ≡ padded_window bytes
    → (is_number ≡ true → LanesPass r window minus) → (is_number ≡ false → (m : Bool) → LanesPass r window m → ⊥) → AreTaken r window digits → IsLanesRead r bytes is_number minus digits
read_padded r bytes window digits is_number minus few bounds is number nothing taken = record {
  window = window;
  vector = rw is (padded_vector bytes few bounds);
  same = λ size fits within. ap (last_bytes size) is ∙ padded_same bytes size few within;
  number = number;
  nothing = nothing;
  taken = taken;
}

last_vector : (bytes : List ℕ) → 16 ≤ length bytes → ((i : ℕ) → Fits w8 (get_or bytes i 0)) → IsVector (last_bytes 16 bytes)
last_vector bytes many bounds =
    let n : ℕ = length bytes - 16 in
    record { long = omega (arith, length-drop n bytes); small = λ i. omega (arith, get_or-drop n bytes i 0, small_of _ (bounds (n + i))) }

last_same : (bytes : List ℕ) (size : ℕ) → 16 ≤ length bytes → size ≤ 16 → last_bytes size (last_bytes 16 bytes) ≡ last_bytes size bytes
last_same bytes size many fits =
    let n : ℕ = length bytes - 16 in
    let long : length (drop n bytes) ≡ 16 = omega (arith, length-drop n bytes) in
    let e : n + (length (drop n bytes) - size) ≡ length bytes - size = omega arith in
    drop-drop (length (drop n bytes) - size) n bytes ∙ ap (λ m. drop m bytes) e

-- what was read of the last sixteen bytes
pub read_last : (r : LaneReader) (bytes window digits : List ℕ) (is_number minus : Bool) → 16 ≤ length bytes → ((i : ℕ) → Fits w8 (get_or bytes i 0)) → window ≡ last_bytes 16 bytes
    → (is_number ≡ true → LanesPass r window minus) → (is_number ≡ false → (m : Bool) → LanesPass r window m → ⊥) → AreTaken r window digits → IsLanesRead r bytes is_number minus digits
read_last r bytes window digits is_number minus many bounds is number nothing taken = record {
  window = window;
  vector = rw is (last_vector bytes many bounds);
  same = λ size fits within. ap (last_bytes size) is ∙ last_same bytes size many fits;
  number = number;
  nothing = nothing;
  taken = taken;
}

-- what was taken of bytes behind zeros
pub take_padded : (r : LaneReader) (bytes window digits : List ℕ) → length bytes < 16 → ((i : ℕ) → Fits w8 (get_or bytes i 0)) → window ≡ padded_window bytes
    → AreTaken r window digits → AreLanesTaken r bytes digits
take_padded r bytes window digits few bounds is taken = record {
  window = window;
  vector = rw is (padded_vector bytes few bounds);
  same = λ size fits within. ap (last_bytes size) is ∙ padded_same bytes size few within;
  taken = taken;
}

-- what was taken of the last sixteen bytes
pub take_last : (r : LaneReader) (bytes window digits : List ℕ) → 16 ≤ length bytes → ((i : ℕ) → Fits w8 (get_or bytes i 0)) → window ≡ last_bytes 16 bytes
    → AreTaken r window digits → AreLanesTaken r bytes digits
take_last r bytes window digits many bounds is taken = record {
  window = window;
  vector = rw is (last_vector bytes many bounds);
  same = λ size fits within. ap (last_bytes size) is ∙ last_same bytes size many fits;
  taken = taken;
}

-- ---- bytes put behind zeros

pub nothing_more : (xs : List ℕ) → xs ++ [] ≡ xs
nothing_more [] = refl
nothing_more (x ∷ xs) = ap (λ ys. x ∷ ys) (nothing_more xs)

pub put_padded : (bytes put : List ℕ) (k : ℕ) → length bytes < 16 → put ≡ bytes → k ≡ length bytes → put_mid (16 - length bytes) k (replicate 16 0) put ≡ padded_window bytes
put_padded bytes put k few is many =
    let a : ℕ = 16 - length bytes in
    let zeros : List ℕ = replicate 16 0 in
    let whole : List ℕ = put_mid a k zeros put in
    let room : a ≤ length zeros = omega (arith, length-replicate {A = ℕ} 16 0) in
    let front : take 16 whole ≡ take a zeros ++ put = take-put_mid a k zeros put 16 (omega (arith, ap length is)) room in
    let rest : drop 16 whole ≡ drop 16 zeros = drop-put_mid a k zeros put 16 (omega arith) room (omega (arith, ap length is)) in
    let none : drop 16 zeros ≡ [] = refl in
    sym (take-append-drop 16 whole) ∙ ap (λ xs. xs ++ drop 16 whole) front ∙ ap (λ xs. (take a zeros ++ put) ++ xs) (rest ∙ none) ∙ nothing_more (take a zeros ++ put)
    ∙ ap (λ xs. xs ++ put) (take-replicate a 16 0 (omega arith)) ∙ ap (λ xs. replicate a 0 ++ xs) is
