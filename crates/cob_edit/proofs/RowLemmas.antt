-- Lemmas on rows.
use Rattle.std.proofs.Common.{cond, count_by, ◌≡◌, ℕ, ◌+◌, ◌<◌, ◌≤◌, ◌==◌, List, [], ◌∷◌, length, take, drop, get_or, refl, ap, sym, ◌∙◌, arith, Bool, true, false, ◌&&◌, inl, inr, zero, suc, IsTrue, MatchBool, subst, append_assoc, ◌++◌, ◌↔◌, eqb-true, eqb, ltb, ltb-true, lt-ltb}
use Rattle.std.proofs.lemmas.Bool.{cases_lt}
use Rattle.std.proofs.lemmas.List.{drop_more, drop_all, append-nil, map-append, length-append}
use Rattle.std.proofs.lemmas.List.Sums.{prefix_len_passes, prefix_len_stops, prefix_len-le-length, sum_by_more, sum_by-drop_more}
use Rattle.std.proofs.lemmas.List.Folds.{list_all_at}
use Rattle.std.specs.List.{prefix_len, flat_map}
use Rattle.cob_decimal.specs.Decimal.{IsDigits, number_of}
use Rattle.cob_picture.specs.Positions.{PlainPicture}
use Rattle.cob_picture.specs.Counts.{digits, scale}
use Rattle.cob_edit.proofs.EditingLemmas.{digit_inside}
use Rattle.cob_edit.proofs.PicturedLemmas.{kept_value, not_zero, some_number}
use Rattle.cob_edit.specs.declared.cell.TextCell.{TextCell}
use Rattle.cob_edit.specs.Rows.{cell_byte, row_bytes}
use Rattle.cob_edit.specs.Pictured.{places, IsEdited}
use Rattle.cob_edit.specs.declared.place.EditedPlace.{EditedPlace}
use Rattle.cob_edit.specs.declared.place.EditedPlace.TheVariants.{Inserted}
use Rattle.cob_edit.specs.Places.{is_digit, has_byte}
use Rattle.cob_edit.specs.Editing.{region_start, region_end, place_at, IsSuppressedTo, printed, empty_cell, has_stars, are_zero, shows_nothing, shows_sign, IsText}

-- ---- zeros in front

zeros_step : (t : Bool) (p n : ℕ) (r : Bool) → cond t (1 + p) 0 ≡ suc n → (p ≡ n → r ≡ true) → (t && r) ≡ true
zeros_step true p n r e h = h (omega arith)
zeros_step false p n r e h = absurd (omega arith)

pub all_zeros : (ds : List ℕ) → prefix_len (λ d. d == 0) ds ≡ length ds → are_zero ds ≡ true
all_zeros [] e = refl
all_zeros (d ∷ ds) e = zeros_step (d == 0) (prefix_len (λ d. d == 0) ds) (length ds) (are_zero ds) e (all_zeros ds)

pub not_all_zeros : (ds : List ℕ) → prefix_len (λ d. d == 0) ds < length ds → are_zero ds ≡ false
not_all_zeros ds lt = list_all_at (λ d. d == 0) ds (prefix_len (λ d. d == 0) ds) 0 lt (prefix_len_stops (λ d. d == 0) ds 0 lt)

pub zero_before : (ds : List ℕ) (k : ℕ) → k < prefix_len (λ d. d == 0) ds → get_or ds k 0 ≡ 0
zero_before ds k lt = eqb-true _ _ (prefix_len_passes (λ d. d == 0) ds k 0 lt)

pub some_at : (ds : List ℕ) → prefix_len (λ d. d == 0) ds < length ds → 0 < get_or ds (prefix_len (λ d. d == 0) ds) 0
some_at ds lt = positive _ (prefix_len_stops (λ d. d == 0) ds 0 lt)
  where
    positive : (x : ℕ) → eqb x 0 ≡ false → 0 < x
    positive zero e = absurd cc
    positive (suc x) e = omega arith

-- ---- the text

pub text_empty : (ps : List EditedPlace) (blank negative : Bool) (ds bytes : List ℕ) → shows_nothing ps blank ds ≡ true → bytes ≡ flat_map (empty_cell (has_stars ps blank)) ps → IsText ps blank negative ds bytes
text_empty ps blank negative ds bytes e is =
    subst (λ b. MatchBool b (bytes ≡ flat_map (empty_cell (has_stars ps blank)) ps) ((k : ℕ) × IsSuppressedTo ps ds k × (bytes ≡ printed ps ds negative k 0 ps))) (sym e) is

pub text_shown : (ps : List EditedPlace) (blank negative : Bool) (ds bytes : List ℕ) (k : ℕ) → shows_nothing ps blank ds ≡ false → IsSuppressedTo ps ds k → bytes ≡ printed ps ds negative k 0 ps → IsText ps blank negative ds bytes
text_shown ps blank negative ds bytes k e cut is =
    subst (λ b. MatchBool b (bytes ≡ flat_map (empty_cell (has_stars ps blank)) ps) ((k : ℕ) × IsSuppressedTo ps ds k × (bytes ≡ printed ps ds negative k 0 ps))) (sym e) (k, cut, is)

-- ---- the cut

-- what a place adds to the digits before
pub digits_more : (ps : List EditedPlace) (at : ℕ) → at < length ps → count_by is_digit (take (at + 1) ps) ≡ count_by is_digit (take at ps) + cond {A = ℕ} (is_digit (place_at ps at)) 1 0
digits_more ps at lt = sum_by_more (λ x. cond (is_digit x) 1 0) ps at (Inserted 0) lt

pub one_digit : (b : Bool) (n : ℕ) → n < cond {A = ℕ} b 1 0 → (b ≡ true) × (n ≡ 0)
one_digit true n lt = (refl, omega arith)
one_digit false n lt = absurd (omega arith)

pub one_is : (b : Bool) → IsTrue b → cond {A = ℕ} b 1 0 ≡ 1
one_is true h = refl
one_is false h = absurd (cc)

-- the cut where a digit that isn't 0 stands
pub cut_here : (ps : List EditedPlace) (ds : List ℕ) (at front_zeros : ℕ) → region_start ps ≤ at → at < region_end ps → at < length ps
    → count_by is_digit (take at ps) ≡ front_zeros → IsTrue (is_digit (place_at ps at))
    → ((j : ℕ) → j < at → region_start ps ≤ j → IsTrue (is_digit (place_at ps j)) → count_by is_digit (take j ps) < front_zeros)
    → length ds ≡ count_by is_digit ps → prefix_len (λ d. d == 0) ds ≡ front_zeros → IsSuppressedTo ps ds at
cut_here ps ds at front_zeros low high inside count digit before long front =
    let some : count_by is_digit (take at ps) < count_by is_digit ps = digit_inside ps at inside digit in
    let less : prefix_len (λ d. d == 0) ds < length ds = omega arith in
    let there : 0 < get_or ds (count_by is_digit (take at ps)) 0 = subst (λ k. 0 < get_or ds k 0) (front ∙ sym count) (some_at ds less) in
    record {
      from = low;
      to = omega arith;
      zeros = λ j from lt is. zero_before ds (count_by is_digit (take j ps)) (omega (arith, before j lt from is));
      stop = inr (digit, there);
    }

-- the cut at the end of the region
pub cut_end : (ps : List EditedPlace) (ds : List ℕ) (front_zeros : ℕ) → region_start ps ≤ region_end ps
    → ((j : ℕ) → j < region_end ps → region_start ps ≤ j → IsTrue (is_digit (place_at ps j)) → count_by is_digit (take j ps) < front_zeros)
    → prefix_len (λ d. d == 0) ds ≡ front_zeros → IsSuppressedTo ps ds (region_end ps)
cut_end ps ds front_zeros order before front = record {
  from = order;
  to = omega arith;
  zeros = λ j from lt is. zero_before ds (count_by is_digit (take j ps)) (omega (arith, before j lt from is));
  stop = inl refl;
}

-- ---- the text of a number

-- a minus shows where the number is negative, the places tell the sign, and something is left
shown_minus : (negative tells left : Bool) (n : ℕ) → IsTrue left ↔ (0 < n) → IsTrue (negative && (left && tells)) ↔ (IsTrue negative × IsTrue tells × (0 < n))
shown_minus true true true n h = (λ e. (refl, refl, h.0 refl), λ t. refl)
shown_minus true true false n h = (λ e. absurd (cc), λ t. h.1 t.2)
shown_minus true false true n h = (λ e. absurd (cc), λ t. t.1)
shown_minus true false false n h = (λ e. absurd (cc), λ t. t.1)
shown_minus false tells left n h = (λ e. absurd (cc), λ t. t.0)

-- a number is left where not all digits are zeros in front
some_left : (ds : List ℕ) → IsTrue (ltb (prefix_len (λ d. d == 0) ds) (length ds)) ↔ (0 < number_of ds)
some_left ds = (
  λ e. some_number ds (not_all_zeros ds (ltb-true _ _ e)),
  λ some. elim (cases_lt (prefix_len (λ d. d == 0) ds) (length ds)) [
    | inl lt ↦ lt-ltb _ _ lt
    | inr ge ↦
        let all : prefix_len (λ d. d == 0) ds ≡ length ds = omega (arith, prefix_len-le-length (λ d. d == 0) ds) in
        let zero : are_zero ds ≡ true = all_zeros ds all in
        let other : are_zero ds ≡ false = not_zero ds some in
        absurd (cc)
  ],
)

-- a row's bytes are the text of each number that has the zeros in front
pub row_edited : (p : PlainPicture) (blank negative shows : Bool) (ds bytes : List ℕ) (ps : List EditedPlace) (n front : ℕ) → ps ≡ places p.positions → IsDigits ds → length ds ≡ digits p.positions → n ≡ digits p.positions
    → prefix_len (λ d. d == 0) ds ≡ front → shows ≡ (ltb front n && shows_sign ps) → IsText ps blank (negative && shows) ds bytes → IsEdited p blank negative ds (scale p.positions) bytes
row_edited p blank negative shows ds bytes ps n front same valid count many zeros is text =
    let told : shows ≡ (ltb (prefix_len (λ d. d == 0) ds) (length ds) && shows_sign (places p.positions)) =
    is ∙ ap (λ k. ltb k n && shows_sign ps) (sym zeros) ∙ ap (λ k. ltb (prefix_len (λ d. d == 0) ds) k && shows_sign ps) (many ∙ sym count) ∙ ap (λ qs. ltb (prefix_len (λ d. d == 0) ds) (length ds) && shows_sign qs) same in
    let sign = shown_minus negative (shows_sign (places p.positions)) (ltb (prefix_len (λ d. d == 0) ds) (length ds)) (number_of ds) (some_left ds) in
    record {
      kept = ds;
      minus = negative && shows;
      valid = valid;
      count = count;
      value = sym (kept_value p ds valid count);
      sign = subst (λ b. IsTrue (negative && b) ↔ (IsTrue negative × IsTrue (shows_sign (places p.positions)) × (0 < number_of ds))) (sym told) sign;
      text = subst (λ qs. IsText qs blank (negative && shows) ds bytes) same text;
    }

-- one more place of a row
pub row_more : (ds : List ℕ) (negative : Bool) (row more new : List TextCell) (show : EditedPlace → List ℕ) (ps : List EditedPlace) (at : ℕ) (all : List ℕ) → at < length ps → row_bytes ds negative row ++ flat_map show (drop at ps) ≡ all
    → new ≡ row ++ more → row_bytes ds negative more ≡ show (place_at ps at) → row_bytes ds negative new ++ flat_map show (drop (at + 1) ps) ≡ all
row_more ds negative row more new show ps at all inside so_far is here =
    ap (λ xs. row_bytes ds negative xs ++ flat_map show (drop (at + 1) ps)) is
    ∙ ap (λ xs. xs ++ flat_map show (drop (at + 1) ps)) (map-append (cell_byte ds negative) row more)
    ∙ append_assoc (row_bytes ds negative row) (row_bytes ds negative more) (flat_map show (drop (at + 1) ps))
    ∙ ap (λ xs. row_bytes ds negative row ++ (xs ++ flat_map show (drop (at + 1) ps))) here
    ∙ ap (λ rest. row_bytes ds negative row ++ flat_map show rest) (sym (drop_more ps at (Inserted 0) inside))
    ∙ so_far

pub row_done : (bytes : List ℕ) (show : EditedPlace → List ℕ) (ps : List EditedPlace) (at : ℕ) (all : List ℕ) → length ps ≤ at → bytes ++ flat_map show (drop at ps) ≡ all → bytes ≡ all
row_done bytes show ps at all past so_far = sym (append-nil bytes) ∙ ap (λ rest. bytes ++ flat_map show rest) (sym (drop_all at ps past)) ∙ so_far

pub room_more : (row more new : List TextCell) (ps : List EditedPlace) (at all : ℕ) → at < length ps → length row + count_by has_byte (drop at ps) ≡ all → new ≡ row ++ more → length more ≡ cond {A = ℕ} (has_byte (place_at ps at)) 1 0
    → length new + count_by has_byte (drop (at + 1) ps) ≡ all
room_more row more new ps at all inside so_far is one =
    let long : length new ≡ length row + length more = ap length is ∙ length-append row more in
    let rest : count_by has_byte (drop at ps) ≡ cond {A = ℕ} (has_byte (place_at ps at)) 1 0 + count_by has_byte (drop (at + 1) ps) = sum_by-drop_more (λ p. cond (has_byte p) 1 0) ps at (Inserted 0) inside in
    omega (arith, long, rest, one, so_far)
