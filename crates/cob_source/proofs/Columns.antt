-- The columns of a line that are kept.
use Rattle.std.proofs.Common.{◌≡◌, ℕ, zero, suc, ◌+◌, ◌-◌, ◌<◌, ◌≤◌, ◌⊎◌, inl, inr, true, List, [], ◌∷◌, ◌++◌, length, get_or, take, drop, replicate, refl, sym, ap, subst, ◌∙◌, append_assoc, arith}
use Rattle.std.specs.Prelude.{Option, None, is_some}
use Rattle.std.specs.List.{AllByRecursion}
use Rattle.std.proofs.lemmas.Bool.{cases_lt}
use Rattle.std.proofs.lemmas.List.{append-nil, length-append, length-replicate, length-drop, take-append-drop, drop-drop, drop_more, drop_all}
use Rattle.cob_source.specs.declared.token.Cell.{Cell}
use Rattle.cob_source.specs.Cuts.{open_from, open_quote}
use Rattle.cob_source.specs.Lines.{filled, cells_from}
use Rattle.cob_source.specs.Words.{ends_quoted}
use Rattle.cob_source.specs.Reading.{IsSpace, LeavesOutSpaces, EndsInSpaces, open_in}
use Rattle.cob_source.proofs.Opens.{IsState, open_state, open_left, open_cells, open_filled, open_from-append}
use Rattle.cob_source.proofs.Trims.{columns_more, length-filled}
use Rattle.cob_source.proofs.Stands.{ends_space}

cells_from-append : (n k : ℕ) (xs ys : List ℕ) → cells_from n k (xs ++ ys) ≡ cells_from n k xs ++ cells_from n (k + length xs) ys
cells_from-append n k [] ys = let e : k + 0 ≡ k = omega arith in rw e refl
cells_from-append n k (x ∷ xs) ys =
    let e : k + length (x ∷ xs) ≡ (k + 1) + length xs = omega arith in
    rw (cells_from-append n (k + 1) xs ys, e) refl

cells_split : (n k i : ℕ) (xs : List ℕ) → cells_from n k xs ≡ cells_from n k (take i xs) ++ cells_from n (k + length (take i xs)) (drop i xs)
cells_split n k i xs = ap (cells_from n k) (sym (take-append-drop i xs)) ∙ cells_from-append n k (take i xs) (drop i xs)

abbrev pub AreSpaces : List ℕ → Type 0
AreSpaces xs = AllByRecursion (λ b. b ≡ 32) xs

cell_spaces : (n k : ℕ) (xs : List ℕ) → AreSpaces xs → AllByRecursion IsSpace (cells_from n k xs)
cell_spaces n k [] all = tt
cell_spaces n k (b ∷ xs) all = (all.0, cell_spaces n (k + 1) xs all.1)

more_spaces : (n : ℕ) (xs : List ℕ) → AreSpaces xs → AreSpaces (drop n xs)
more_spaces zero xs all = all
more_spaces (suc n) [] all = tt
more_spaces (suc n) (x ∷ xs) all = more_spaces n xs all.1

all_replicate : (n : ℕ) → AreSpaces (replicate n 32)
all_replicate zero = tt
all_replicate (suc n) = (refl, all_replicate n)

-- where only spaces are left of a text, only spaces are left where it is filled
filled_spaces : (k : ℕ) (text : List ℕ) (n : ℕ) → AreSpaces (drop k text) → AreSpaces (drop k (text ++ replicate n 32))
filled_spaces zero [] n all = all_replicate n
filled_spaces zero (b ∷ text) n all = (all.0, filled_spaces zero text n all.1)
filled_spaces (suc k) [] n all = more_spaces (suc k) (replicate n 32) (all_replicate n)
filled_spaces (suc k) (b ∷ text) n all = filled_spaces k text n all

-- the columns up to one behind what is written, or behind the first ones
kept_behind : (text : List ℕ) (written skipped end : ℕ) → AreSpaces (drop written text) → written < end → skipped < end → EndsInSpaces text skipped end
kept_behind text written skipped end all w s =
    let k : written + (end - 1 - written) ≡ end - 1 = omega arith in
    inr (
      s,
      subst AreSpaces (drop-drop (end - 1 - written) written (filled text) ∙ ap (λ (j : ℕ). drop j (filled text)) k)
          (more_spaces (end - 1 - written) (drop written (filled text)) (filled_spaces written text (65 - length text) all)),
    )

-- and so where that reaches to column 72 at most
pub kept_by : (text : List ℕ) (written skipped end : ℕ) → AreSpaces (drop written text) → (end < 65 → written < end) → (end < 65 → skipped < end) → end ≤ 65 → EndsInSpaces text skipped end
kept_by text written skipped end all w s le = go (cases_lt end 65)
  where
    go : (end < 65) ⊎ (65 ≤ end) → EndsInSpaces text skipped end
    go (inl lt) = kept_behind text written skipped end all (w lt) (s lt)
    go (inr ge) = inl (omega (arith, le, ge))

all_of : (text : List ℕ) → length text ≤ 65 → length (filled text) ≡ 65
all_of text short = omega (arith, length-append text (replicate (65 - length text) 32), length-replicate {A = ℕ} (65 - length text) 32)

left_none : (text : List ℕ) (skipped end : ℕ) → length text ≤ 65 → end ≡ 65 → drop (end - skipped) (drop skipped (filled text)) ≡ []
left_none text skipped end short e = drop_all (end - skipped) (drop skipped (filled text)) (omega (arith, length-drop skipped (filled text), all_of text short))

last_kept : (text : List ℕ) (skipped end : ℕ) → skipped < end → end ≤ 65 → AreSpaces (drop (end - 1) (filled text)) → (get_or (filled text) (end - 1) 0 ≡ 32) × AreSpaces (drop (end - skipped) (drop skipped (filled text)))
last_kept text skipped end lt le all =
    let xs = filled text in
    let j : end - 1 + 1 ≡ skipped + (end - skipped) = omega arith in
    let first : drop (end - 1) xs ≡ get_or xs (end - 1) 0 ∷ drop (end - 1 + 1) xs = drop_more xs (end - 1) 0 (omega (arith, length-filled text)) in
    let both : AreSpaces (get_or xs (end - 1) 0 ∷ drop (end - 1 + 1) xs) = subst AreSpaces first all in
    (both.0, subst AreSpaces (ap (λ (i : ℕ). drop i xs) j ∙ sym (drop-drop (end - skipped) skipped xs)) both.1)

left_spaces : (text : List ℕ) (skipped end : ℕ) → length text ≤ 65 → end ≤ 65 → EndsInSpaces text skipped end → AreSpaces (drop (end - skipped) (drop skipped (filled text)))
left_spaces text skipped end short le (inl e) = subst AreSpaces (sym (left_none text skipped end short e)) tt
left_spaces text skipped end short le (inr h) = (last_kept text skipped end h.0 le h.1).1

-- the columns that are kept end in a quote where all end in one
ends_kept : (n skipped end k : ℕ) (text : List ℕ) (base new left : List Cell) → length text ≤ 65 → end ≤ 65 → EndsInSpaces text skipped end
    → new ≡ base ++ cells_from n (8 + skipped) (take (end - skipped) (drop skipped (filled text)))
    → left ≡ cells_from n k (drop (end - skipped) (drop skipped (filled text))) → ends_quoted (new ++ left) ≡ ends_quoted new
ends_kept n skipped end k text base new left short le (inl e) is l =
    ap ends_quoted (ap (λ (t : List Cell). new ++ t) (l ∙ ap (cells_from n k) (left_none text skipped end short e)) ∙ append-nil new)
ends_kept n skipped end k text base new left short le (inr h) is l =
    let xs = drop skipped (filled text) in
    let kept = last_kept text skipped end h.0 le h.1 in
    let front = cells_from n (8 + skipped) (take (end - 1 - skipped) xs) in
    let last : Cell = record { line = n; column = end - 1 + 8; byte = get_or (filled text) (end - 1) 0 } in
    let j : end - skipped ≡ end - 1 + 1 - skipped = omega (arith, h.0) in
    let ends : new ≡ (base ++ front) ++ last ∷ [] =
    is ∙ ap (λ (i : ℕ). base ++ cells_from n (8 + skipped) (take i xs)) j
    ∙ ap (λ (t : List Cell). base ++ t) (columns_more n skipped (end - 1) text (end - 1 + 8) (omega (arith, h.0)) (omega (arith, h.0, le)) refl)
    ∙ sym (append_assoc base front (last ∷ [])) in
    let spaces : AllByRecursion IsSpace left = subst (AllByRecursion IsSpace) (sym l) (cell_spaces n k (drop (end - skipped) xs) kept.1) in
    ap (λ (t : List Cell). ends_quoted (t ++ left)) ends ∙ ap ends_quoted (append_assoc (base ++ front) (last ∷ []) left) ∙ ends_space (base ++ front) last left kept.0 spaces
    ∙ sym (ap ends_quoted ends ∙ ends_space (base ++ front) last [] kept.0 tt)

-- a line whose columns are added so far as they are kept
pub record Kept (n skipped : ℕ) (text : List ℕ) (base new : List Cell) (now : Option ℕ) : Type 0 where
  pub stands : LeavesOutSpaces new (base ++ cells_from n (8 + skipped) (drop skipped (filled text)))
  pub open_is : now ≡ open_quote new

pub kept : (n skipped end : ℕ) (text : List ℕ) (base new : List Cell) (q now : Option ℕ) → length text ≤ 65 → end ≤ 65 → EndsInSpaces text skipped end → (is_some now ≡ true → end ≡ 65)
    → new ≡ base ++ cells_from n (8 + skipped) (take (end - skipped) (drop skipped (filled text))) → q ≡ open_quote base → now ≡ open_in q (drop skipped text) → Kept n skipped text base new now
kept n skipped end text base new q now short le ends all is was opens =
    let xs = drop skipped (filled text) in
    let i = end - skipped in
    let k = 8 + skipped + length (take i xs) in
    let left = cells_from n k (drop i xs) in
    let front = cells_from n (8 + skipped) (take i xs) in
    let whole_is : base ++ cells_from n (8 + skipped) xs ≡ new ++ left =
    ap (λ (t : List Cell). base ++ t) (cells_split n (8 + skipped) i xs) ∙ sym (append_assoc base front left) ∙ ap (λ (t : List Cell). t ++ left) (sym is) in
    let spaces : AllByRecursion IsSpace left = cell_spaces n k (drop i xs) (left_spaces text skipped end short le ends) in
    let state : IsState q = subst IsState (sym was) (open_state None base tt) in
    let open_is : now ≡ open_quote new =
    opens ∙ sym (open_filled q skipped text (65 - length text) state) ∙ sym (open_cells q n (8 + skipped) xs) ∙ ap (λ (o : Option ℕ). open_from o (cells_from n (8 + skipped) xs)) was
    ∙ sym (open_from-append None base (cells_from n (8 + skipped) xs)) ∙ ap open_quote whole_is ∙ open_left new left spaces in
    record {
      stands = record {
        left_out = left;
        whole_is = whole_is;
        are_spaces = spaces;
        open_whole = λ h. ap (cells_from n k) (left_none text skipped end short (all (ap is_some open_is ∙ h)));
        ends_same = ap ends_quoted whole_is ∙ ends_kept n skipped end k text base new left short le ends is refl;
      };
      open_is = open_is;
    }
