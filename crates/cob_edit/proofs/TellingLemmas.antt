-- The zeros in front of a number tell where its suppressed places end, in each picture of a number.
use Rattle.std.proofs.Common.{◌≡◌, ℕ, zero, suc, ◌+◌, ◌<◌, ◌≤◌, Bool, true, false, cond, ◌||◌, ◌⊎◌, inl, inr, List, [], ◌∷◌, ◌++◌, length, take, drop, count_by, ◌&&◌, ◌==◌, replicate, Option, Some, None, refl, sym, ap, subst, ◌∙◌, arith, eq-eqb}
use Rattle.std.specs.Prelude.{if◌then◌else◌, nat_le}
use Rattle.std.specs.List.{prefix_len, list_all}
use Rattle.std.proofs.lemmas.Bool.{and_parts, le-leb}
use Rattle.std.proofs.lemmas.List.Sums.{sum_by_more, prefix_len-le-length}
use Rattle.cob_picture.specs.declared.symbol.Symbol.{Symbol}
use Rattle.cob_picture.specs.declared.symbol.Symbol.TheVariants as sy
use Rattle.cob_picture.specs.declared.category.Category.{Category}
use Rattle.cob_picture.specs.declared.category.Category.TheVariants.{Alphabetic, Numeric, Alphanumeric, AlphanumericEdited, NumericEdited}
use Rattle.cob_picture.specs.declared.edited.SymbolKind.{SymbolKind}
use Rattle.cob_picture.specs.declared.edited.SymbolKind.TheVariants.{OfRun, OfInsertion, OfNine, OfPoint, OfSign, OfCurrency, OfCredit, OfNone}
use Rattle.cob_picture.specs.declared.edited.EditedPart.{EditedPart}
use Rattle.cob_picture.specs.declared.edited.EditedPart.TheVariants.{Lead, Currency, Front, Whole}
use Rattle.cob_picture.specs.Positions.{is, is_that, symbol_count, floating, settled_role, role_at, positions_from, positions, shows_number}
use Rattle.cob_picture.specs.Edited.{run_symbol, settled_kind, symbol_kind, belongs, AreOf, edited_symbols, IsNumericEdited}
use Rattle.cob_picture.specs.declared.numeric.NumericParts.{NumericParts}
use Rattle.cob_picture.specs.Numeric.{numeric_symbols}
use Rattle.cob_picture.specs.Pictures.{IsPicture}
use Rattle.cob_edit.specs.declared.place.EditedPlace.{EditedPlace}
use Rattle.cob_edit.specs.declared.place.EditedPlace.TheVariants.{Inserted, Point, Digit, Suppressed, Floating, First, Fixed, AssumedPoint}
use Rattle.cob_edit.specs.Places.{is_digit, is_run, is_run_or_insertion}
use Rattle.cob_edit.specs.Editing.{place_at, region_start, region_end}
use Rattle.cob_edit.specs.Pictured.{places, position_places}
use Rattle.cob_edit.specs.Rows.{zeros_tell}
use Rattle.cob_edit.proofs.RegionLemmas.{is_still, has_region}
use Rattle.cob_edit.proofs.EditedLemmas.{Agree, HasNoRun, agree, front_symbol, here, insertion_here, no_run-cons, no_run-nil, no_run-point, placed_from, point_no_run, quiet_no_run, run_here, start_behind, start_here}

-- there is no region, or no digit stands before it
abbrev Tell : List EditedPlace → Type 0
Tell ps = (region_end ps ≤ region_start ps) ⊎ ((j : ℕ) → j < region_start ps → is_digit (place_at ps j) ≡ false)

none_before : (ps : List EditedPlace) (n : ℕ) → n ≤ length ps → ((j : ℕ) → j < n → is_digit (place_at ps j) ≡ false) → count_by is_digit (take n ps) ≡ 0
none_before ps zero le none = refl
none_before ps (suc n) le none =
    let next : suc n ≡ n + 1 = omega arith in
    let more : count_by is_digit (take (n + 1) ps) ≡ count_by is_digit (take n ps) + cond {A = ℕ} (is_digit (place_at ps n)) 1 0 = sum_by_more (λ x. cond (is_digit x) 1 0) ps n (Inserted 0) (omega arith) in
    let here_none : cond {A = ℕ} (is_digit (place_at ps n)) 1 0 ≡ 0 = ap (λ b. cond {A = ℕ} b 1 0) (none n (omega arith)) in
    ap (λ k. count_by is_digit (take k ps)) next ∙ omega (arith, more, here_none, none_before ps n (omega arith) (λ j lt. none j (omega arith)))

second_true : (a b : Bool) → b ≡ true → (a || b) ≡ true
second_true true b e = refl
second_true false b e = e

told : (ps : List EditedPlace) → Tell ps → zeros_tell ps ≡ true
told ps t =
    elim t [
      | inl none ↦ ap (λ b. b || zeros_before) (le-leb _ _ none)
      | inr none ↦
          let inside : region_start ps ≤ length ps = prefix_len-le-length is_still ps in
          second_true (nat_le (region_end ps) (region_start ps)) zeros_before (eq-eqb _ _ (none_before ps (region_start ps) inside none))
    ]
  where
    zeros_before : Bool
    zeros_before = count_by is_digit (take (region_start ps) ps) == 0

-- ---- places, one before others

tell-none : (ps : List EditedPlace) → HasNoRun ps → Tell ps
tell-none ps none = inl (omega (arith, (has_region ps (λ j h. absurd (none j h))).none none))

-- a place that is neither of the run nor a point, and no digit
abbrev is_bare : EditedPlace → Bool
is_bare (Inserted b) = true
is_bare (Fixed m) = true
is_bare Digit = false
is_bare Point = false
is_bare (Suppressed f) = false
is_bare Floating = false
is_bare (First m) = false
is_bare AssumedPoint = false

bare_still : (p : EditedPlace) → is_bare p ≡ true → is_still p ≡ true
bare_still (Inserted b) h = refl
bare_still (Fixed m) h = refl
bare_still Digit h = absurd (cc)
bare_still Point h = absurd (cc)
bare_still (Suppressed f) h = absurd (cc)
bare_still Floating h = absurd (cc)
bare_still (First m) h = absurd (cc)
bare_still AssumedPoint h = absurd (cc)

bare_none : (p : EditedPlace) → is_bare p ≡ true → is_digit p ≡ false
bare_none (Inserted b) h = refl
bare_none (Fixed m) h = refl
bare_none Digit h = absurd (cc)
bare_none Point h = refl
bare_none (Suppressed f) h = absurd (cc)
bare_none Floating h = absurd (cc)
bare_none (First m) h = refl
bare_none AssumedPoint h = refl

tell-cons : (p : EditedPlace) (ps : List EditedPlace) → is_bare p ≡ true → Tell ps → Tell (p ∷ ps)
tell-cons p ps bare t =
    let start = start_behind p ps (bare_still p bare) in
    let rest : prefix_len is_run_or_insertion (drop (region_start (p ∷ ps)) (p ∷ ps)) ≡ prefix_len is_run_or_insertion (drop (region_start ps) ps) =
    ap (λ n. prefix_len is_run_or_insertion (drop n (p ∷ ps))) start in
    elim t [
      | inl none ↦ inl (omega (arith, start, rest, none))
      | inr none ↦ inr (λ j lt. at j (omega (arith, start, lt)) none)
    ]
  where
    at : (j : ℕ) → j < suc (region_start ps) → ((i : ℕ) → i < region_start ps → is_digit (place_at ps i) ≡ false) → is_digit (place_at (p ∷ ps) j) ≡ false
    at zero lt none = bare_none p bare
    at (suc j) lt none = none j (omega arith)

tell-run : (p : EditedPlace) (ps : List EditedPlace) → is_run p ≡ true → Tell (p ∷ ps)
tell-run p ps run = inr (λ j lt. absurd (omega (arith, start_here p ps run, lt)))

tell-append : (a ps : List EditedPlace) → list_all is_bare a ≡ true → Tell ps → Tell (a ++ ps)
tell-append [] ps all t = t
tell-append (p ∷ a) ps all t = tell-cons p (a ++ ps) (and_parts (is_bare p) (list_all is_bare a) all).0 (tell-append a ps (and_parts (is_bare p) (list_all is_bare a) all).1 t)

-- ---- numeric edited pictures, part by part

-- the parts before the run
abbrev is_lead : EditedPart → SymbolKind → Bool
is_lead part OfSign = true
is_lead part OfCurrency = true
is_lead part OfRun = false
is_lead part OfInsertion = false
is_lead part OfNine = false
is_lead part OfPoint = false
is_lead part OfCredit = false
is_lead part OfNone = false

lead_kind : (part : EditedPart) (k : SymbolKind) → (part ≡ Lead) ⊎ (part ≡ Currency) → belongs part k ≡ true → is_lead part k ≡ true
lead_kind part k which e = elim which [ inl l ↦ lead k (ap (λ p. belongs p k) (sym l) ∙ e) | inr m ↦ money k (ap (λ p. belongs p k) (sym m) ∙ e) ]
  where
    lead : (k : SymbolKind) → belongs Lead k ≡ true → is_lead part k ≡ true
    lead OfSign e = refl
    lead OfCurrency e = refl
    lead OfRun e = e
    lead OfInsertion e = e
    lead OfNine e = e
    lead OfPoint e = e
    lead OfCredit e = e
    lead OfNone e = e

    money : (k : SymbolKind) → belongs Currency k ≡ true → is_lead part k ≡ true
    money OfSign e = refl
    money OfCurrency e = refl
    money OfRun e = e
    money OfInsertion e = e
    money OfNine e = e
    money OfPoint e = e
    money OfCredit e = e
    money OfNone e = e

settled_bare : (part : EditedPart) (s : Symbol) → is_lead part (settled_kind s) ≡ true → list_all is_bare (position_places (settled_role NumericEdited s) s) ≡ true
settled_bare part sy.A h = refl
settled_bare part sy.X h = refl
settled_bare part sy.Nine h = h
settled_bare part sy.S h = refl
settled_bare part sy.V h = h
settled_bare part sy.P h = refl
settled_bare part sy.B h = refl
settled_bare part sy.Zero h = refl
settled_bare part sy.Slash h = refl
settled_bare part sy.Comma h = refl
settled_bare part sy.Point h = h
settled_bare part sy.Z h = h
settled_bare part sy.Star h = h
settled_bare part sy.Dollar h = refl
settled_bare part sy.Plus h = refl
settled_bare part sy.Minus h = refl
settled_bare part sy.Credit h = refl
settled_bare part sy.Debit h = refl

lead_here : (part : EditedPart) (f q : Option Symbol) (seen : Bool) (s : Symbol) → Agree f q → (part ≡ Lead) ⊎ (part ≡ Currency) → belongs part (symbol_kind q s) ≡ true → list_all is_bare (here f seen s) ≡ true
lead_here part f q seen s agree which e = at (is_that q s) refl e
  where
    at : (b : Bool) → is_that q s ≡ b → belongs part (if b then OfRun else settled_kind s) ≡ true → list_all is_bare (here f seen s) ≡ true
    at false out k = ap (λ b. list_all is_bare (position_places (role_at NumericEdited b seen s) s)) (agree.outside s out) ∙ settled_bare part s (lead_kind part (settled_kind s) which k)
    at true run k = let no : false ≡ true = lead_kind part OfRun which k in absurd (cc)

lead_tell : (part : EditedPart) (f q : Option Symbol) (xs ys : List Symbol) → Agree f q → (part ≡ Lead) ⊎ (part ≡ Currency) → AreOf part q xs → ((seen : Bool) → Tell (placed_from f seen ys)) → (seen : Bool) → Tell (placed_from f seen (xs ++ ys))
lead_tell part f q [] ys agree which all rest seen = rest seen
lead_tell part f q (s ∷ xs) ys agree which all rest seen = tell-append (here f seen s) (placed_from f (seen || is_that f s) (xs ++ ys)) (lead_here part f q seen s agree which all.0) (lead_tell part f q xs ys agree which all.1 rest (seen || is_that f s))

front_tell : (f q : Option Symbol) (xs ys : List Symbol) → Agree f q → AreOf Front q xs → ((seen : Bool) → HasNoRun (placed_from f seen ys)) → (seen : Bool) → Tell (placed_from f seen (xs ++ ys))
front_tell f q [] ys agree all rest seen = tell-none (placed_from f seen ys) (rest seen)
front_tell f q (s ∷ xs) ys agree all rest seen =
    let more : List EditedPlace = placed_from f (seen || is_that f s) (xs ++ ys) in
    elim (front_symbol q s all.0) [
      | inl run ↦
          let one = run_here f q seen s agree run in
          subst (λ a. Tell (a ++ more)) (sym one.2) (tell-run one.0 more one.1)
      | inr out ↦
          let one = insertion_here f q seen s agree out.0 out.1 in
          subst (λ a. Tell (a ++ more)) (sym one.1) (tell-cons (Inserted one.0) more refl (front_tell f q xs ys agree all.1 rest (seen || is_that f s)))
    ]

edited_tell : (xs : List Symbol) → IsNumericEdited xs → Tell (places (positions NumericEdited xs))
edited_tell xs h =
    let f = floating xs in
    let q = run_symbol xs in
    let e = h.parts in
    let t5 = e.point ++ (e.fraction ++ e.trail) in
    let t4 = e.whole ++ t5 in
    let t3 = e.front ++ t4 in
    let t2 = e.currency ++ t3 in
    let no : (seen : Bool) → HasNoRun (placed_from f seen t5) = point_no_run f q e.point e.fraction e.trail (agree xs) h.kinds.point h.kinds.trail h.allowed.single.fraction in
    let none : (seen : Bool) → HasNoRun (placed_from f seen t4) = quiet_no_run Whole f q e.whole t5 (agree xs) refl h.kinds.whole no in
    let front : (seen : Bool) → Tell (placed_from f seen t3) = front_tell f q e.front t4 (agree xs) h.kinds.front none in
    let money : (seen : Bool) → Tell (placed_from f seen t2) = lead_tell Currency f q e.currency t3 (agree xs) (inr refl) h.kinds.currency front in
    let all : Tell (placed_from f false (edited_symbols e)) = lead_tell Lead f q e.lead t2 (agree xs) (inl refl) h.kinds.lead money false in
    subst (λ ys. Tell (placed_from f false ys)) (sym h.written) all

-- ---- numeric pictures

abbrev is_numeric_symbol : Symbol → Bool
is_numeric_symbol sy.S = true
is_numeric_symbol sy.Nine = true
is_numeric_symbol sy.V = true
is_numeric_symbol sy.P = true
is_numeric_symbol _ = false

all_of : (n : ℕ) (s : Symbol) (xs : List Symbol) → is_numeric_symbol s ≡ true → list_all is_numeric_symbol xs ≡ true → list_all is_numeric_symbol (replicate n s ++ xs) ≡ true
all_of zero s xs is all = all
all_of (suc n) s xs is all = ap (λ b. b && list_all is_numeric_symbol (replicate n s ++ xs)) is ∙ all_of n s xs is all

numeric_all : (n : NumericParts) → list_all is_numeric_symbol (numeric_symbols n) ≡ true
numeric_all n =
    all_of n.signs sy.S _ refl (all_of n.points sy.V _ refl (all_of n.left sy.P _ refl (all_of n.nines sy.Nine _ refl (all_of n.right sy.P _ refl (all_of n.after sy.V _ refl (last n.fraction))))))
  where
    last : (k : ℕ) → list_all is_numeric_symbol (replicate k sy.Nine) ≡ true
    last zero = refl
    last (suc k) = last k

-- no symbol of a numeric picture floats
abbrev FloatsNone : Option Symbol → Type 0
FloatsNone f = (s : Symbol) → is_numeric_symbol s ≡ true → is_that f s ≡ false

no_dollar : FloatsNone (Some sy.Dollar)
no_dollar sy.A is = absurd (cc)
no_dollar sy.X is = absurd (cc)
no_dollar sy.Nine is = refl
no_dollar sy.S is = refl
no_dollar sy.V is = refl
no_dollar sy.P is = refl
no_dollar sy.B is = absurd (cc)
no_dollar sy.Zero is = absurd (cc)
no_dollar sy.Slash is = absurd (cc)
no_dollar sy.Comma is = absurd (cc)
no_dollar sy.Point is = absurd (cc)
no_dollar sy.Z is = absurd (cc)
no_dollar sy.Star is = absurd (cc)
no_dollar sy.Dollar is = absurd (cc)
no_dollar sy.Plus is = absurd (cc)
no_dollar sy.Minus is = absurd (cc)
no_dollar sy.Credit is = absurd (cc)
no_dollar sy.Debit is = absurd (cc)

no_plus : FloatsNone (Some sy.Plus)
no_plus sy.A is = absurd (cc)
no_plus sy.X is = absurd (cc)
no_plus sy.Nine is = refl
no_plus sy.S is = refl
no_plus sy.V is = refl
no_plus sy.P is = refl
no_plus sy.B is = absurd (cc)
no_plus sy.Zero is = absurd (cc)
no_plus sy.Slash is = absurd (cc)
no_plus sy.Comma is = absurd (cc)
no_plus sy.Point is = absurd (cc)
no_plus sy.Z is = absurd (cc)
no_plus sy.Star is = absurd (cc)
no_plus sy.Dollar is = absurd (cc)
no_plus sy.Plus is = absurd (cc)
no_plus sy.Minus is = absurd (cc)
no_plus sy.Credit is = absurd (cc)
no_plus sy.Debit is = absurd (cc)

no_minus : FloatsNone (Some sy.Minus)
no_minus sy.A is = absurd (cc)
no_minus sy.X is = absurd (cc)
no_minus sy.Nine is = refl
no_minus sy.S is = refl
no_minus sy.V is = refl
no_minus sy.P is = refl
no_minus sy.B is = absurd (cc)
no_minus sy.Zero is = absurd (cc)
no_minus sy.Slash is = absurd (cc)
no_minus sy.Comma is = absurd (cc)
no_minus sy.Point is = absurd (cc)
no_minus sy.Z is = absurd (cc)
no_minus sy.Star is = absurd (cc)
no_minus sy.Dollar is = absurd (cc)
no_minus sy.Plus is = absurd (cc)
no_minus sy.Minus is = absurd (cc)
no_minus sy.Credit is = absurd (cc)
no_minus sy.Debit is = absurd (cc)

floats_none : (a b d : Bool) → FloatsNone (if a then Some sy.Dollar else (if b then Some sy.Plus else (if d then Some sy.Minus else None)))
floats_none true b d = no_dollar
floats_none false true d = no_plus
floats_none false false true = no_minus
floats_none false false false = λ s is. refl

symbol_no_run : (s : Symbol) (more : List EditedPlace) → is_numeric_symbol s ≡ true → HasNoRun more → HasNoRun (position_places (settled_role Numeric s) s ++ more)
symbol_no_run sy.A more is none = absurd (cc)
symbol_no_run sy.X more is none = absurd (cc)
symbol_no_run sy.Nine more is none = no_run-cons Digit more refl none
symbol_no_run sy.S more is none = none
symbol_no_run sy.V more is none = no_run-point AssumedPoint more refl
symbol_no_run sy.P more is none = none
symbol_no_run sy.B more is none = absurd (cc)
symbol_no_run sy.Zero more is none = absurd (cc)
symbol_no_run sy.Slash more is none = absurd (cc)
symbol_no_run sy.Comma more is none = absurd (cc)
symbol_no_run sy.Point more is none = absurd (cc)
symbol_no_run sy.Z more is none = absurd (cc)
symbol_no_run sy.Star more is none = absurd (cc)
symbol_no_run sy.Dollar more is none = absurd (cc)
symbol_no_run sy.Plus more is none = absurd (cc)
symbol_no_run sy.Minus more is none = absurd (cc)
symbol_no_run sy.Credit more is none = absurd (cc)
symbol_no_run sy.Debit more is none = absurd (cc)

numeric_no_run : (f : Option Symbol) (xs : List Symbol) → FloatsNone f → list_all is_numeric_symbol xs ≡ true → (seen : Bool) → HasNoRun (places (positions_from Numeric f seen xs))
numeric_no_run f [] none all seen = no_run-nil
numeric_no_run f (s ∷ xs) none all seen =
    let parts = and_parts (is_numeric_symbol s) (list_all is_numeric_symbol xs) all in
    let more : List EditedPlace = places (positions_from Numeric f (seen || is_that f s) xs) in
    subst (λ b. HasNoRun (position_places (role_at Numeric b seen s) s ++ more)) (sym (none s parts.0))
    (symbol_no_run s more parts.0 (numeric_no_run f xs none parts.1 (seen || is_that f s)))

numeric_tell : (xs : List Symbol) (n : NumericParts) → xs ≡ numeric_symbols n → Tell (places (positions Numeric xs))
numeric_tell xs n is =
    tell-none (places (positions Numeric xs)) (numeric_no_run (floating xs) xs
    (floats_none (nat_le 2 (symbol_count sy.Dollar xs)) (nat_le 2 (symbol_count sy.Plus xs)) (nat_le 2 (symbol_count sy.Minus xs)))
    (ap (λ ys. list_all is_numeric_symbol ys) is ∙ numeric_all n) false)

-- ---- pictures

pub pictures_tell : (c : Category) (xs : List Symbol) → IsPicture c xs → shows_number c ≡ true → zeros_tell (places (positions c xs)) ≡ true
pictures_tell Numeric xs p shows = let (n, kinds, is) = p.order in told (places (positions Numeric xs)) (numeric_tell xs n is)
pictures_tell NumericEdited xs p shows = told (places (positions NumericEdited xs)) (edited_tell xs p.order)
pictures_tell Alphabetic xs p shows = absurd (cc)
pictures_tell Alphanumeric xs p shows = absurd (cc)
pictures_tell AlphanumericEdited xs p shows = absurd (cc)
