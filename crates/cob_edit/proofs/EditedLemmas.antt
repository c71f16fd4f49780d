-- Lemmas on numeric edited pictures: their symbols, part by part, have the region of their run and show their sign.
use Rattle.std.proofs.Common.{◌≡◌, ℕ, zero, suc, ◌+◌, ◌<◌, Bool, true, false, cond, ◌||◌, ◌⊎◌, inl, inr, List, [], ◌∷◌, ◌++◌, length, drop, Option, Some, None, refl, sym, ap, subst, ◌∙◌, arith}
use Rattle.std.specs.Prelude.{if◌then◌else◌, nat_le}
use Rattle.std.specs.List.{prefix_len, list_any, list_all}
use Rattle.std.proofs.lemmas.Bool.{and_parts, true≢false}
use Rattle.std.proofs.lemmas.List.{append-nil}
use Rattle.std.proofs.lemmas.List.Folds.{list_any-append}
use Rattle.cob_picture.specs.declared.symbol.Symbol.{Symbol}
use Rattle.cob_picture.specs.declared.symbol.Symbol.TheVariants as sy
use Rattle.cob_picture.specs.declared.category.Category.TheVariants.{NumericEdited}
use Rattle.cob_picture.specs.declared.edited.SymbolKind.{SymbolKind}
use Rattle.cob_picture.specs.declared.edited.SymbolKind.TheVariants.{OfRun, OfInsertion, OfNine, OfPoint, OfSign, OfCurrency, OfCredit, OfNone}
use Rattle.cob_picture.specs.declared.edited.EditedPart.{EditedPart}
use Rattle.cob_picture.specs.declared.edited.EditedPart.TheVariants.{Lead, Currency, Front, Whole, PointPart, Fraction, Trail}
use Rattle.cob_picture.specs.Positions.{is, is_that, symbol_count, floating, settled_role, role_at, positions_from, positions}
use Rattle.cob_picture.specs.Counts.{is_sign_symbol, signed}
use Rattle.cob_picture.specs.Edited.{run_symbol, is_sign_run, is_floating_run, settled_kind, symbol_kind, belongs, AreOf, edited_symbols, IsNumericEdited}
use Rattle.cob_edit.specs.declared.place.EditedPlace.{EditedPlace}
use Rattle.cob_edit.specs.declared.place.EditedPlace.TheVariants.{Inserted, Point, Digit, Suppressed, Floating, First, Fixed, AssumedPoint}
use Rattle.cob_edit.specs.Places.{is_run, is_run_or_insertion, is_point_place, is_fixed_sign, is_floating_sign, tells}
use Rattle.cob_picture.specs.Categories.{IsOf}
use Rattle.cob_picture.proofs.EditedFacts.{edited_none}
use Rattle.cob_picture.proofs.Placed.{any_placed}
use Rattle.cob_edit.specs.Editing.{place_at, region_start, region_end, shows_sign}
use Rattle.cob_edit.specs.Pictured.{places, position_places, mark_of}
use Rattle.cob_edit.specs.Regions.{IsOfRun, HasRegion, RegionsAreOfRuns, SignsAreShown}
use Rattle.cob_edit.proofs.RegionLemmas.{is_still, AreWithin, has_region}

-- ---- places, one before others

-- no symbol of the run stands left of the point
abbrev pub HasNoRun : List EditedPlace → Type 0
HasNoRun ps = (j : ℕ) → IsOfRun ps j → ⊥

-- each symbol of the run left of the point is among the first that are of the run or insertions
abbrev AreFront : List EditedPlace → Type 0
AreFront ps = (j : ℕ) → IsOfRun ps j → j < prefix_len is_run_or_insertion ps

behind_first : (p : EditedPlace) (ps : List EditedPlace) (j : ℕ) → IsOfRun (p ∷ ps) (suc j) → IsOfRun ps j
behind_first p ps j h = record { inside = omega (arith, h.inside); run = h.run; left = λ k le. h.left (suc k) (omega arith) }

still_run : (p : EditedPlace) → is_still p ≡ true → is_run p ≡ false
still_run (Inserted b) h = refl
still_run (Suppressed f) h = sym h
still_run Floating h = sym h
still_run (First m) h = sym h
still_run Digit h = refl
still_run Point h = refl
still_run (Fixed m) h = refl
still_run AssumedPoint h = refl

pub no_run-nil : HasNoRun []
no_run-nil j h = omega (arith, h.inside)

pub no_run-cons : (p : EditedPlace) (ps : List EditedPlace) → is_still p ≡ true → HasNoRun ps → HasNoRun (p ∷ ps)
no_run-cons p ps still none zero h = let no : is_run p ≡ false = still_run p still in let yes : is_run p ≡ true = h.run in absurd (cc)
no_run-cons p ps still none (suc j) h = none j (behind_first p ps j h)

pub no_run-point : (p : EditedPlace) (ps : List EditedPlace) → is_point_place p ≡ true → HasNoRun (p ∷ ps)
no_run-point p ps point j h = let no : is_point_place p ≡ false = h.left 0 (omega arith) in absurd (cc)

front-none : (ps : List EditedPlace) → HasNoRun ps → AreFront ps
front-none ps none j h = absurd (none j h)

front-cons : (p : EditedPlace) (ps : List EditedPlace) → is_run_or_insertion p ≡ true → AreFront ps → AreFront (p ∷ ps)
front-cons p ps goes front zero h = let n : prefix_len is_run_or_insertion (p ∷ ps) ≡ 1 + prefix_len is_run_or_insertion ps = ap (λ b. cond {A = ℕ} b (1 + prefix_len is_run_or_insertion ps) 0) goes in omega arith
front-cons p ps goes front (suc j) h =
    let n : prefix_len is_run_or_insertion (p ∷ ps) ≡ 1 + prefix_len is_run_or_insertion ps = ap (λ b. cond {A = ℕ} b (1 + prefix_len is_run_or_insertion ps) 0) goes in
    let before : j < prefix_len is_run_or_insertion ps = front j (behind_first p ps j h) in
    omega arith

within-none : (ps : List EditedPlace) → HasNoRun ps → AreWithin ps
within-none ps none j h = absurd (none j h)

-- one more still place in front moves the region by one
pub start_behind : (p : EditedPlace) (ps : List EditedPlace) → is_still p ≡ true → region_start (p ∷ ps) ≡ suc (region_start ps)
start_behind p ps still = let n : region_start (p ∷ ps) ≡ 1 + region_start ps = ap (λ b. cond {A = ℕ} b (1 + region_start ps) 0) still in omega arith

within-cons : (p : EditedPlace) (ps : List EditedPlace) → is_still p ≡ true → AreWithin ps → AreWithin (p ∷ ps)
within-cons p ps still all zero h = let no : is_run p ≡ false = still_run p still in let yes : is_run p ≡ true = h.run in absurd (cc)
within-cons p ps still all (suc j) h =
    let start = start_behind p ps still in
    let rest : prefix_len is_run_or_insertion (drop (region_start (p ∷ ps)) (p ∷ ps)) ≡ prefix_len is_run_or_insertion (drop (region_start ps) ps) =
    ap (λ n. prefix_len is_run_or_insertion (drop n (p ∷ ps))) start in
    let before : j < region_end ps = all j (behind_first p ps j h) in
    omega arith

run_moves : (p : EditedPlace) → is_run p ≡ true → is_still p ≡ false
run_moves (Inserted b) h = sym h
run_moves (Suppressed f) h = refl
run_moves Floating h = refl
run_moves (First m) h = refl
run_moves Digit h = sym h
run_moves Point h = refl
run_moves (Fixed m) h = sym h
run_moves AssumedPoint h = refl

pub start_here : (p : EditedPlace) (ps : List EditedPlace) → is_run p ≡ true → region_start (p ∷ ps) ≡ 0
start_here p ps run = ap (λ b. cond {A = ℕ} b (1 + region_start ps) 0) (run_moves p run)

within-run : (p : EditedPlace) (ps : List EditedPlace) → is_run p ≡ true → AreFront (p ∷ ps) → AreWithin (p ∷ ps)
within-run p ps run front j h =
    let start = start_here p ps run in
    let rest : prefix_len is_run_or_insertion (drop (region_start (p ∷ ps)) (p ∷ ps)) ≡ prefix_len is_run_or_insertion (p ∷ ps) =
    ap (λ n. prefix_len is_run_or_insertion (drop n (p ∷ ps))) start in
    let before : j < prefix_len is_run_or_insertion (p ∷ ps) = front j h in
    omega arith

-- the same of several still places
no_run-append : (a ps : List EditedPlace) → list_all is_still a ≡ true → HasNoRun ps → HasNoRun (a ++ ps)
no_run-append [] ps all none = none
no_run-append (p ∷ a) ps all none = no_run-cons p (a ++ ps) (and_parts (is_still p) (list_all is_still a) all).0 (no_run-append a ps (and_parts (is_still p) (list_all is_still a) all).1 none)

within-append : (a ps : List EditedPlace) → list_all is_still a ≡ true → AreWithin ps → AreWithin (a ++ ps)
within-append [] ps all within = within
within-append (p ∷ a) ps all within = within-cons p (a ++ ps) (and_parts (is_still p) (list_all is_still a) all).0 (within-append a ps (and_parts (is_still p) (list_all is_still a) all).1 within)

-- ---- symbols

-- what floats, beside what the run is of
pub record Agree (f q : Option Symbol) : Type 0 where
  pub outside : (s : Symbol) → is_that q s ≡ false → is_that f s ≡ false
  pub fills : (s : Symbol) → is_that q s ≡ true → is_that f s ≡ false → (is sy.Z s || is sy.Star s) ≡ true

-- a kind that is neither of the run nor a point
abbrev is_quiet : SymbolKind → Bool
is_quiet OfRun = false
is_quiet OfPoint = false
is_quiet OfNone = false
is_quiet OfInsertion = true
is_quiet OfNine = true
is_quiet OfSign = true
is_quiet OfCurrency = true
is_quiet OfCredit = true

settled_still : (s : Symbol) → is_quiet (settled_kind s) ≡ true → list_all is_still (position_places (settled_role NumericEdited s) s) ≡ true
settled_still sy.A h = refl
settled_still sy.X h = refl
settled_still sy.Nine h = refl
settled_still sy.S h = refl
settled_still sy.V h = h
settled_still sy.P h = refl
settled_still sy.B h = refl
settled_still sy.Zero h = refl
settled_still sy.Slash h = refl
settled_still sy.Comma h = refl
settled_still sy.Point h = h
settled_still sy.Z h = h
settled_still sy.Star h = h
settled_still sy.Dollar h = refl
settled_still sy.Plus h = refl
settled_still sy.Minus h = refl
settled_still sy.Credit h = refl
settled_still sy.Debit h = refl

-- the places of a symbol
abbrev pub here : Option Symbol → Bool → Symbol → List EditedPlace
here f seen s = position_places (role_at NumericEdited (is_that f s) seen s) s

quiet_still : (f : Option Symbol) (seen : Bool) (s : Symbol) → is_that f s ≡ false → is_quiet (settled_kind s) ≡ true → list_all is_still (here f seen s) ≡ true
quiet_still f seen s out quiet = ap (λ b. list_all is_still (position_places (role_at NumericEdited b seen s) s)) out ∙ settled_still s quiet

-- the parts that hold neither the run nor the point
abbrev is_quiet_part : EditedPart → Bool
is_quiet_part Lead = true
is_quiet_part Currency = true
is_quiet_part Front = false
is_quiet_part Whole = true
is_quiet_part PointPart = false
is_quiet_part Fraction = false
is_quiet_part Trail = true

quiet_kind : (part : EditedPart) (k : SymbolKind) → is_quiet_part part ≡ true → belongs part k ≡ true → is_quiet k ≡ true
quiet_kind part OfInsertion h e = refl
quiet_kind part OfNine h e = refl
quiet_kind part OfSign h e = refl
quiet_kind part OfCurrency h e = refl
quiet_kind part OfCredit h e = refl
quiet_kind Lead OfRun h e = e
quiet_kind Lead OfPoint h e = e
quiet_kind Lead OfNone h e = e
quiet_kind Currency OfRun h e = e
quiet_kind Currency OfPoint h e = e
quiet_kind Currency OfNone h e = e
quiet_kind Whole OfRun h e = e
quiet_kind Whole OfPoint h e = e
quiet_kind Whole OfNone h e = e
quiet_kind Trail OfRun h e = e
quiet_kind Trail OfPoint h e = e
quiet_kind Trail OfNone h e = e
quiet_kind Front OfRun h e = h
quiet_kind Front OfPoint h e = h
quiet_kind Front OfNone h e = h
quiet_kind PointPart OfRun h e = h
quiet_kind PointPart OfPoint h e = h
quiet_kind PointPart OfNone h e = h
quiet_kind Fraction OfRun h e = h
quiet_kind Fraction OfPoint h e = h
quiet_kind Fraction OfNone h e = h

-- a symbol of such a part is outside the run
quiet_symbol : (part : EditedPart) (q : Option Symbol) (s : Symbol) → is_quiet_part part ≡ true → belongs part (symbol_kind q s) ≡ true → (is_that q s ≡ false) × (is_quiet (settled_kind s) ≡ true)
quiet_symbol part q s h e = at (is_that q s) refl e
  where
    at : (b : Bool) → is_that q s ≡ b → belongs part (if b then OfRun else settled_kind s) ≡ true → (is_that q s ≡ false) × (is_quiet (settled_kind s) ≡ true)
    at false b k = (b, quiet_kind part (settled_kind s) h k)
    at true b k = let no : false ≡ true = quiet_kind part OfRun h k in absurd (cc)

still_here : (part : EditedPart) (f q : Option Symbol) (seen : Bool) (s : Symbol) → Agree f q → is_quiet_part part ≡ true → belongs part (symbol_kind q s) ≡ true → list_all is_still (here f seen s) ≡ true
still_here part f q seen s agree h e =
    let p = quiet_symbol part q s h e in
    quiet_still f seen s (agree.outside s p.0) p.1

-- the places of symbols, the floating one seen before or not
abbrev pub placed_from : Option Symbol → Bool → List Symbol → List EditedPlace
placed_from f seen xs = places (positions_from NumericEdited f seen xs)

pub quiet_no_run : (part : EditedPart) (f q : Option Symbol) (xs ys : List Symbol) → Agree f q → is_quiet_part part ≡ true → AreOf part q xs → ((seen : Bool) → HasNoRun (placed_from f seen ys)) → (seen : Bool) → HasNoRun (placed_from f seen (xs ++ ys))
quiet_no_run part f q [] ys agree h all rest seen = rest seen
quiet_no_run part f q (s ∷ xs) ys agree h all rest seen = no_run-append (here f seen s) (placed_from f (seen || is_that f s) (xs ++ ys)) (still_here part f q seen s agree h all.0) (quiet_no_run part f q xs ys agree h all.1 rest (seen || is_that f s))

quiet_within : (part : EditedPart) (f q : Option Symbol) (xs ys : List Symbol) → Agree f q → is_quiet_part part ≡ true → AreOf part q xs → ((seen : Bool) → AreWithin (placed_from f seen ys)) → (seen : Bool) → AreWithin (placed_from f seen (xs ++ ys))
quiet_within part f q [] ys agree h all rest seen = rest seen
quiet_within part f q (s ∷ xs) ys agree h all rest seen = within-append (here f seen s) (placed_from f (seen || is_that f s) (xs ++ ys)) (still_here part f q seen s agree h all.0) (quiet_within part f q xs ys agree h all.1 rest (seen || is_that f s))

-- a symbol of the run has one place, of the run
abbrev IsOneRun : List EditedPlace → Type 0
IsOneRun ps = (p : EditedPlace) × (is_run p ≡ true) × (ps ≡ p ∷ [])

fill_run : (s : Symbol) → (is sy.Z s || is sy.Star s) ≡ true → IsOneRun (position_places (settled_role NumericEdited s) s)
fill_run sy.Z h = (_, refl, refl)
fill_run sy.Star h = (_, refl, refl)
fill_run sy.A h = let no : false ≡ true = h in absurd (cc)
fill_run sy.X h = let no : false ≡ true = h in absurd (cc)
fill_run sy.Nine h = let no : false ≡ true = h in absurd (cc)
fill_run sy.S h = let no : false ≡ true = h in absurd (cc)
fill_run sy.V h = let no : false ≡ true = h in absurd (cc)
fill_run sy.P h = let no : false ≡ true = h in absurd (cc)
fill_run sy.B h = let no : false ≡ true = h in absurd (cc)
fill_run sy.Zero h = let no : false ≡ true = h in absurd (cc)
fill_run sy.Slash h = let no : false ≡ true = h in absurd (cc)
fill_run sy.Comma h = let no : false ≡ true = h in absurd (cc)
fill_run sy.Point h = let no : false ≡ true = h in absurd (cc)
fill_run sy.Dollar h = let no : false ≡ true = h in absurd (cc)
fill_run sy.Plus h = let no : false ≡ true = h in absurd (cc)
fill_run sy.Minus h = let no : false ≡ true = h in absurd (cc)
fill_run sy.Credit h = let no : false ≡ true = h in absurd (cc)
fill_run sy.Debit h = let no : false ≡ true = h in absurd (cc)

floating_run : (seen : Bool) (s : Symbol) → IsOneRun (position_places (role_at NumericEdited true seen s) s)
floating_run true s = (_, refl, refl)
floating_run false s = (_, refl, refl)

pub run_here : (f q : Option Symbol) (seen : Bool) (s : Symbol) → Agree f q → is_that q s ≡ true → IsOneRun (here f seen s)
run_here f q seen s agree run = at (is_that f s) refl
  where
    at : (b : Bool) → is_that f s ≡ b → IsOneRun (position_places (role_at NumericEdited b seen s) s)
    at true e = floating_run seen s
    at false e = fill_run s (agree.fills s run e)

-- an insertion has one place
abbrev IsOneInsertion : List EditedPlace → Type 0
IsOneInsertion ps = (b : ℕ) × (ps ≡ Inserted b ∷ [])

settled_front : (s : Symbol) → belongs Front (settled_kind s) ≡ true → IsOneInsertion (position_places (settled_role NumericEdited s) s)
settled_front sy.A h = let no : false ≡ true = h in absurd (cc)
settled_front sy.X h = let no : false ≡ true = h in absurd (cc)
settled_front sy.Nine h = let no : false ≡ true = h in absurd (cc)
settled_front sy.S h = let no : false ≡ true = h in absurd (cc)
settled_front sy.V h = let no : false ≡ true = h in absurd (cc)
settled_front sy.P h = let no : false ≡ true = h in absurd (cc)
settled_front sy.B h = (_, refl)
settled_front sy.Zero h = (_, refl)
settled_front sy.Slash h = (_, refl)
settled_front sy.Comma h = (_, refl)
settled_front sy.Point h = let no : false ≡ true = h in absurd (cc)
settled_front sy.Z h = let no : false ≡ true = h in absurd (cc)
settled_front sy.Star h = let no : false ≡ true = h in absurd (cc)
settled_front sy.Dollar h = let no : false ≡ true = h in absurd (cc)
settled_front sy.Plus h = let no : false ≡ true = h in absurd (cc)
settled_front sy.Minus h = let no : false ≡ true = h in absurd (cc)
settled_front sy.Credit h = let no : false ≡ true = h in absurd (cc)
settled_front sy.Debit h = let no : false ≡ true = h in absurd (cc)

pub front_symbol : (q : Option Symbol) (s : Symbol) → belongs Front (symbol_kind q s) ≡ true → (is_that q s ≡ true) ⊎ ((is_that q s ≡ false) × (belongs Front (settled_kind s) ≡ true))
front_symbol q s h = at (is_that q s) refl h
  where
    at : (b : Bool) → is_that q s ≡ b → belongs Front (if b then OfRun else settled_kind s) ≡ true → (is_that q s ≡ true) ⊎ ((is_that q s ≡ false) × (belongs Front (settled_kind s) ≡ true))
    at true e k = inl e
    at false e k = inr (e, k)

pub insertion_here : (f q : Option Symbol) (seen : Bool) (s : Symbol) → Agree f q → is_that q s ≡ false → belongs Front (settled_kind s) ≡ true → IsOneInsertion (here f seen s)
insertion_here f q seen s agree out k =
    let one = settled_front s k in
    (one.0, ap (λ b. position_places (role_at NumericEdited b seen s) s) (agree.outside s out) ∙ one.1)

run_goes : (p : EditedPlace) → is_run p ≡ true → is_run_or_insertion p ≡ true
run_goes (Inserted b) h = refl
run_goes (Suppressed f) h = refl
run_goes Floating h = refl
run_goes (First m) h = refl
run_goes Digit h = h
run_goes Point h = h
run_goes (Fixed m) h = h
run_goes AssumedPoint h = h

front_front : (f q : Option Symbol) (xs ys : List Symbol) → Agree f q → AreOf Front q xs → ((seen : Bool) → HasNoRun (placed_from f seen ys)) → (seen : Bool) → AreFront (placed_from f seen (xs ++ ys))
front_front f q [] ys agree all rest seen = front-none (placed_from f seen ys) (rest seen)
front_front f q (s ∷ xs) ys agree all rest seen =
    let more : List EditedPlace = placed_from f (seen || is_that f s) (xs ++ ys) in
    let behind : AreFront more = front_front f q xs ys agree all.1 rest (seen || is_that f s) in
    elim (front_symbol q s all.0) [
      | inl run ↦
          let one = run_here f q seen s agree run in
          subst (λ a. AreFront (a ++ more)) (sym one.2) (front-cons one.0 more (run_goes one.0 one.1) behind)
      | inr out ↦
          let one = insertion_here f q seen s agree out.0 out.1 in
          subst (λ a. AreFront (a ++ more)) (sym one.1) (front-cons (Inserted one.0) more refl behind)
    ]

front_within : (f q : Option Symbol) (xs ys : List Symbol) → Agree f q → AreOf Front q xs → ((seen : Bool) → HasNoRun (placed_from f seen ys)) → (seen : Bool) → AreWithin (placed_from f seen (xs ++ ys))
front_within f q [] ys agree all rest seen = within-none (placed_from f seen ys) (rest seen)
front_within f q (s ∷ xs) ys agree all rest seen =
    let more : List EditedPlace = placed_from f (seen || is_that f s) (xs ++ ys) in
    elim (front_symbol q s all.0) [
      | inl run ↦
          let one = run_here f q seen s agree run in
          let behind : AreFront more = front_front f q xs ys agree all.1 rest (seen || is_that f s) in
          subst (λ a. AreWithin (a ++ more)) (sym one.2) (within-run one.0 more one.1 (front-cons one.0 more (run_goes one.0 one.1) behind))
      | inr out ↦
          let one = insertion_here f q seen s agree out.0 out.1 in
          subst (λ a. AreWithin (a ++ more)) (sym one.1) (within-cons (Inserted one.0) more refl (front_within f q xs ys agree all.1 rest (seen || is_that f s)))
    ]

-- ---- the point and what follows it

settled_point : (s : Symbol) → belongs PointPart (settled_kind s) ≡ true → (p : EditedPlace) × (is_point_place p ≡ true) × (position_places (settled_role NumericEdited s) s ≡ p ∷ [])
settled_point sy.A h = let no : false ≡ true = h in absurd (cc)
settled_point sy.X h = let no : false ≡ true = h in absurd (cc)
settled_point sy.Nine h = let no : false ≡ true = h in absurd (cc)
settled_point sy.S h = let no : false ≡ true = h in absurd (cc)
settled_point sy.V h = (_, refl, refl)
settled_point sy.P h = let no : false ≡ true = h in absurd (cc)
settled_point sy.B h = let no : false ≡ true = h in absurd (cc)
settled_point sy.Zero h = let no : false ≡ true = h in absurd (cc)
settled_point sy.Slash h = let no : false ≡ true = h in absurd (cc)
settled_point sy.Comma h = let no : false ≡ true = h in absurd (cc)
settled_point sy.Point h = (_, refl, refl)
settled_point sy.Z h = let no : false ≡ true = h in absurd (cc)
settled_point sy.Star h = let no : false ≡ true = h in absurd (cc)
settled_point sy.Dollar h = let no : false ≡ true = h in absurd (cc)
settled_point sy.Plus h = let no : false ≡ true = h in absurd (cc)
settled_point sy.Minus h = let no : false ≡ true = h in absurd (cc)
settled_point sy.Credit h = let no : false ≡ true = h in absurd (cc)
settled_point sy.Debit h = let no : false ≡ true = h in absurd (cc)

point_here : (f q : Option Symbol) (seen : Bool) (s : Symbol) → Agree f q → belongs PointPart (symbol_kind q s) ≡ true → (p : EditedPlace) × (is_point_place p ≡ true) × (here f seen s ≡ p ∷ [])
point_here f q seen s agree h = at (is_that q s) refl h
  where
    at : (b : Bool) → is_that q s ≡ b → belongs PointPart (if b then OfRun else settled_kind s) ≡ true → (p : EditedPlace) × (is_point_place p ≡ true) × (here f seen s ≡ p ∷ [])
    at true e k = let no : false ≡ true = k in absurd (cc)
    at false e k =
        let one = settled_point s k in
        (one.0, one.1, ap (λ b. position_places (role_at NumericEdited b seen s) s) (agree.outside s e) ∙ one.2)

trail_no_run : (f q : Option Symbol) (xs : List Symbol) → Agree f q → AreOf Trail q xs → (seen : Bool) → HasNoRun (placed_from f seen xs)
trail_no_run f q xs agree all seen = subst (λ ys. HasNoRun (placed_from f seen ys)) (append-nil xs) (quiet_no_run Trail f q xs [] agree refl all (λ b. no_run-nil) seen)

pub point_no_run : (f q : Option Symbol) (point fraction trail : List Symbol) → Agree f q → AreOf PointPart q point → AreOf Trail q trail → (length point ≡ 0 → length fraction ≡ 0) → (seen : Bool) → HasNoRun (placed_from f seen (point ++ (fraction ++ trail)))
point_no_run f q [] [] trail agree is_point all none seen = trail_no_run f q trail agree all seen
point_no_run f q [] (s ∷ fraction) trail agree is_point all none seen = let no : length (s ∷ fraction) ≡ 0 = none refl in absurd (omega (arith, no))
point_no_run f q (s ∷ point) fraction trail agree is_point all none seen =
    let one = point_here f q seen s agree is_point.0 in
    let more : List EditedPlace = placed_from f (seen || is_that f s) (point ++ (fraction ++ trail)) in
    subst (λ a. HasNoRun (a ++ more)) (sym one.2) (no_run-point one.0 more one.1)

-- ---- what floats

chosen_outside : (a b d e g : Bool) (s : Symbol) → is_that (if a then Some sy.Dollar else (if b then Some sy.Plus else (if d then Some sy.Minus else (if e then Some sy.Z else (if g then Some sy.Star else None))))) s ≡ false → is_that (if a then Some sy.Dollar else (if b then Some sy.Plus else (if d then Some sy.Minus else None))) s ≡ false
chosen_outside true b d e g s h = h
chosen_outside false true d e g s h = h
chosen_outside false false true e g s h = h
chosen_outside false false false e g s h = refl

star_too : (s : Symbol) → is sy.Star s ≡ true → (is sy.Z s || is sy.Star s) ≡ true
star_too s h = at (is sy.Z s)
  where
    at : (b : Bool) → (b || is sy.Star s) ≡ true
    at true = refl
    at false = h

z_too : (s : Symbol) → is sy.Z s ≡ true → (is sy.Z s || is sy.Star s) ≡ true
z_too s h = ap (λ b. b || is sy.Star s) h

chosen_fills : (a b d e g : Bool) (s : Symbol) → is_that (if a then Some sy.Dollar else (if b then Some sy.Plus else (if d then Some sy.Minus else (if e then Some sy.Z else (if g then Some sy.Star else None))))) s ≡ true → is_that (if a then Some sy.Dollar else (if b then Some sy.Plus else (if d then Some sy.Minus else None))) s ≡ false → (is sy.Z s || is sy.Star s) ≡ true
chosen_fills true b d e g s h k = absurd (true≢false (sym h ∙ k))
chosen_fills false true d e g s h k = absurd (true≢false (sym h ∙ k))
chosen_fills false false true e g s h k = absurd (true≢false (sym h ∙ k))
chosen_fills false false false true g s h k = z_too s h
chosen_fills false false false false true s h k = star_too s h
chosen_fills false false false false false s h k = absurd (true≢false (sym h))

pub agree : (xs : List Symbol) → Agree (floating xs) (run_symbol xs)
agree xs =
    let a = nat_le 2 (symbol_count sy.Dollar xs) in
    let b = nat_le 2 (symbol_count sy.Plus xs) in
    let d = nat_le 2 (symbol_count sy.Minus xs) in
    let e = nat_le 1 (symbol_count sy.Z xs) in
    let g = nat_le 1 (symbol_count sy.Star xs) in
    record { outside = chosen_outside a b d e g; fills = chosen_fills a b d e g }

-- ---- the region

-- a numeric edited picture has the region of its run
pub edited_region : (xs : List Symbol) → IsNumericEdited xs → HasRegion (places (positions NumericEdited xs))
edited_region xs h =
    let f = floating xs in
    let q = run_symbol xs in
    let e = h.parts in
    let t5 = e.point ++ (e.fraction ++ e.trail) in
    let t4 = e.whole ++ t5 in
    let t3 = e.front ++ t4 in
    let t2 = e.currency ++ t3 in
    let no : (seen : Bool) → HasNoRun (placed_from f seen t5) = point_no_run f q e.point e.fraction e.trail (agree xs) h.kinds.point h.kinds.trail h.allowed.single.fraction in
    let none : (seen : Bool) → HasNoRun (placed_from f seen t4) = quiet_no_run Whole f q e.whole t5 (agree xs) refl h.kinds.whole no in
    let front : (seen : Bool) → AreWithin (placed_from f seen t3) = front_within f q e.front t4 (agree xs) h.kinds.front none in
    let second : (seen : Bool) → AreWithin (placed_from f seen t2) = quiet_within Currency f q e.currency t3 (agree xs) refl h.kinds.currency front in
    let all : AreWithin (placed_from f false (edited_symbols e)) = quiet_within Lead f q e.lead t2 (agree xs) refl h.kinds.lead second false in
    has_region (places (positions NumericEdited xs)) (subst (λ ys. AreWithin (placed_from f false ys)) (sym h.written) all)

-- ---- the sign

-- what floats is a sign
record IsSignRun (f q : Option Symbol) : Type 0 where
  floats : (s : Symbol) → is_that q s ≡ true → is_that f s ≡ true
  told : (s : Symbol) → is_that q s ≡ true → tells (mark_of s) ≡ true
  sign : (s : Symbol) → is_that q s ≡ true → is_sign_symbol s ≡ true

plus_told : (s : Symbol) → is sy.Plus s ≡ true → tells (mark_of s) ≡ true
plus_told sy.A h = h
plus_told sy.X h = h
plus_told sy.Nine h = h
plus_told sy.S h = h
plus_told sy.V h = h
plus_told sy.P h = h
plus_told sy.B h = h
plus_told sy.Zero h = h
plus_told sy.Slash h = h
plus_told sy.Comma h = h
plus_told sy.Point h = h
plus_told sy.Z h = h
plus_told sy.Star h = h
plus_told sy.Dollar h = h
plus_told sy.Plus h = refl
plus_told sy.Minus h = refl
plus_told sy.Credit h = h
plus_told sy.Debit h = h

plus_sign : (s : Symbol) → is sy.Plus s ≡ true → is_sign_symbol s ≡ true
plus_sign sy.A h = h
plus_sign sy.X h = h
plus_sign sy.Nine h = h
plus_sign sy.S h = refl
plus_sign sy.V h = h
plus_sign sy.P h = h
plus_sign sy.B h = h
plus_sign sy.Zero h = h
plus_sign sy.Slash h = h
plus_sign sy.Comma h = h
plus_sign sy.Point h = h
plus_sign sy.Z h = h
plus_sign sy.Star h = h
plus_sign sy.Dollar h = h
plus_sign sy.Plus h = refl
plus_sign sy.Minus h = refl
plus_sign sy.Credit h = refl
plus_sign sy.Debit h = refl

minus_told : (s : Symbol) → is sy.Minus s ≡ true → tells (mark_of s) ≡ true
minus_told sy.A h = h
minus_told sy.X h = h
minus_told sy.Nine h = h
minus_told sy.S h = h
minus_told sy.V h = h
minus_told sy.P h = h
minus_told sy.B h = h
minus_told sy.Zero h = h
minus_told sy.Slash h = h
minus_told sy.Comma h = h
minus_told sy.Point h = h
minus_told sy.Z h = h
minus_told sy.Star h = h
minus_told sy.Dollar h = h
minus_told sy.Plus h = refl
minus_told sy.Minus h = refl
minus_told sy.Credit h = h
minus_told sy.Debit h = h

minus_sign : (s : Symbol) → is sy.Minus s ≡ true → is_sign_symbol s ≡ true
minus_sign sy.A h = h
minus_sign sy.X h = h
minus_sign sy.Nine h = h
minus_sign sy.S h = refl
minus_sign sy.V h = h
minus_sign sy.P h = h
minus_sign sy.B h = h
minus_sign sy.Zero h = h
minus_sign sy.Slash h = h
minus_sign sy.Comma h = h
minus_sign sy.Point h = h
minus_sign sy.Z h = h
minus_sign sy.Star h = h
minus_sign sy.Dollar h = h
minus_sign sy.Plus h = refl
minus_sign sy.Minus h = refl
minus_sign sy.Credit h = refl
minus_sign sy.Debit h = refl

chosen_sign : (a b d e g : Bool) → is_sign_run (if a then Some sy.Dollar else (if b then Some sy.Plus else (if d then Some sy.Minus else (if e then Some sy.Z else (if g then Some sy.Star else None))))) ≡ true → IsSignRun (if a then Some sy.Dollar else (if b then Some sy.Plus else (if d then Some sy.Minus else None))) (if a then Some sy.Dollar else (if b then Some sy.Plus else (if d then Some sy.Minus else (if e then Some sy.Z else (if g then Some sy.Star else None)))))
chosen_sign true b d e g h = absurd (true≢false (sym h))
chosen_sign false true d e g h = record { floats = λ s k. k; told = plus_told; sign = plus_sign }
chosen_sign false false true e g h = record { floats = λ s k. k; told = minus_told; sign = minus_sign }
chosen_sign false false false true g h = absurd (true≢false (sym h))
chosen_sign false false false false true h = absurd (true≢false (sym h))
chosen_sign false false false false false h = absurd (true≢false (sym h))

-- what floats is no sign
record IsNoSign (f : Option Symbol) : Type 0 where
  untold : (s : Symbol) → is_that f s ≡ true → tells (mark_of s) ≡ false
  other : (s : Symbol) → is_that f s ≡ true → is_sign_symbol s ≡ false

dollar_untold : (s : Symbol) → is sy.Dollar s ≡ true → tells (mark_of s) ≡ false
dollar_untold sy.A h = refl
dollar_untold sy.X h = refl
dollar_untold sy.Nine h = refl
dollar_untold sy.S h = refl
dollar_untold sy.V h = refl
dollar_untold sy.P h = refl
dollar_untold sy.B h = refl
dollar_untold sy.Zero h = refl
dollar_untold sy.Slash h = refl
dollar_untold sy.Comma h = refl
dollar_untold sy.Point h = refl
dollar_untold sy.Z h = refl
dollar_untold sy.Star h = refl
dollar_untold sy.Dollar h = refl
dollar_untold sy.Plus h = sym h
dollar_untold sy.Minus h = sym h
dollar_untold sy.Credit h = refl
dollar_untold sy.Debit h = refl

dollar_other : (s : Symbol) → is sy.Dollar s ≡ true → is_sign_symbol s ≡ false
dollar_other sy.A h = refl
dollar_other sy.X h = refl
dollar_other sy.Nine h = refl
dollar_other sy.S h = sym h
dollar_other sy.V h = refl
dollar_other sy.P h = refl
dollar_other sy.B h = refl
dollar_other sy.Zero h = refl
dollar_other sy.Slash h = refl
dollar_other sy.Comma h = refl
dollar_other sy.Point h = refl
dollar_other sy.Z h = refl
dollar_other sy.Star h = refl
dollar_other sy.Dollar h = refl
dollar_other sy.Plus h = sym h
dollar_other sy.Minus h = sym h
dollar_other sy.Credit h = sym h
dollar_other sy.Debit h = sym h

chosen_none : (a b d e g : Bool) → is_sign_run (if a then Some sy.Dollar else (if b then Some sy.Plus else (if d then Some sy.Minus else (if e then Some sy.Z else (if g then Some sy.Star else None))))) ≡ false → IsNoSign (if a then Some sy.Dollar else (if b then Some sy.Plus else (if d then Some sy.Minus else None)))
chosen_none true b d e g h = record { untold = dollar_untold; other = dollar_other }
chosen_none false true d e g h = absurd (true≢false h)
chosen_none false false true e g h = absurd (true≢false h)
chosen_none false false false e g h = record { untold = λ s k. absurd (true≢false (sym k)); other = λ s k. absurd (true≢false (sym k)) }

-- ---- a sign that floats

-- the region begins with a sign that floats
abbrev FloatsFirst : List EditedPlace → Type 0
FloatsFirst ps = is_floating_sign (place_at ps (region_start ps)) ≡ true

floats-cons : (p : EditedPlace) (ps : List EditedPlace) → is_still p ≡ true → FloatsFirst ps → FloatsFirst (p ∷ ps)
floats-cons p ps still h = ap (λ n. is_floating_sign (place_at (p ∷ ps) n)) (start_behind p ps still) ∙ h

floats-first : (p : EditedPlace) (ps : List EditedPlace) → is_run p ≡ true → is_floating_sign p ≡ true → FloatsFirst (p ∷ ps)
floats-first p ps run sign = ap (λ n. is_floating_sign (place_at (p ∷ ps) n)) (start_here p ps run) ∙ sign

front_floats : (f q : Option Symbol) (xs ys : List Symbol) → Agree f q → IsSignRun f q → AreOf Front q xs → list_any (is_that q) xs ≡ true → FloatsFirst (placed_from f false (xs ++ ys))
front_floats f q [] ys agree sign all some = absurd (true≢false (sym some))
front_floats f q (s ∷ xs) ys agree sign all some =
    elim (front_symbol q s all.0) [
      | inl run ↦
          let floats : is_that f s ≡ true = sign.floats s run in
          let first : here f false s ≡ First (mark_of s) ∷ [] = ap (λ b. position_places (role_at NumericEdited b false s) s) floats in
          let more : List EditedPlace = placed_from f (false || is_that f s) (xs ++ ys) in
          subst (λ a. FloatsFirst (a ++ more)) (sym first) (floats-first (First (mark_of s)) more refl (sign.told s run))
      | inr out ↦
          let one = insertion_here f q false s agree out.0 out.1 in
          let more : list_any (is_that q) xs ≡ true = ap (λ b. b || list_any (is_that q) xs) (sym out.0) ∙ some in
          let rest : FloatsFirst (placed_from f false (xs ++ ys)) = front_floats f q xs ys agree sign all.1 more in
          let unseen : (false || is_that f s) ≡ false = agree.outside s out.0 in
          let behind : FloatsFirst (placed_from f (false || is_that f s) (xs ++ ys)) = subst (λ b. FloatsFirst (placed_from f b (xs ++ ys))) (sym unseen) rest in
          subst (λ a. FloatsFirst (a ++ placed_from f (false || is_that f s) (xs ++ ys))) (sym one.1) (floats-cons (Inserted one.0) (placed_from f (false || is_that f s) (xs ++ ys)) refl behind)
    ]

or_true : (a : Bool) → (a || true) ≡ true
or_true true = refl
or_true false = refl

or_none : (a : Bool) → (a || false) ≡ a
or_none true = refl
or_none false = refl

front_signs : (f q : Option Symbol) (xs ys : List Symbol) → IsSignRun f q → list_any (is_that q) xs ≡ true → list_any is_sign_symbol (xs ++ ys) ≡ true
front_signs f q [] ys sign some = absurd (true≢false (sym some))
front_signs f q (s ∷ xs) ys sign some = at (is_that q s) refl some (front_signs f q xs ys sign)
  where
    at : (b : Bool) → is_that q s ≡ b → (b || list_any (is_that q) xs) ≡ true → (list_any (is_that q) xs ≡ true → list_any is_sign_symbol (xs ++ ys) ≡ true)
        → list_any is_sign_symbol (s ∷ (xs ++ ys)) ≡ true
    at true e k behind = ap (λ b. b || list_any is_sign_symbol (xs ++ ys)) (sign.sign s e)
    at false e k behind = ap (λ b. is_sign_symbol s || b) (behind k) ∙ or_true (is_sign_symbol s)

nil_of : (xs : List Symbol) → length xs ≡ 0 → xs ≡ []
nil_of [] h = refl
nil_of (s ∷ xs) h = absurd (omega (arith, h))

float_shown : (xs : List Symbol) → IsNumericEdited xs → is_sign_run (run_symbol xs) ≡ true → (FloatsFirst (places (positions NumericEdited xs))) × (list_any is_sign_symbol xs ≡ true)
float_shown xs h run =
    let f = floating xs in
    let q = run_symbol xs in
    let e = h.parts in
    let t4 = e.whole ++ (e.point ++ (e.fraction ++ e.trail)) in
    let alone = h.allowed.run.no_other run in
    let no_lead : e.lead ≡ [] = nil_of e.lead (omega (arith, alone.0)) in
    let no_currency : e.currency ≡ [] = nil_of e.currency (omega (arith, alone.1)) in
    let symbols : xs ≡ e.front ++ t4 = h.written ∙ ap (λ l. l ++ (e.currency ++ (e.front ++ t4))) no_lead ∙ ap (λ l. l ++ (e.front ++ t4)) no_currency in
    let floats : is_floating_run q ≡ true = ap (λ b. is_that q sy.Dollar || b) run ∙ or_true (is_that q sy.Dollar) in
    let some : list_any (is_that q) e.front ≡ true = h.allowed.run.begins floats in
    let sign : IsSignRun f q = chosen_sign (nat_le 2 (symbol_count sy.Dollar xs)) (nat_le 2 (symbol_count sy.Plus xs)) (nat_le 2 (symbol_count sy.Minus xs)) (nat_le 1 (symbol_count sy.Z xs)) (nat_le 1 (symbol_count sy.Star xs)) run in (
      subst (λ ys. FloatsFirst (placed_from f false ys)) (sym symbols) (front_floats f q e.front t4 (agree xs) sign h.kinds.front some),
      ap (list_any is_sign_symbol) symbols ∙ front_signs f q e.front t4 sign some,
    )

-- ---- a sign in its place

fixed_settled : (s : Symbol) → is sy.S s ≡ false → list_any is_fixed_sign (position_places (settled_role NumericEdited s) s) ≡ is_sign_symbol s
fixed_settled sy.A h = refl
fixed_settled sy.X h = refl
fixed_settled sy.Nine h = refl
fixed_settled sy.S h = sym h
fixed_settled sy.V h = refl
fixed_settled sy.P h = refl
fixed_settled sy.B h = refl
fixed_settled sy.Zero h = refl
fixed_settled sy.Slash h = refl
fixed_settled sy.Comma h = refl
fixed_settled sy.Point h = refl
fixed_settled sy.Z h = refl
fixed_settled sy.Star h = refl
fixed_settled sy.Dollar h = refl
fixed_settled sy.Plus h = refl
fixed_settled sy.Minus h = refl
fixed_settled sy.Credit h = refl
fixed_settled sy.Debit h = refl

fixed_here : (f : Option Symbol) (seen : Bool) (s : Symbol) → IsNoSign f → is sy.S s ≡ false → list_any is_fixed_sign (here f seen s) ≡ is_sign_symbol s
fixed_here f seen s plain h = at (is_that f s) refl seen
  where
    at : (b : Bool) → is_that f s ≡ b → (seen : Bool) → list_any is_fixed_sign (position_places (role_at NumericEdited b seen s) s) ≡ is_sign_symbol s
    at true e true = sym (plain.other s e)
    at true e false = sym (plain.other s e)
    at false e seen = fixed_settled s h

fixed_shown : (f : Option Symbol) (seen : Bool) (xs : List Symbol) → IsNoSign f → symbol_count sy.S xs ≡ 0 → list_any is_fixed_sign (placed_from f seen xs) ≡ list_any is_sign_symbol xs
fixed_shown f seen [] plain none = refl
fixed_shown f seen (s ∷ xs) plain none =
    let rest : List EditedPlace = placed_from f (seen || is_that f s) xs in
    list_any-append is_fixed_sign (here f seen s) rest
    ∙ ap (λ b. b || list_any is_fixed_sign rest) (fixed_here f seen s plain (first (is sy.S s) refl none))
    ∙ ap (λ b. is_sign_symbol s || b) (fixed_shown f (seen || is_that f s) xs plain (omega (arith, none)))
  where
    first : (b : Bool) → is sy.S s ≡ b → (if b then 1 else 0) + symbol_count sy.S xs ≡ 0 → is sy.S s ≡ false
    first true e k = absurd (omega (arith, k))
    first false e k = e

float_settled : (s : Symbol) → list_any is_floating_sign (position_places (settled_role NumericEdited s) s) ≡ false
float_settled sy.A = refl
float_settled sy.X = refl
float_settled sy.Nine = refl
float_settled sy.S = refl
float_settled sy.V = refl
float_settled sy.P = refl
float_settled sy.B = refl
float_settled sy.Zero = refl
float_settled sy.Slash = refl
float_settled sy.Comma = refl
float_settled sy.Point = refl
float_settled sy.Z = refl
float_settled sy.Star = refl
float_settled sy.Dollar = refl
float_settled sy.Plus = refl
float_settled sy.Minus = refl
float_settled sy.Credit = refl
float_settled sy.Debit = refl

float_here : (f : Option Symbol) (seen : Bool) (s : Symbol) → IsNoSign f → list_any is_floating_sign (here f seen s) ≡ false
float_here f seen s plain = at (is_that f s) refl seen
  where
    at : (b : Bool) → is_that f s ≡ b → (seen : Bool) → list_any is_floating_sign (position_places (role_at NumericEdited b seen s) s) ≡ false
    at true e true = refl
    at true e false = ap (λ b. b || false) (plain.untold s e)
    at false e seen = float_settled s

none_floats : (f : Option Symbol) (seen : Bool) (xs : List Symbol) → IsNoSign f → list_any is_floating_sign (placed_from f seen xs) ≡ false
none_floats f seen [] plain = refl
none_floats f seen (s ∷ xs) plain =
    let rest : List EditedPlace = placed_from f (seen || is_that f s) xs in
    list_any-append is_floating_sign (here f seen s) rest
    ∙ ap (λ b. b || list_any is_floating_sign rest) (float_here f seen s plain)
    ∙ none_floats f (seen || is_that f s) xs plain

or_parts : (a b : Bool) → (a || b) ≡ false → (a ≡ false) × (b ≡ false)
or_parts true b h = absurd (true≢false h)
or_parts false b h = (refl, h)

none_at : (ps : List EditedPlace) (j : ℕ) → list_any is_floating_sign ps ≡ false → is_floating_sign (place_at ps j) ≡ false
none_at [] j h = refl
none_at (p ∷ ps) zero h = (or_parts (is_floating_sign p) (list_any is_floating_sign ps) h).0
none_at (p ∷ ps) (suc j) h = none_at ps j (or_parts (is_floating_sign p) (list_any is_floating_sign ps) h).1

-- a numeric edited picture shows a sign exactly where it is signed
pub sign_shown : (xs : List Symbol) → IsNumericEdited xs → shows_sign (places (positions NumericEdited xs)) ≡ signed (positions NumericEdited xs)
sign_shown xs h = at (is_sign_run (run_symbol xs)) refl ∙ sym (any_placed NumericEdited (floating xs) false xs)
  where
    at : (b : Bool) → is_sign_run (run_symbol xs) ≡ b → shows_sign (places (positions NumericEdited xs)) ≡ list_any is_sign_symbol xs
    at true e =
        let ps = places (positions NumericEdited xs) in
        let both = float_shown xs h e in
        ap (λ b. list_any is_fixed_sign ps || b) both.0 ∙ or_true (list_any is_fixed_sign ps) ∙ sym both.1
    at false e =
        let ps = places (positions NumericEdited xs) in
        let plain : IsNoSign (floating xs) = chosen_none (nat_le 2 (symbol_count sy.Dollar xs)) (nat_le 2 (symbol_count sy.Plus xs)) (nat_le 2 (symbol_count sy.Minus xs)) (nat_le 1 (symbol_count sy.Z xs)) (nat_le 1 (symbol_count sy.Star xs)) e in
        ap (λ b. list_any is_fixed_sign ps || b) (none_at ps (region_start ps) (none_floats (floating xs) false xs plain))
        ∙ or_none (list_any is_fixed_sign ps)
        ∙ fixed_shown (floating xs) false xs plain (edited_none xs h).no_s

-- ---- pictures

pub region_of_picture : RegionsAreOfRuns
region_of_picture text picture p edited =
    let order : IsNumericEdited p.symbols = subst (λ c. IsOf c p.symbols) edited p.is.order in
    let same : positions NumericEdited p.symbols ≡ picture.positions = sym (p.positions ∙ ap (λ c. positions c p.symbols) edited) in
    subst (λ ps. HasRegion (places ps)) same (edited_region p.symbols order)

pub sign_of_picture : SignsAreShown
sign_of_picture text picture p edited =
    let order : IsNumericEdited p.symbols = subst (λ c. IsOf c p.symbols) edited p.is.order in
    let same : positions NumericEdited p.symbols ≡ picture.positions = sym (p.positions ∙ ap (λ c. positions c p.symbols) edited) in
    subst (λ ps. shows_sign (places ps) ≡ signed ps) same (sign_shown p.symbols order)
