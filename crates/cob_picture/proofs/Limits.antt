-- Limits that follow from what a picture is.
use Rattle.std.proofs.Common.{◌≡◌, ℕ, zero, suc, ◌+◌, ◌<◌, ◌≤◌, Bool, true, false, cond, ◌||◌, ◌⊎◌, inl, inr, List, [], ◌∷◌, ◌++◌, length, take, drop, replicate, Option, refl, sym, ap, subst, ◌∙◌, arith}
use Rattle.std.specs.Prelude.{count_by, if◌then◌else◌}
use Rattle.std.specs.List.{AllByRecursion, list_any, position_or_len}
use Rattle.std.proofs.lemmas.List.{take-append-drop}
use Rattle.std.proofs.lemmas.List.Concat.{flat_map-append}
use Rattle.std.proofs.lemmas.List.Sums.{sum_by-cons}
use Rattle.cob_picture.specs.declared.symbol.Symbol.{Symbol}
use Rattle.cob_picture.specs.declared.symbol.Symbol.TheVariants.{A, X, Nine, S, V, P, B, Zero, Slash, Comma, Point, Z, Star, Dollar, Plus, Minus, Credit, Debit}
use Rattle.cob_picture.specs.declared.symbol.Run.{Run}
use Rattle.cob_picture.specs.declared.position.Position.{Position}
use Rattle.cob_picture.specs.declared.position.PositionRole.{PositionRole}
use Rattle.cob_picture.specs.declared.position.PositionRole.TheVariants.{Digit, Character}
use Rattle.cob_picture.specs.declared.category.Category.{Category}
use Rattle.cob_picture.specs.declared.category.Category.TheVariants.{Alphabetic, Numeric, Alphanumeric, AlphanumericEdited, NumericEdited}
use Rattle.cob_picture.specs.Positions.{is, symbol_count, written_out, shows_number, is_edited, settled_role, floating, is_that, role_at, position_at, positions_from, positions}
use Rattle.cob_picture.specs.Runs.{ArePositive}
use Rattle.cob_picture.specs.Counts.{is_digit_place, width, size, digits, is_scaling, decimal_places, is_decimal_point, point_leads, before_point, after_point, left_of_point, right_of_point, is_sign_symbol, signed}
use Rattle.cob_picture.specs.Measures.{AreCountsOver, symbols_size}
use Rattle.cob_picture.specs.Categories.{IsOf}
use Rattle.cob_picture.specs.Pictures.{IsPicture}
use Rattle.cob_picture.specs.Laws.{TakesBytes}
use Rattle.cob_picture.proofs.Times.{is_other, times-append, signs_written, points_written, digits_written, scaling_written, length_written}
use Rattle.cob_picture.proofs.EditedFacts.{edited_none}
use Rattle.cob_picture.proofs.Placed.{one_if, seen_after, seen_runs, placed-append, digits-append, size-placed, signed_runs, is_plain, MayFloat, is_true, floating_may, scaling-placed, decimal-placed, digits-cons, decimal-cons, IsParted, parted, leads_runs, any_placed}

-- ---- pictures that show no number

abbrev sixth : List Symbol → ℕ
sixth xs = symbol_count A xs + symbol_count X xs + symbol_count Nine xs + symbol_count B xs + symbol_count Zero xs + symbol_count Slash xs

sixth-cons : (s : Symbol) (xs : List Symbol) → sixth (s ∷ xs) ≡ one_if (is_plain s) + sixth xs
sixth-cons A xs = omega arith
sixth-cons X xs = omega arith
sixth-cons Nine xs = omega arith
sixth-cons S xs = omega arith
sixth-cons V xs = omega arith
sixth-cons P xs = omega arith
sixth-cons B xs = omega arith
sixth-cons Zero xs = omega arith
sixth-cons Slash xs = omega arith
sixth-cons Comma xs = omega arith
sixth-cons Point xs = omega arith
sixth-cons Z xs = omega arith
sixth-cons Star xs = omega arith
sixth-cons Dollar xs = omega arith
sixth-cons Plus xs = omega arith
sixth-cons Minus xs = omega arith
sixth-cons Credit xs = omega arith
sixth-cons Debit xs = omega arith

sixth_le : (xs : List Symbol) → sixth xs ≤ length xs
sixth_le [] = omega arith
sixth_le (s ∷ xs) = at (is_plain s) refl (sixth_le xs)
  where
    at : (b : Bool) → is_plain s ≡ b → sixth xs ≤ length xs → sixth (s ∷ xs) ≤ length (s ∷ xs)
    at true e h = let one : one_if (is_plain s) ≡ 1 = ap one_if e in omega (arith, sixth-cons s xs)
    at false e h = let none : one_if (is_plain s) ≡ 0 = ap one_if e in omega (arith, sixth-cons s xs)

abbrev ArePlain : List Symbol → Type 0
ArePlain xs = AllByRecursion (λ s. is_plain s ≡ true) xs

all_plain : (xs : List Symbol) → length xs ≤ sixth xs → ArePlain xs
all_plain [] h = tt
all_plain (s ∷ xs) h = at (is_plain s) refl (λ le. all_plain xs le)
  where
    at : (b : Bool) → is_plain s ≡ b → (length xs ≤ sixth xs → ArePlain xs) → ArePlain (s ∷ xs)
    at true e more = let one : one_if (is_plain s) ≡ 1 = ap one_if e in (e, more (omega (arith, sixth-cons s xs)))
    at false e more = let none : one_if (is_plain s) ≡ 0 = ap one_if e in absurd (omega (arith, sixth-cons s xs, sixth_le xs))

are_plain : (c : Category) (xs : List Symbol) → shows_number c ≡ false → IsOf c xs → ArePlain xs × (0 < length xs)
are_plain Alphabetic xs e o = (all_plain xs (omega (arith, o.each)), o.some)
are_plain Alphanumeric xs e o = (all_plain xs (omega (arith, o.each)), omega (arith, o.not_letters))
are_plain AlphanumericEdited xs e o = (all_plain xs (omega (arith, o.each)), omega (arith, o.each, o.characters))
are_plain Numeric xs e o = absurd cc
are_plain NumericEdited xs e o = absurd cc

abbrev settled_nine : Bool → PositionRole
settled_nine b = if b then Digit else Character

settled_plain : (c : Category) (s : Symbol) → shows_number c ≡ false → is_plain s ≡ true → is_digit_place (settled_role c s) ≡ false
settled_plain c A e p = refl
settled_plain c X e p = refl
settled_plain c Nine e p = ap (λ (b : Bool). is_digit_place (settled_nine b)) e
settled_plain c S e p = absurd cc
settled_plain c V e p = absurd cc
settled_plain c P e p = absurd cc
settled_plain c B e p = refl
settled_plain c Zero e p = refl
settled_plain c Slash e p = refl
settled_plain c Comma e p = absurd cc
settled_plain c Point e p = absurd cc
settled_plain c Z e p = absurd cc
settled_plain c Star e p = absurd cc
settled_plain c Dollar e p = absurd cc
settled_plain c Plus e p = absurd cc
settled_plain c Minus e p = absurd cc
settled_plain c Credit e p = absurd cc
settled_plain c Debit e p = absurd cc

plain_sign : (s : Symbol) → is_plain s ≡ true → is_sign_symbol s ≡ false
plain_sign A p = refl
plain_sign X p = refl
plain_sign Nine p = refl
plain_sign S p = absurd cc
plain_sign V p = absurd cc
plain_sign P p = absurd cc
plain_sign B p = refl
plain_sign Zero p = refl
plain_sign Slash p = refl
plain_sign Comma p = absurd cc
plain_sign Point p = absurd cc
plain_sign Z p = absurd cc
plain_sign Star p = absurd cc
plain_sign Dollar p = absurd cc
plain_sign Plus p = absurd cc
plain_sign Minus p = absurd cc
plain_sign Credit p = absurd cc
plain_sign Debit p = absurd cc

plain_width : (s : Symbol) → is_plain s ≡ true → width s ≡ 1
plain_width A p = refl
plain_width X p = refl
plain_width Nine p = refl
plain_width S p = absurd cc
plain_width V p = absurd cc
plain_width P p = absurd cc
plain_width B p = refl
plain_width Zero p = refl
plain_width Slash p = refl
plain_width Comma p = absurd cc
plain_width Point p = absurd cc
plain_width Z p = absurd cc
plain_width Star p = absurd cc
plain_width Dollar p = absurd cc
plain_width Plus p = absurd cc
plain_width Minus p = absurd cc
plain_width Credit p = absurd cc
plain_width Debit p = absurd cc

plain_scaling : (s : Symbol) → is_plain s ≡ true → is P s ≡ false
plain_scaling A p = refl
plain_scaling X p = refl
plain_scaling Nine p = refl
plain_scaling S p = absurd cc
plain_scaling V p = absurd cc
plain_scaling P p = absurd cc
plain_scaling B p = refl
plain_scaling Zero p = refl
plain_scaling Slash p = refl
plain_scaling Comma p = absurd cc
plain_scaling Point p = absurd cc
plain_scaling Z p = absurd cc
plain_scaling Star p = absurd cc
plain_scaling Dollar p = absurd cc
plain_scaling Plus p = absurd cc
plain_scaling Minus p = absurd cc
plain_scaling Credit p = absurd cc
plain_scaling Debit p = absurd cc

plain_digits : (c : Category) (q : Option Symbol) (seen : Bool) (xs : List Symbol) → MayFloat q → shows_number c ≡ false → ArePlain xs → digits (positions_from c q seen xs) ≡ 0
plain_digits c q seen [] may e all = refl
plain_digits c q seen (s ∷ xs) may e all =
    let here : one_if (is_digit_place (role_at c (is_that q s) seen s)) ≡ 0 = ap (λ (f : Bool). one_if (is_digit_place (role_at c f seen s))) (may.not_plain s all.0) ∙ ap one_if (settled_plain c s e all.0) in
    omega (arith, digits-cons (position_at c q seen s) (positions_from c q (seen || is_that q s) xs), here, plain_digits c q (seen || is_that q s) xs may e all.1)

plain_times : (xs : List Symbol) → ArePlain xs → symbol_count P xs ≡ 0
plain_times [] all = refl
plain_times (s ∷ xs) all = let none : one_if (is P s) ≡ 0 = ap one_if (plain_scaling s all.0) in omega (arith, none, plain_times xs all.1)

plain_size : (xs : List Symbol) → ArePlain xs → symbols_size xs ≡ length xs
plain_size [] all = refl
plain_size (s ∷ xs) all = omega (arith, plain_width s all.0, plain_size xs all.1)

plain_signs : (xs : List Symbol) → ArePlain xs → list_any is_sign_symbol xs ≡ false
plain_signs [] all = refl
plain_signs (s ∷ xs) all = ap (λ (b : Bool). b || list_any is_sign_symbol xs) (plain_sign s all.0) ∙ plain_signs xs all.1

-- what is said of pictures that show no number
pub record ShowsNone (ps : List Position) : Type 0 where
  pub kept : digits ps ≡ 0
  pub places : decimal_places ps ≡ 0
  pub sign : signed ps ≡ false

pub shows_none : (c : Category) (xs : List Symbol) → shows_number c ≡ false → IsOf c xs → ShowsNone (positions c xs)
shows_none c xs e o =
    let all = are_plain c xs e o in
    let none = plain_digits c (floating xs) false xs (floating_may xs) e all.0 in
    record {
      kept = none;
      places = omega (arith, decimal-placed c (floating xs) false xs (floating_may xs).no_scaling, none, plain_times xs all.0);
      sign = any_placed c (floating xs) false xs ∙ plain_signs xs all.0;
    }

-- ---- a digit takes a byte

one_le : (b : Bool) → one_if b ≤ 1
one_le true = omega arith
one_le false = omega arith

settled_wide : (c : Category) (s : Symbol) → one_if (is_digit_place (settled_role c s)) ≤ width s
settled_wide c A = omega arith
settled_wide c X = omega arith
settled_wide c Nine = one_le (is_digit_place (settled_role c Nine))
settled_wide c S = omega arith
settled_wide c V = omega arith
settled_wide c P = omega arith
settled_wide c B = omega arith
settled_wide c Zero = omega arith
settled_wide c Slash = omega arith
settled_wide c Comma = omega arith
settled_wide c Point = omega arith
settled_wide c Z = omega arith
settled_wide c Star = omega arith
settled_wide c Dollar = omega arith
settled_wide c Plus = omega arith
settled_wide c Minus = omega arith
settled_wide c Credit = omega arith
settled_wide c Debit = omega arith

digit_wide : (c : Category) (q : Option Symbol) (seen : Bool) (s : Symbol) → MayFloat q → one_if (is_digit_place (role_at c (is_that q s) seen s)) ≤ width s
digit_wide c q seen s may = at (is_that q s) refl
  where
    at : (f : Bool) → is_that q s ≡ f → one_if (is_digit_place (role_at c (is_that q s) seen s)) ≤ width s
    at true e = omega (arith, one_le (is_digit_place (role_at c (is_that q s) seen s)), may.wide s e)
    at false e = subst (λ (f : Bool). one_if (is_digit_place (role_at c f seen s)) ≤ width s) (sym e) (settled_wide c s)

digits_le_size : (c : Category) (q : Option Symbol) (seen : Bool) (xs : List Symbol) → MayFloat q → digits (positions_from c q seen xs) ≤ symbols_size xs
digits_le_size c q seen [] may = omega arith
digits_le_size c q seen (s ∷ xs) may = omega (arith, digits-cons (position_at c q seen s) (positions_from c q (seen || is_that q s) xs), digit_wide c q seen s may, digits_le_size c q (seen || is_that q s) xs may)

-- ---- parts hold no more than the whole

after_le : (ps : List Position) → decimal_places (after_point ps) ≤ decimal_places ps
after_le [] = omega arith
after_le (p ∷ ps) = at (is_decimal_point p.symbol) refl (after_le ps)
  where
    at : (b : Bool) → is_decimal_point p.symbol ≡ b → decimal_places (after_point ps) ≤ decimal_places ps → decimal_places (after_point (p ∷ ps)) ≤ decimal_places (p ∷ ps)
    at true e h = let x : decimal_places (after_point (p ∷ ps)) ≡ decimal_places ps = ap (λ (b : Bool). decimal_places (if b then ps else after_point ps)) e in omega (arith, decimal-cons p ps)
    at false e h = let x : decimal_places (after_point (p ∷ ps)) ≡ decimal_places (after_point ps) = ap (λ (b : Bool). decimal_places (if b then ps else after_point ps)) e in omega (arith, decimal-cons p ps)

abbrev scaling_count : List Position → ℕ
scaling_count ps = count_by is_scaling ps

scaling-cons : (p : Position) (ps : List Position) → scaling_count (p ∷ ps) ≡ one_if (is_scaling p) + scaling_count ps
scaling-cons p ps = sum_by-cons (λ (p : Position). cond (is_scaling p) 1 0) p ps

before_le : (ps : List Position) → scaling_count (before_point ps) ≤ scaling_count ps
before_le [] = omega arith
before_le (p ∷ ps) = at (is_decimal_point p.symbol) refl (before_le ps)
  where
    at : (b : Bool) → is_decimal_point p.symbol ≡ b → scaling_count (before_point ps) ≤ scaling_count ps → scaling_count (before_point (p ∷ ps)) ≤ scaling_count (p ∷ ps)
    at true e h = let x : scaling_count (before_point (p ∷ ps)) ≡ 0 = ap (λ (b : Bool). scaling_count (if b then [] else p ∷ before_point ps)) e in omega arith
    at false e h = let x : scaling_count (before_point (p ∷ ps)) ≡ scaling_count (p ∷ before_point ps) = ap (λ (b : Bool). scaling_count (if b then [] else p ∷ before_point ps)) e in omega (arith, scaling-cons p ps, scaling-cons p (before_point ps))

fraction_le : (ps : List Position) → decimal_places (right_of_point ps) ≤ decimal_places ps
fraction_le ps = at (point_leads (λ (p : Position). p.symbol) ps)
  where
    at : (b : Bool) → decimal_places (if b then ps else after_point ps) ≤ decimal_places ps
    at true = omega arith
    at false = after_le ps

missing_le : (ps : List Position) → scaling_count (left_of_point ps) ≤ scaling_count ps
missing_le ps = at (point_leads (λ (p : Position). p.symbol) ps)
  where
    at : (b : Bool) → scaling_count (if b then [] else before_point ps) ≤ scaling_count ps
    at true = omega arith
    at false = before_le ps

-- ---- what every picture keeps to

pub record IsBounded (c : Category) (ps : List Position) : Type 0 where
  pub few_digits : digits ps ≤ 31
  pub fraction : decimal_places (right_of_point ps) ≤ 31
  pub missing : count_by is_scaling (left_of_point ps) ≤ 30
  pub some : 0 < size ps
  pub fits : size ps ≤ 32752

pub bounded : (c : Category) (xs : List Symbol) → IsPicture c xs → IsBounded c (positions c xs)
bounded c xs p = at (shows_number c) refl
  where
    ps : List Position
    ps = positions c xs

    may : MayFloat (floating xs)
    may = floating_may xs

    all : decimal_places ps ≡ digits ps + symbol_count P xs
    all = decimal-placed c (floating xs) false xs may.no_scaling

    scaling : scaling_count ps ≡ symbol_count P xs
    scaling = scaling-placed c (floating xs) false xs

    bytes : size ps ≡ symbols_size xs
    bytes = size-placed c (floating xs) false xs

    at : (b : Bool) → shows_number c ≡ b → IsBounded c ps
    at true e =
        let some : 0 < digits ps = p.limits.some_digits e in
        record {
          few_digits = omega (arith, all, p.limits.few_digits);
          fraction = omega (arith, fraction_le ps, p.limits.few_digits);
          missing = omega (arith, missing_le ps, scaling, all, p.limits.few_digits);
          some = omega (arith, bytes, digits_le_size c (floating xs) false xs may);
          fits = p.limits.fits;
        }
    at false e =
        let none = shows_none c xs e p.order in
        let plain = are_plain c xs e p.order in
        record {
          few_digits = omega (arith, none.kept);
          fraction = omega (arith, fraction_le ps, none.places);
          missing = omega (arith, missing_le ps, scaling, all, none.places);
          some = omega (arith, bytes, plain_size xs plain.0, plain.1);
          fits = p.limits.fits;
        }

pub scale_none : (c : Category) (xs : List Symbol) → shows_number c ≡ false → IsPicture c xs → (decimal_places (right_of_point (positions c xs)) ≡ 0) × (count_by is_scaling (left_of_point (positions c xs)) ≡ 0)
scale_none c xs e p =
    let none = shows_none c xs e p.order in
    let ps = positions c xs in
    let all = decimal-placed c (floating xs) false xs (floating_may xs).no_scaling in
    (omega (arith, fraction_le ps, none.places), omega (arith, missing_le ps, scaling-placed c (floating xs) false xs, all, none.places))

-- ---- no symbol stands there more often than a picture has bytes, but S, V and P

times_le : (s : Symbol) (xs : List Symbol) → 0 < width s → symbol_count s xs ≤ symbols_size xs
times_le s [] lt = omega arith
times_le s (t ∷ xs) lt = at (is s t) refl (times_le s xs lt)
  where
    at : (b : Bool) → is s t ≡ b → symbol_count s xs ≤ symbols_size xs → symbol_count s (t ∷ xs) ≤ symbols_size (t ∷ xs)
    at true e h = let x : one_if (is s t) ≡ 1 = ap one_if e in let w : width t ≡ width s = ap width (is_true s t e) in omega (arith, x, w)
    at false e h = let x : one_if (is s t) ≡ 0 = ap one_if e in omega (arith, x)

plain_times_of : (s : Symbol) (xs : List Symbol) → is_plain s ≡ false → ArePlain xs → symbol_count s xs ≡ 0
plain_times_of s [] n all = refl
plain_times_of s (t ∷ xs) n all =
    let other : is s t ≡ false = is_other s t (λ e. let x : true ≡ false = sym all.0 ∙ ap is_plain e ∙ n in cc) in
    let none : one_if (is s t) ≡ 0 = ap one_if other in
    omega (arith, none, plain_times_of s xs n all.1)

pub once_at_most : (c : Category) (xs : List Symbol) → IsOf c xs → (symbol_count S xs ≤ 1) × (symbol_count V xs ≤ 1)
once_at_most Numeric xs (n, is_one, e) = (omega (arith, ap (symbol_count S) e, signs_written n, is_one.signs), omega (arith, ap (symbol_count V) e, points_written n, is_one.points))
once_at_most Alphabetic xs o = let all = are_plain Alphabetic xs refl o in (omega (arith, plain_times_of S xs refl all.0), omega (arith, plain_times_of V xs refl all.0))
once_at_most Alphanumeric xs o = let all = are_plain Alphanumeric xs refl o in (omega (arith, plain_times_of S xs refl all.0), omega (arith, plain_times_of V xs refl all.0))
once_at_most AlphanumericEdited xs o = let all = are_plain AlphanumericEdited xs refl o in (omega (arith, plain_times_of S xs refl all.0), omega (arith, plain_times_of V xs refl all.0))
once_at_most NumericEdited xs o = let n = edited_none xs o in (omega (arith, n.no_s), n.one_v)

pub times_fit : (c : Category) (xs : List Symbol) → IsPicture c xs → (s : Symbol) → symbol_count s xs ≤ 32752
times_fit c xs p A = omega (arith, times_le A xs (omega arith), size-placed c (floating xs) false xs, p.limits.fits)
times_fit c xs p X = omega (arith, times_le X xs (omega arith), size-placed c (floating xs) false xs, p.limits.fits)
times_fit c xs p Nine = omega (arith, times_le Nine xs (omega arith), size-placed c (floating xs) false xs, p.limits.fits)
times_fit c xs p S = omega (arith, (once_at_most c xs p.order).0)
times_fit c xs p V = omega (arith, (once_at_most c xs p.order).1)
times_fit c xs p P = omega (arith, decimal-placed c (floating xs) false xs (floating_may xs).no_scaling, p.limits.few_digits)
times_fit c xs p B = omega (arith, times_le B xs (omega arith), size-placed c (floating xs) false xs, p.limits.fits)
times_fit c xs p Zero = omega (arith, times_le Zero xs (omega arith), size-placed c (floating xs) false xs, p.limits.fits)
times_fit c xs p Slash = omega (arith, times_le Slash xs (omega arith), size-placed c (floating xs) false xs, p.limits.fits)
times_fit c xs p Comma = omega (arith, times_le Comma xs (omega arith), size-placed c (floating xs) false xs, p.limits.fits)
times_fit c xs p Point = omega (arith, times_le Point xs (omega arith), size-placed c (floating xs) false xs, p.limits.fits)
times_fit c xs p Z = omega (arith, times_le Z xs (omega arith), size-placed c (floating xs) false xs, p.limits.fits)
times_fit c xs p Star = omega (arith, times_le Star xs (omega arith), size-placed c (floating xs) false xs, p.limits.fits)
times_fit c xs p Dollar = omega (arith, times_le Dollar xs (omega arith), size-placed c (floating xs) false xs, p.limits.fits)
times_fit c xs p Plus = omega (arith, times_le Plus xs (omega arith), size-placed c (floating xs) false xs, p.limits.fits)
times_fit c xs p Minus = omega (arith, times_le Minus xs (omega arith), size-placed c (floating xs) false xs, p.limits.fits)
times_fit c xs p Credit = omega (arith, times_le Credit xs (omega arith), size-placed c (floating xs) false xs, p.limits.fits)
times_fit c xs p Debit = omega (arith, times_le Debit xs (omega arith), size-placed c (floating xs) false xs, p.limits.fits)

-- ---- counting over runs

positive_take : (k : ℕ) (runs : List Run) → ArePositive runs → ArePositive (take k runs)
positive_take zero runs pos = tt
positive_take (suc k) [] pos = tt
positive_take (suc k) (r ∷ runs) pos = (pos.0, positive_take k runs pos.1)

pub counts_are : (c : Category) (runs : List Run) (k before behind missing added bytes : ℕ) (sign : Bool) → ArePositive runs
    → k ≡ (if point_leads (λ (r : Run). r.symbol) runs then 0 else position_or_len (λ r. is_decimal_point r.symbol) runs)
    → before ≡ digits (positions_from c (floating (written_out runs)) false (written_out (take k runs)))
    → behind ≡ digits (positions_from c (floating (written_out runs)) (list_any (λ r. is_that (floating (written_out runs)) r.symbol) (take k runs)) (written_out (drop k runs)))
    → missing ≡ symbol_count P (written_out (take k runs)) → added ≡ symbol_count P (written_out (drop k runs)) → bytes ≡ symbols_size (written_out runs)
    → sign ≡ list_any (λ r. is_sign_symbol r.symbol) runs
    → AreCountsOver (positions c (written_out runs)) record { digits = before + behind; decimal_places = before + behind + missing + added; fraction = behind + added; missing = missing; size = bytes; signed = sign }
counts_are c runs k before behind missing added bytes sign pos here eb ef em ea es eg =
    let may = floating_may xs in
    let joined : xs ≡ wx ++ fx = ap written_out (sym (take-append-drop k runs)) ∙ flat_map-append (λ (r : Run). replicate r.count r.symbol) (take k runs) (drop k runs) in
    let seen : seen_after q false wx ≡ found = seen_runs q false (take k runs) (positive_take k runs pos) in
    let cut : positions_from c q false xs ≡ positions_from c q false wx ++ positions_from c q found fx =
    ap (positions_from c q false) joined ∙ placed-append c q false wx fx ∙ ap (λ (b : Bool). positions_from c q false wx ++ positions_from c q b fx) seen in
    let kept : digits (positions_from c q false xs) ≡ before + behind = ap digits cut ∙ digits-append (positions_from c q false wx) (positions_from c q found fx) ∙ (let x : digits (positions_from c q false wx) + digits (positions_from c q found fx) ≡ before + behind = omega (arith, eb, ef) in x) in
    let scaling : symbol_count P xs ≡ missing + added = ap (symbol_count P) joined ∙ times-append P wx fx ∙ (let x : symbol_count P wx + symbol_count P fx ≡ missing + added = omega (arith, em, ea) in x) in
    let right = decimal-placed c q found fx may.no_scaling in
    let sides = at_point (point_leads (λ (r : Run). r.symbol) runs) refl seen in
    record {
      kept = sym kept;
      all = omega (arith, kept, scaling, decimal-placed c q false xs may.no_scaling);
      behind = omega (arith, sides.0, right, ef, ea);
      missing = omega (arith, sides.1, em);
      bytes = es ∙ sym (size-placed c q false xs);
      sign = eg ∙ sym (signed_runs c q false runs pos);
    }
  where
    xs : List Symbol
    xs = written_out runs

    q : Option Symbol
    q = floating xs

    wx : List Symbol
    wx = written_out (take k runs)

    fx : List Symbol
    fx = written_out (drop k runs)

    found : Bool
    found = list_any (λ (r : Run). is_that q r.symbol) (take k runs)

    ps : List Position
    ps = positions_from c q false xs

    at_point : (b : Bool) → point_leads (λ (r : Run). r.symbol) runs ≡ b → seen_after q false wx ≡ found → (decimal_places (right_of_point ps) ≡ decimal_places (positions_from c q found fx)) × (count_by is_scaling (left_of_point ps) ≡ symbol_count P wx)
    at_point true e seen =
        let zero_runs : k ≡ 0 = here ∙ ap (λ (b : Bool). (if b then 0 else position_or_len (λ (r : Run). is_decimal_point r.symbol) runs)) e in
        let leads : point_leads (λ (p : Position). p.symbol) ps ≡ true = leads_runs c q false runs pos ∙ e in
        let none : take k runs ≡ [] = ap (λ (n : ℕ). take n runs) zero_runs in
        let all : drop k runs ≡ runs = ap (λ (n : ℕ). drop n runs) zero_runs in
        let no_seen : found ≡ false = ap (list_any (λ (r : Run). is_that q r.symbol)) none in (
          ap (λ (b : Bool). decimal_places (if b then ps else after_point ps)) leads ∙ ap (λ (t : List Run). decimal_places (positions_from c q false (written_out t))) (sym all) ∙ ap (λ (b : Bool). decimal_places (positions_from c q b fx)) (sym no_seen),
          ap (λ (b : Bool). scaling_count (if b then [] else before_point ps)) leads ∙ ap (λ (t : List Run). symbol_count P (written_out t)) (sym none),
        )
    at_point false e seen =
        let place : k ≡ position_or_len (λ r. is_decimal_point r.symbol) runs = here ∙ ap (λ (b : Bool). (if b then 0 else position_or_len (λ (r : Run). is_decimal_point r.symbol) runs)) e in
        let leads : point_leads (λ (p : Position). p.symbol) ps ≡ false = leads_runs c q false runs pos ∙ e in
        let two = subst (IsParted c q false runs) (sym place) (parted c q false runs (floating_may xs) pos) in (
          ap (λ (b : Bool). decimal_places (if b then ps else after_point ps)) leads ∙ two.after ∙ ap (λ (b : Bool). decimal_places (positions_from c q b fx)) seen,
          ap (λ (b : Bool). scaling_count (if b then [] else before_point ps)) leads ∙ ap scaling_count two.before ∙ scaling-placed c q false wx,
        )

-- ---- how many positions a picture of a number has

length_size : (xs : List Symbol) → length xs ≤ symbols_size xs + symbol_count S xs + symbol_count V xs + symbol_count P xs
length_size [] = omega arith
length_size (s ∷ xs) = omega (arith, one_wide s, length_size xs)
  where
    one_wide : (s : Symbol) → 1 ≤ width s + one_if (is S s) + one_if (is V s) + one_if (is P s)
    one_wide A = omega arith
    one_wide X = omega arith
    one_wide Nine = omega arith
    one_wide S = omega arith
    one_wide V = omega arith
    one_wide P = omega arith
    one_wide B = omega arith
    one_wide Zero = omega arith
    one_wide Slash = omega arith
    one_wide Comma = omega arith
    one_wide Point = omega arith
    one_wide Z = omega arith
    one_wide Star = omega arith
    one_wide Dollar = omega arith
    one_wide Plus = omega arith
    one_wide Minus = omega arith
    one_wide Credit = omega arith
    one_wide Debit = omega arith

nines_le : (c : Category) (q : Option Symbol) (seen : Bool) (xs : List Symbol) → shows_number c ≡ true → MayFloat q → symbol_count Nine xs ≤ digits (positions_from c q seen xs)
nines_le c q seen [] e may = omega arith
nines_le c q seen (s ∷ xs) e may = at (is Nine s) refl (nines_le c q (seen || is_that q s) xs e may)
  where
    ps : List Position
    ps = positions_from c q (seen || is_that q s) xs

    at : (b : Bool) → is Nine s ≡ b → symbol_count Nine xs ≤ digits ps → symbol_count Nine (s ∷ xs) ≤ digits (positions_from c q seen (s ∷ xs))
    at true h more =
        let nine : s ≡ Nine = is_true Nine s h in
        let settled : is_that q s ≡ false = ap (is_that q) nine ∙ may.not_plain Nine refl in
        let digit : one_if (is_digit_place (role_at c (is_that q s) seen s)) ≡ 1 =
        ap (λ (f : Bool). one_if (is_digit_place (role_at c f seen s))) settled ∙ ap (λ (t : Symbol). one_if (is_digit_place (settled_role c t))) nine ∙ ap (λ (b : Bool). one_if (is_digit_place (settled_nine b))) e in
        let one : one_if (is Nine s) ≡ 1 = ap one_if h in
        omega (arith, digits-cons (position_at c q seen s) ps, digit, one, more)
    at false h more = let none : one_if (is Nine s) ≡ 0 = ap one_if h in omega (arith, digits-cons (position_at c q seen s) ps, none, more)

-- a number that isn't edited has few symbols
pub few_numeric : (xs : List Symbol) → IsPicture Numeric xs → length xs ≤ 64
few_numeric xs p =
    let n = (p.order).0 in
    let is_one = (p.order).1 in
    let w = (p.order).2 in
    omega (arith, ap (length {A = Symbol}) w, length_written n, ap (symbol_count Nine) w, digits_written n, ap (symbol_count P) w, scaling_written n, is_one.signs, is_one.points, nines_le Numeric (floating xs) false xs refl (floating_may xs), decimal-placed Numeric (floating xs) false xs (floating_may xs).no_scaling, p.limits.few_digits)

-- each symbol of a picture that shows no number takes one byte
pub one_byte_each : (c : Category) (xs : List Symbol) → shows_number c ≡ false → IsOf c xs → size (positions c xs) ≡ length xs
one_byte_each c xs e o = size-placed c (floating xs) false xs ∙ plain_size xs (are_plain c xs e o).0

-- a picture of a number, or an edited one, has few positions
pub few_positions : (c : Category) (xs : List Symbol) → (shows_number c ≡ true) ⊎ (is_edited c ≡ true) → IsPicture c xs → length xs ≤ 250
few_positions NumericEdited xs e p =
    let none = edited_none xs p.order in
    omega (arith, length_size xs, none.no_s, none.one_v, none.no_p, size-placed NumericEdited (floating xs) false xs, p.limits.edited_fits refl)
few_positions AlphanumericEdited xs e p = omega (arith, one_byte_each AlphanumericEdited xs refl p.order, p.limits.edited_fits refl)
few_positions Numeric xs e p = omega (arith, few_numeric xs p)
few_positions Alphabetic xs (inl e) p = absurd cc
few_positions Alphabetic xs (inr e) p = absurd cc
few_positions Alphanumeric xs (inl e) p = absurd cc
few_positions Alphanumeric xs (inr e) p = absurd cc

-- an item of each picture takes a byte at least
pub takes_bytes : TakesBytes
takes_bytes text p is = subst (λ (ps : List Position). 0 < size ps) (sym is.positions) (bounded p.category is.symbols is.is).some
